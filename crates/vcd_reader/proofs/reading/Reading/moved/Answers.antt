use Rattle.std.proofs.Common.{◌∙◌, sym, arith}
use Rattle.std.proofs.lemmas.Bool.{eqb-true}
use Rattle.std.proofs.lemmas.List.{nil_from_length}
use Rattle.vcd_reader.proofs.ReadingLaws.{read-unmoved, read-narrow}
use Rattle.vcd_reader.proofs.reading.Reading.moved.Goals.{then-by-eq0-via-then-by-eq0}
use Rattle.vcd_reader.proofs.reading.Reading.moved.Goals.{then-by-eq0-via-else-by-eq0+then-is_empty}
use Rattle.vcd_reader.proofs.reading.Reading.moved.Goals as goal

pub returns-then-by-eq0-clause-reading : goal.returns-then-by-eq0-clause-reading
returns-then-by-eq0-clause-reading c = λ declared bytes front long read.
    elim c.then-by-eq0.branch [
      | then-by-eq0-via-then-by-eq0 w ↦ read-unmoved front declared bytes _ _ _ _ _ _ _ _ (long ∙ w.if-by-eq0.true) read
      | then-by-eq0-via-else-by-eq0+then-is_empty w ↦ read-narrow front declared bytes _ _ _ _ _ _ _ _
          (nil_from_length c.args.self.high.items
          (omega (arith, eqb-true _ 0 (sym w.is_empty.ensures ∙ w.if-is_empty.true), c.args.self.high.ok.0))) read
    ]
