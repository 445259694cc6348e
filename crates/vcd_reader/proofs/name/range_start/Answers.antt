use Rattle.std.proofs.Common.{◌≡◌, ◌∙◌, ◌-◌, ℕ, List, length, take, drop, sym, ap, arith}
use Rattle.std.proofs.Math.Seq.{take-length}
use Rattle.std.proofs.lemmas.List.{take_all, length-drop}
use Rattle.vcd_reader.specs.Header.{is_range}
use Rattle.vcd_reader.proofs.NameLaws.{name-none, name-cut, name-kept}
use Rattle.vcd_reader.proofs.name.range_start.Goals as goal

-- a slice to the end
slice-rest : (bs : List ℕ) (i : ℕ) → take (length bs - i) (drop i bs) ≡ drop i bs
slice-rest bs i = take_all (length bs - i) (drop i bs) (omega (arith, length-drop i bs))

pub returns-in-None-clause-name : goal.returns-in-None-clause-name
returns-in-None-clause-name c = take-length c.args.text.now ∙ name-none c.args.text.now c.in-None.ensures

pub returns-then-is_bracket-clause-name : goal.returns-then-is_bracket-clause-name
returns-then-is_bracket-clause-name c =
    name-cut c.args.text.now c.in-Some.open c.in-Some.ensures.0 c.in-Some.ensures.1 c.in-Some.ensures.2
    (ap is_range (sym (slice-rest c.args.text.now c.in-Some.open)) ∙ sym c.if-is_bracket.ensures)

pub returns-else-is_bracket-clause-name : goal.returns-else-is_bracket-clause-name
returns-else-is_bracket-clause-name c =
    take-length c.args.text.now
    ∙ name-kept c.args.text.now c.in-Some.open c.in-Some.ensures.0 c.in-Some.ensures.1 c.in-Some.ensures.2
    (ap is_range (sym (slice-rest c.args.text.now c.in-Some.open)) ∙ sym c.if-is_bracket.ensures)
