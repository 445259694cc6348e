use Rattle.std.proofs.Common.{inr, refl, sym, ◌∙◌}
use Rattle.std.proofs.lemmas.Bool.{eqb-true}
use Rattle.std.proofs.lemmas.List.{nil_from_length}
use Rattle.verifier.proofs.ScanLaws.{empty_first}
use Rattle.verifier.specs.Rules.{sample_rules}
use Rattle.verifier.specs.Views.{frame_data}
use Rattle.verifier.specs.Inference.{found}
use Rattle.verifier.specs.declared.refusal.Refusal.TheVariants.{NoHalt}
use Rattle.verifier.proofs.sample_scan.infer.Goals as goal

pub returns-then-is_empty-clause-refused : goal.returns-then-is_empty-clause-refused
returns-then-is_empty-clause-refused c =
    inr (record {
      fault = found 1 0 NoHalt;
      first =
          empty_first (sample_rules (frame_data c.args.frame.now)) 0 c.args.code.now
          (nil_from_length c.args.code.now (eqb-true _ 0 (sym c.is_empty.ensures ∙ c.if-is_empty.true)));
      is = refl;
    })
