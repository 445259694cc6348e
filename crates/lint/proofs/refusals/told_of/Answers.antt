use Rattle.std.proofs.Common.{ℕ, List, string_bytes, subst}
use Rattle.std.specs.Prelude.{slice_get}
use Rattle.diagnostics.specs.declared.front.Refusal.{Refusal}
use Rattle.diagnostics.specs.Places.{IsLineOf}
use Rattle.diagnostics.proofs.PlaceLaws.{line-kept}
use Rattle.lint.specs.Tells.{text_of, AddsTold}
use Rattle.lint.proofs.TellLaws.{tells_none, tells_more}
use Rattle.lint.proofs.refusals.told_of.Goals as goal

pub loop-refusal-init : goal.loop-refusal-init
loop-refusal-init c =
    let origin = c.args.origin.now in
    let line = c.first.result in
    record {
      told = tells_none origin.parts.now origin.added.now (string_bytes c.new-text.result) c.new-text.ensures.bytes;
      reached = line-kept (text_of (slice_get origin.parts.now 0)) 0 line
          (subst (λ (text : List ℕ). IsLineOf text 0 line) c.text_in.ensures c.first.ensures);
    }

pub loop-refusal-preserved : goal.loop-refusal-preserved
loop-refusal-preserved c =
    let origin = c.args.origin.now in
    record {
      told = tells_more origin.parts.now origin.added.now c.args.refusals.now c.loop-refusal.refusal-index
          c.refusal-item.result (string_bytes c.loop-refusal.text) (string_bytes c.push_told.new.out)
          c.loop-refusal-test.true
          (subst (λ (r : Refusal). AddsTold origin.parts.now origin.added.now r (string_bytes c.loop-refusal.text)
          (string_bytes c.push_told.new.out)) c.refusal-item.is c.in_ok-push_told.ensures.told)
          c.loop-refusal.invariant.told;
      reached = c.in_ok-push_told.ensures.reached;
    }
