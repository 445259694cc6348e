use Rattle.std.proofs.Common.{◌∙◌, List, ℕ, sym, ap, subst}
use Rattle.diagnostics.specs.declared.front.Refusal.{Refusal}
use Rattle.diagnostics.specs.Items.{AreItemEnds}
use Rattle.lint_refusals.specs.Counted.{counted}
use Rattle.lint_refusals.proofs.over.lint_over.Goals as goal

pub returns-clause-told : goal.returns-clause-told
returns-clause-told c = (
  c.as_slice.result.now,
  c.counted-items.ensures
      ∙ ap (λ (ends : List ℕ). counted c.args.text.now ends c.as_slice-3.result.now)
      (c.as_slice-2.ensures.value ∙ sym c.as_slice.ensures.value)
      ∙ ap (λ (rs : List Refusal). counted c.args.text.now c.as_slice.result.now rs) c.as_slice-3.ensures.value,
  (λ lexed. subst (λ (ends : List ℕ). AreItemEnds c.args.text.now ends) (sym c.as_slice.ensures.value)
      (c.in_ok-ends.ensures lexed)),
  c.in_ok-linted.ensures.told,
)
