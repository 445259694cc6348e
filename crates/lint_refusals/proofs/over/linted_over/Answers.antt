use Rattle.std.proofs.Common.{◌∙◌, ℕ, List, Option, map, subst, inl, inr, refl}
use Rattle.vcd_reader.specs.Held.{variables_of}
use Rattle.diagnostics.specs.Linted.{refusing, IsTold}
use Rattle.lint_refusals.specs.Alone.{IsRefusedOf}
use Rattle.lint_refusals.specs.Beside.{HasFaultAt}
use Rattle.lint_refusals.specs.Refused.{IsRefused}
use Rattle.lint_refusals.proofs.over.linted_over.Goals as goal

pub returns-clause-told : goal.returns-clause-told
returns-clause-told c =
    let vs = variables_of c.args.meant.now.dump.now in
    let text = c.args.text.now in
    let linted = c.in_ok-linted.linted in
    subst (λ (d : Option (List (List ℕ))). IsTold (refusing (IsRefused vs) (HasFaultAt vs)
    (λ (start : ℕ) (end : ℕ) (at : ℕ). IsRefusedOf vs d text start end at)) c.args.ends.now text
    (map (λ r. r.at) linted.refusals.items) linted.rest) (c.slice_of.ensures ∙ c.in_ok-declared.ensures)
    c.in_ok-linted.ensures.told

pub returns-clause-accepted : goal.returns-clause-accepted
returns-clause-accepted c = λ none.
    elim (c.in_ok-linted.ensures.accepted none) [ inl whole ↦ whole | inr bare ↦ absurd (bare.other refl) ]
