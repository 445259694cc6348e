use Rattle.std.proofs.Common.{rules}
use Rattle.std.proofs.lemmas.List.Sorted.{IsNonDecreasingBy-from_sort_by_key}
use Rattle.diagnostics.specs.declared.front.Refusal.{Refusal}
use Rattle.lint_dump_notes.proofs.notes.told_notes.Goals as goal

pub returns : goal.returns
returns c =
    IsNonDecreasingBy-from_sort_by_key (λ (r : Refusal). r.at) _ c.in_ok-sort_by_key.ensures.sorted
    (λ a r q k. search rules)
