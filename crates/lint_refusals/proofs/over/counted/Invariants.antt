use Rattle.std.proofs.Common.{◌≡◌, drop}
use Rattle.std.specs.List.{list_any}
use Rattle.lint_refusals.specs.Counted.{is_outside}
use Rattle.lint_refusals.proofs.over.counted.Given as goal

-- what the refusals so far leave to the others
abbrev pub invariant-loop-refusal : goal.invariant-loop-refusal
invariant-loop-refusal l =
    list_any (is_outside l.text l.ends) l.refusals
    ≡ list_any (is_outside l.text l.ends) (drop l.refusal-index l.refusals)
