use Rattle.std.specs.Prelude.{◌≡◌, ℕ, ◌+◌, ◌&&◌, not}
use Rattle.assertions.specs.Quantifiers.{some_in, first_true}
use Rattle.judging.specs.Tables.{marks, has_link}
use Rattle.judging.proofs.cause.first_broken.Given as goal

-- what is left decides
abbrev pub invariant-loop-place : goal.invariant-loop-place
invariant-loop-place l =
    let breaks =
    λ (e : ℕ). marks l.ends (e + 1) && not (some_in e l.count (has_link l.consequents e)) in
    first_true l.place l.below breaks ≡ first_true 0 l.below breaks
