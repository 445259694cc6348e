use Rattle.std.proofs.Common.{◌≡◌, ◌+◌, map, drop}
use Rattle.diagnostics.specs.Items.{through}
use Rattle.diagnostics.proofs.items.through.Given as goal

-- how many tokens are left to count
abbrev pub invariant-loop-place : goal.invariant-loop-place
invariant-loop-place l =
    through (map (λ w. w.now) l.words) l.tokens
    ≡ l.place + through (map (λ w. w.now) l.words) (drop l.place l.tokens)
