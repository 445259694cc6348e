use Rattle.std.proofs.Common.{◌≡◌, ◌+◌, ◌≤◌, drop}
use Rattle.diagnostics.specs.Items.{held_from}
use Rattle.diagnostics.proofs.items.held_length.Given as goal

-- how many tokens are left to count, with so many blocks open
abbrev pub invariant-loop-place : goal.invariant-loop-place
invariant-loop-place l =
    (held_from 0 l.tokens ≡ l.place + held_from l.blocks (drop l.place l.tokens)) × (l.blocks ≤ l.place)
