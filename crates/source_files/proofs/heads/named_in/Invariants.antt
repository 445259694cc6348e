use Rattle.std.proofs.Common.{◌≡◌, ◌≤◌, ◌++◌, map, drop, length}
use Rattle.source_files.specs.Heads.{heads, head_of}
use Rattle.source_files.proofs.heads.named_in.Given as goal

-- the assertions so far, and then those of what is left
abbrev pub invariant-loop-end : goal.invariant-loop-end
invariant-loop-end l =
    (map head_of l.named.items
    ++ heads (length l.named.items) l.start l.left (drop l.end-index l.ends)
    ≡ heads 0 0 l.tokens l.ends)
    × (length l.named.items ≤ l.end-index)
