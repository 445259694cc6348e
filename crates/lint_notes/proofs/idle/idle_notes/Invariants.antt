use Rattle.std.proofs.Common.{◌≡◌, ◌++◌, drop, map}
use Rattle.lint_notes.specs.Told.{key_of}
use Rattle.lint_notes.specs.Idle.{data_of, idle_keys}
use Rattle.lint_notes.proofs.idle.idle_notes.Given as goal

-- the notes of the assertions that are left still come
abbrev pub invariant-loop-place : goal.invariant-loop-place
invariant-loop-place l =
    map key_of l.notes.items
    ++ idle_keys (map data_of (drop l.place l.heads)) (drop l.place l.lines)
    ≡ idle_keys (map data_of l.heads) l.lines
