use Rattle.std.proofs.Common.{◌≡◌, ◌≤◌, take}
use Rattle.std.specs.List.{suffix_len}
use Rattle.lint_notes.specs.Told.{is_no_dot}
use Rattle.lint_notes.proofs.reset_told.word_length.Given as goal

-- the bytes so far
abbrev pub invariant-loop-byte : goal.invariant-loop-byte
invariant-loop-byte l = (l.count ≡ suffix_len is_no_dot (take l.byte-index l.path)) × (l.count ≤ l.byte-index)
