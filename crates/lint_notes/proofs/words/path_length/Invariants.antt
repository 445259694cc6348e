use Rattle.std.proofs.Common.{◌≡◌, ◌+◌, drop}
use Rattle.std.specs.List.{prefix_len}
use Rattle.lint_notes.specs.Words.{is_path_byte}
use Rattle.lint_notes.proofs.words.path_length.Given as goal

-- how many bytes are left to count
abbrev pub invariant-loop-place : goal.invariant-loop-place
invariant-loop-place l =
    prefix_len is_path_byte l.bytes ≡ l.place + prefix_len is_path_byte (drop l.place l.bytes)
