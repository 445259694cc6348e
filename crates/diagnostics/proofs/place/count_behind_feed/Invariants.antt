use Rattle.std.proofs.Common.{◌≡◌, ◌≤◌, take}
use Rattle.std.specs.List.{suffix_len}
use Rattle.diagnostics.specs.Places.{is_no_feed}
use Rattle.diagnostics.proofs.place.count_behind_feed.Given as goal

-- the bytes so far
abbrev pub invariant-loop-byte : goal.invariant-loop-byte
invariant-loop-byte l = (l.count ≡ suffix_len is_no_feed (take l.byte-index l.bytes)) × (l.count ≤ l.byte-index)
