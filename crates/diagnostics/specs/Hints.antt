-- Where a hint belongs.
use Rattle.std.specs.Prelude.{ℕ, ◌-◌, List, Bool, drop, nat_eq, nat_le, ◌&&◌}
use Rattle.std.specs.List.{starts_with}

-- whether a mark stands in the text, so many bytes before a byte
abbrev pub stands_before : List ℕ → ℕ → List ℕ → ℕ → Bool
stands_before text at mark back = nat_le back at && starts_with nat_eq (drop (at - back) text) mark
