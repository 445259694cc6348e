-- Names with what they stand for.
use Rattle.std.specs.Prelude.{ℕ, ◌≤◌, Option, Some, None}

-- the first of two that is there
abbrev pub first_of : {V : Type 0} → Option V → Option V → Option V
first_of None b = b
first_of (Some a) b = Some a

pub record IsWidth (width : ℕ) : Type 0 where
  pub some_bits : 1 ≤ width
  pub at_most_128 : width ≤ 128
