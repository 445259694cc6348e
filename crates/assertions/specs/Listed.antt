-- The booleans of a sequence, and which of them an assertion's list has.
use Rattle.std.specs.Prelude.{◌≡◌, ◌⊎◌, ℕ, ◌<◌, Option, Some, None}
use Rattle.assertions.specs.declared.sequence.Boolean.{Boolean}
use Rattle.assertions.specs.declared.sequence.Boolean.TheVariants.{One, Listed}
use Rattle.assertions.specs.Written.{Written, boolean, delay, lead, repeat, or, and, intersect}
use Rattle.assertions.specs.Written.{throughout}

-- P holds of each boolean of a sequence.
abbrev pub EachBoolean : {B : Type 0} → (B → Type 0) → Written B → Type 0
EachBoolean P (boolean b) = P b
EachBoolean P (delay r least most s) = EachBoolean P r × EachBoolean P s
EachBoolean P (lead least most s) = EachBoolean P s
EachBoolean P (repeat r least most) = EachBoolean P r
EachBoolean P (or r s) = EachBoolean P r × EachBoolean P s
EachBoolean P (and r s) = EachBoolean P r × EachBoolean P s
EachBoolean P (intersect r s) = EachBoolean P r × EachBoolean P s
EachBoolean P (throughout b r) = P b × EachBoolean P r

-- It is one of the sequence's booleans.
abbrev pub IsUsed : {B : Type 0} → B → Written B → Type 0
IsUsed b (boolean c) = b ≡ c
IsUsed b (delay r least most s) = IsUsed b r ⊎ IsUsed b s
IsUsed b (lead least most s) = IsUsed b s
IsUsed b (repeat r least most) = IsUsed b r
IsUsed b (or r s) = IsUsed b r ⊎ IsUsed b s
IsUsed b (and r s) = IsUsed b r ⊎ IsUsed b s
IsUsed b (intersect r s) = IsUsed b r ⊎ IsUsed b s
IsUsed b (throughout c r) = (b ≡ c) ⊎ IsUsed b r

-- It is the constant 1, or one of so many that are listed.
abbrev pub IsListed : ℕ → Boolean → Type 0
IsListed count One = Unit {0}
IsListed count (Listed i) = i < count

-- A disabling boolean, if there is one, is one of so many that are listed.
abbrev pub IsListedOption : ℕ → Option Boolean → Type 0
IsListedOption count None = Unit {0}
IsListedOption count (Some One) = ⊥
IsListedOption count (Some (Listed i)) = i < count
