-- Which sequences match an empty segment, and which match a tick or more, were every boolean true
-- (IEEE 1800-2017, 16.12.22).
use Rattle.std.specs.Prelude.{ℕ, ◌+◌, Bool, false, ◌&&◌, ◌||◌, nat_le}
use Rattle.assertions.specs.Quantifiers.{some_in}
use Rattle.assertions.specs.Segments.{always, is_match}
use Rattle.assertions.specs.Written.{Written, boolean, delay, lead, repeat, or, and, intersect}
use Rattle.assertions.specs.Written.{throughout, kernel, weight}

-- whether it matches an empty segment, by its form
abbrev pub admits_empty : {B : Type 0} → Written B → Bool
admits_empty (boolean b) = false
admits_empty (delay r least most s) =
    (nat_le least 1 && nat_le 1 most) && (admits_empty r && admits_empty s)
admits_empty (lead least most s) = nat_le least 0 && admits_empty s
admits_empty (repeat r least most) = nat_le least 0 || admits_empty r
admits_empty (or r s) = admits_empty r || admits_empty s
admits_empty (and r s) = admits_empty r && admits_empty s
admits_empty (intersect r s) = admits_empty r && admits_empty s
admits_empty (throughout b r) = admits_empty r

-- the form alone: which boolean stands where doesn't count
abbrev pub bare : {B : Type 0} → Written B → Written (Unit {0})
bare (boolean b) = boolean tt
bare (delay r least most s) = delay (bare r) least most (bare s)
bare (lead least most s) = lead least most (bare s)
bare (repeat r least most) = repeat (bare r) least most
bare (or r s) = or (bare r) (bare s)
bare (and r s) = and (bare r) (bare s)
bare (intersect r s) = intersect (bare r) (bare s)
bare (throughout b r) = throughout tt (bare r)

-- whether a match takes just so many ticks, were every boolean true
unfoldable pub lasts : {B : Type 0} → Written B → ℕ → Bool
lasts r n = is_match always (kernel tt (bare r)) 0 n

-- whether it matches a tick or more: no match takes more than it weighs
unfoldable pub takes_ticks : {B : Type 0} → Written B → Bool
takes_ticks r = some_in 1 (weight r + 1) (λ n. lasts r n)
