-- The fewest and the most ticks of a match of a sequence, by its form (IEEE 1800-2017, 16.9).
use Rattle.std.specs.Prelude.{ℕ, zero, suc, ◌+◌, ◌-◌, ◌*◌, max, min}
use Rattle.assertions.specs.Written.{Written, boolean, delay, lead, repeat, or, and, intersect}
use Rattle.assertions.specs.Written.{throughout}

-- two parts that share a tick, each of one at least
abbrev pub fused : ℕ → ℕ → ℕ
fused r s = (max r 1 + max s 1) - 1

-- two parts of which the second begins so many ticks after the end of the first, one at least
abbrev pub apart : ℕ → ℕ → ℕ → ℕ
apart r n s = (r + max n 1 + s) - 1

-- the fewest ticks of r ##[least:most] s
abbrev pub delayed_ticks : ℕ → ℕ → ℕ → ℕ → ℕ
delayed_ticks r (suc n) most s = apart r (suc n) s
delayed_ticks r zero zero s = fused r s
delayed_ticks r zero (suc most) s = min (apart r 1 s) (fused r s)

abbrev pub fewest_ticks : {B : Type 0} → Written B → ℕ
fewest_ticks (boolean b) = 1
fewest_ticks (delay r least most s) = delayed_ticks (fewest_ticks r) least most (fewest_ticks s)
fewest_ticks (lead least most s) = fewest_ticks s + least
fewest_ticks (repeat r least most) = fewest_ticks r * least
fewest_ticks (or r s) = min (fewest_ticks r) (fewest_ticks s)
fewest_ticks (and r s) = max (fewest_ticks r) (fewest_ticks s)
fewest_ticks (intersect r s) = max (fewest_ticks r) (fewest_ticks s)
fewest_ticks (throughout b r) = fewest_ticks r

abbrev pub most_ticks : {B : Type 0} → Written B → ℕ
most_ticks (boolean b) = 1
most_ticks (delay r least most s) = (most_ticks r + most + most_ticks s) - 1
most_ticks (lead least most s) = most_ticks s + most
most_ticks (repeat r least most) = most_ticks r * most
most_ticks (or r s) = max (most_ticks r) (most_ticks s)
most_ticks (and r s) = max (most_ticks r) (most_ticks s)
most_ticks (intersect r s) = min (most_ticks r) (most_ticks s)
most_ticks (throughout b r) = most_ticks r
