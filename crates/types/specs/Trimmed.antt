-- Sequences in which parts that weigh nothing are replaced.
use Rattle.std.specs.Prelude.{◌≡◌, ◌⊎◌, Bool, true, false}
use Rattle.assertions.specs.Written.{Written, boolean, delay, lead, repeat, or, and, intersect}
use Rattle.assertions.specs.Written.{throughout, weight}
use Rattle.assertions.specs.Emptiness.{admits_empty}

-- the empty segment alone: 1[*0]
abbrev pub empty_form : {B : Type 0} → B → Written B
empty_form true_one = repeat (boolean true_one) 0 0

-- What stands for a sequence that weighs nothing, by whether it matches an empty segment: 1[*0], or
-- 1[*0] ##0 1[*0], which matches no segment.
abbrev pub weightless_form : {B : Type 0} → B → Bool → Written B
weightless_form true_one true = empty_form true_one
weightless_form true_one false = delay (empty_form true_one) 0 0 (empty_form true_one)

-- The first weighs nothing, and the second stands for it.
pub record IsReplaced {B : Type 0} (true_one : B) (w u : Written B) : Type 0 where
  pub weightless : weight w ≡ 0
  pub is : u ≡ weightless_form true_one (admits_empty w)

-- The second is the first, but that parts which weigh nothing may be replaced.
abbrev pub IsTrimmed : {B : Type 0} → B → Written B → Written B → Type 0
IsTrimmed one (boolean b) u = u ≡ boolean b
IsTrimmed {B} one (delay r least most s) u =
    IsReplaced one (delay r least most s) u
    ⊎ ((a : Written B) × (b : Written B) × IsTrimmed one r a × IsTrimmed one s b
    × (u ≡ delay a least most b))
IsTrimmed {B} one (lead least most s) u =
    IsReplaced one (lead least most s) u
    ⊎ ((b : Written B) × IsTrimmed one s b × (u ≡ lead least most b))
IsTrimmed {B} one (repeat r least most) u =
    IsReplaced one (repeat r least most) u
    ⊎ ((a : Written B) × IsTrimmed one r a × (u ≡ repeat a least most))
IsTrimmed {B} one (or r s) u =
    IsReplaced one (or r s) u
    ⊎ ((a : Written B) × (b : Written B) × IsTrimmed one r a × IsTrimmed one s b × (u ≡ or a b))
IsTrimmed {B} one (and r s) u =
    IsReplaced one (and r s) u
    ⊎ ((a : Written B) × (b : Written B) × IsTrimmed one r a × IsTrimmed one s b × (u ≡ and a b))
IsTrimmed {B} one (intersect r s) u =
    IsReplaced one (intersect r s) u
    ⊎ ((a : Written B) × (b : Written B) × IsTrimmed one r a × IsTrimmed one s b
    × (u ≡ intersect a b))
IsTrimmed {B} one (throughout c r) u =
    IsReplaced one (throughout c r) u
    ⊎ ((a : Written B) × IsTrimmed one r a × (u ≡ throughout c a))
