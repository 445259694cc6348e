-- What stands for a sequence that weighs nothing is that sequence, trimmed.
use Rattle.std.proofs.Common.{◌≡◌, inl, arith}
use Rattle.assertions.specs.Written.{Written, boolean, delay, lead, repeat, or, and, intersect, throughout, weight}
use Rattle.assertions.specs.Emptiness.{admits_empty}
use Rattle.types.specs.Trimmed.{weightless_form, IsTrimmed}

module _ {B : Type 0} (one : B) where
  pub replaced : (w u : Written B) → weight w ≡ 0 → u ≡ weightless_form one (admits_empty w) → IsTrimmed one w u
  replaced (boolean b) u z is = absurd (omega (arith, z))
  replaced (delay r least most s) u z is = inl (record { weightless = z; is = is })
  replaced (lead least most s) u z is = inl (record { weightless = z; is = is })
  replaced (repeat r least most) u z is = inl (record { weightless = z; is = is })
  replaced (or r s) u z is = inl (record { weightless = z; is = is })
  replaced (and r s) u z is = inl (record { weightless = z; is = is })
  replaced (intersect r s) u z is = inl (record { weightless = z; is = is })
  replaced (throughout b r) u z is = inl (record { weightless = z; is = is })
