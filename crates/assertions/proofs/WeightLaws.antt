-- No match takes more ticks than the sequence weighs.
use Rattle.std.proofs.Common.{◌≡◌, ℕ, zero, suc, ◌+◌, ◌-◌, ◌*◌, ◌≤◌, max, min, arith}
use Rattle.std.proofs.Math.Nat.{mul-le-mul_left}
use Rattle.assertions.specs.Segments.{Seq, longest}
use Rattle.assertions.specs.Written.{Written, boolean, delay, lead, repeat, or, and, intersect, throughout, weight}
use Rattle.assertions.specs.Written.{one_of, after, later, kernel, IsOrdered}

one_of_le : (B : Type 0) (first more bound : ℕ) (form : ℕ → Seq B)
    → ((k : ℕ) → k ≤ first + more → longest (form k) ≤ bound) → longest (one_of first more form) ≤ bound
one_of_le B first zero bound form h = h first (omega arith)
one_of_le B first (suc more) bound form h =
    omega (arith, h first (omega arith), one_of_le B (first + 1) more bound form (λ k le. h k (omega arith)))

after_le : (B : Type 0) (b : B) (r s : Seq B) (n : ℕ) → longest (after b r s n) ≤ longest r + longest s + n
after_le B b r s zero = omega arith
after_le B b r s (suc zero) = omega arith
after_le B b r s (suc (suc n)) = omega arith

later_le : (B : Type 0) (b : B) (s : Seq B) (n : ℕ) → longest (later b s n) ≤ longest s + n
later_le B b s zero = omega arith
later_le B b s (suc n) = omega arith

product_above : (a b : ℕ) → max a b ≤ (a + 1) * (b + 1)
product_above a b = omega (arith, mul-le-mul_left (a + 1) (let h : 1 ≤ b + 1 = omega arith in h))

-- of two lengths the smaller is no more than the product of two weights above them
smaller_below : (a b v w : ℕ) → a ≤ v → b ≤ w → min a b ≤ v * w
smaller_below a b zero w va wb = omega (arith, va)
smaller_below a b (suc v) w va wb =
    let product : suc v * w ≡ v * w + w = omega arith in omega (arith, wb, product)

pub weight_covers : (B : Type 0) (b : B) (r : Written B) → IsOrdered r → longest (kernel b r) ≤ weight r
weight_covers B b (boolean c) h = omega arith
weight_covers B b (delay r least most s) h =
    one_of_le B least (most - least) (weight r + weight s + most) (after b (kernel b r) (kernel b s))
    (λ k le. omega (
      arith,
      h.0,
      le,
      after_le B b (kernel b r) (kernel b s) k,
      weight_covers B b r h.1,
      weight_covers B b s h.2,
    ))
weight_covers B b (lead least most s) h =
    one_of_le B least (most - least) (weight s + most) (later b (kernel b s))
    (λ k le. omega (arith, h.0, le, later_le B b (kernel b s) k, weight_covers B b s h.1))
weight_covers B b (repeat r least most) h = mul-le-mul_left most (weight_covers B b r h.1)
weight_covers B b (or r s) h = omega (arith, weight_covers B b r h.0, weight_covers B b s h.1)
weight_covers B b (and r s) h =
    omega (arith, weight_covers B b r h.0, weight_covers B b s h.1, product_above (weight r) (weight s))
weight_covers B b (intersect r s) h =
    smaller_below (longest (kernel b r)) (longest (kernel b s)) (weight r) (weight s) (weight_covers B b r h.0)
    (weight_covers B b s h.1)
weight_covers B b (throughout c r) h = weight_covers B b r h
