-- Digits and the numbers that they stand for.
use Rattle.std.proofs.Common.{◌≡◌, ℕ, zero, suc, ◌+◌, ◌-◌, ◌*◌, ◌%◌, ◌^◌, ◌<◌, ◌≤◌, List, [], ◌∷◌, ◌++◌, length, drop}
use Rattle.std.proofs.Common.{refl, sym, ap, ◌∙◌, arith, subst, inl, inr}
use Rattle.std.proofs.lemmas.Bool.Decides.{eqb_tells}
use Rattle.std.proofs.lemmas.List.{length-append, length-replicate}
use Rattle.std.proofs.lemmas.Nat.{mod-mul-add}
use Rattle.std.proofs.Math.Pow.{mod-mod-pow}
use Rattle.std.proofs.Math.Nat.{pow-suc, sub-zero}
use Rattle.std.specs.Prelude.{replicate}
use Rattle.vcd_reader.specs.Numbers.{bit_of, bits_from, bits_value}
use Rattle.vcd_reader.specs.Values.{padding, extended_digits, digits_value}

bit-small : (d : ℕ) → bit_of d < 2
bit-small d = elim (eqb_tells d 49) [ inl p ↦ rw p.0 (omega arith) | inr p ↦ rw p.0 (omega arith) ]

-- leading digits that stand for 0
bits_from-padding : (n : ℕ) (p : ℕ) (ds : List ℕ) → bit_of p ≡ 0 → bits_from 0 (replicate n p ++ ds) ≡ bits_from 0 ds
unfolding bits_from
bits_from-padding zero p ds h = refl
bits_from-padding (suc n) p ds h = rw (h, bits_from) (bits_from-padding n p ds h)

padding-zero : (ds : List ℕ) → bit_of (padding ds) ≡ 0
padding-zero [] = refl
padding-zero (d ∷ ds) = elim (eqb_tells d 49) [ inl p ↦ rw p.0 refl | inr p ↦ rw (p.0, p.0) refl ]

extension : (size : ℕ) (ds : List ℕ) → size ≤ 128 → bits_from 0 (extended_digits size ds) % 2 ^ size
    ≡ bits_value ds % 2 ^ size
extension size ds le =
    ap (λ (n : ℕ). n % 2 ^ size) (bits_from-padding (size - length ds) (padding ds) ds (padding-zero ds))
    ∙ (let k : 128 ≡ 128 - size + size = omega arith in
    sym (subst (λ (w : ℕ). bits_from 0 ds % 2 ^ w % 2 ^ size ≡ bits_from 0 ds % 2 ^ size) (sym k)
    (mod-mod-pow (bits_from 0 ds) (128 - size) size)))

regroup : (n b p : ℕ) → (2 * n + b) * p ≡ n * (p * 2) + (2 * 0 + b) * p
regroup n b p = omega arith

-- what stands before the digits counts from above
bits_from-sum : (n : ℕ) (ds : List ℕ) → bits_from n ds ≡ n * 2 ^ length ds + bits_from 0 ds
unfolding bits_from
bits_from-sum n [] = omega arith
bits_from-sum n (d ∷ ds) =
    let p = 2 ^ length ds in
    let e : 2 ^ length (d ∷ ds) ≡ p * 2 = pow-suc 2 (length ds) in
    let here = bits_from-sum (2 * n + bit_of d) ds in
    let zero_here = bits_from-sum (2 * 0 + bit_of d) ds in
    let sums = regroup n (bit_of d) p in
    rw e (omega (arith, here, zero_here, sums))

below-twice : (b p r s : ℕ) → b < 2 → r < p → s ≡ (2 * 0 + b) * p + r → s < p * 2
below-twice zero p r s bl rl e = omega arith
below-twice (suc zero) p r s bl rl e = omega arith
below-twice (suc (suc b)) p r s bl rl e = absurd (omega arith)

bits_from-below : (ds : List ℕ) → bits_from 0 ds < 2 ^ length ds
unfolding bits_from
bits_from-below [] = omega arith
bits_from-below (d ∷ ds) =
    let p = 2 ^ length ds in
    let e : 2 ^ length (d ∷ ds) ≡ p * 2 = pow-suc 2 (length ds) in
    let less = bits_from-below ds in
    let sum : bits_from (2 * 0 + bit_of d) ds ≡ (2 * 0 + bit_of d) * p + bits_from 0 ds =
    bits_from-sum (2 * 0 + bit_of d) ds in
    rw e (below-twice (bit_of d) p (bits_from 0 ds) (bits_from (2 * 0 + bit_of d) ds) (bit-small d) less sum)

-- the last digits
bits_from-drop : (n k : ℕ) (ds : List ℕ) → k ≤ length ds → bits_from n ds % 2 ^ (length ds - k)
    ≡ bits_from 0 (drop k ds)
unfolding bits_from
bits_from-drop n zero ds le =
    rw (sub-zero, bits_from-sum n ds) (mod-mul-add n (2 ^ length ds) (bits_from 0 ds) (bits_from-below ds))
bits_from-drop n (suc k) [] le = absurd (omega arith)
bits_from-drop n (suc k) (d ∷ ds) le =
    let e : length (d ∷ ds) - suc k ≡ length ds - k = omega arith in
    rw e (bits_from-drop (2 * n + bit_of d) k ds (omega arith))

pub digits : (size : ℕ) (ds : List ℕ) → size ≤ 128 → digits_value size ds ≡ bits_value ds % 2 ^ size
unfolding digits_value
digits size ds le =
    let long : length (extended_digits size ds) ≡ size - length ds + length ds =
    length-append (replicate (size - length ds) (padding ds)) ds
    ∙ ap (λ (n : ℕ). n + length ds) (length-replicate (size - length ds) (padding ds)) in
    let rest : length (extended_digits size ds) - (length ds - size) ≡ size = omega arith in
    sym (bits_from-drop 0 (length ds - size) (extended_digits size ds) (omega arith))
    ∙ ap (λ (w : ℕ). bits_from 0 (extended_digits size ds) % 2 ^ w) rest ∙ extension size ds le
