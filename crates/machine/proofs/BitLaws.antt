-- Bits of shifted numbers.
use Rattle.std.proofs.Common.{◌≡◌, inl, inr, Bool, true, false, ◌&&◌, ℕ, ◌+◌, ◌-◌, ◌*◌, ◌/◌, ◌%◌, ◌^◌, ◌<◌, ◌≤◌, sym}
use Rattle.std.proofs.Common.{ap, ◌∙◌, arith}
use Rattle.std.specs.Int.{bit_at}
use Rattle.std.proofs.lemmas.Nat.{shr-shr, pow_pos, div-add-mod'}
use Rattle.std.proofs.lemmas.Nat.Bits.{bit_at-zero, bit_at_above, bit_at_cat_low, bit_at_cat_high}
use Rattle.std.proofs.lemmas.Bool.{cases_lt, le-leb, lt-leb, ne_eqb}
use Rattle.std.specs.Prelude.{◌==◌, nat_le}

pub bit_at-shr : (x k i : ℕ) → bit_at (x / 2 ^ k) i ≡ bit_at x (k + i)
bit_at-shr x k i = ap (λ n. n % 2) (shr-shr x k i)

-- below the width a cut changes nothing
pub bit_at-cut : (x w i : ℕ) → i < w → bit_at (x % 2 ^ w) i ≡ bit_at x i
bit_at-cut x w i h =
    let whole : x / 2 ^ w * 2 ^ w + x % 2 ^ w ≡ x = div-add-mod' x (2 ^ w) in
    sym (bit_at_cat_low (x / 2 ^ w) w (x % 2 ^ w) i h) ∙ ap (λ n. bit_at n i) whole

pub bit_at-shl : (x k i : ℕ) → k ≤ i → bit_at (x * 2 ^ k) i ≡ bit_at x (i - k)
bit_at-shl x k i h =
    let zero_more : x * 2 ^ k ≡ x * 2 ^ k + 0 = omega arith in
    ap (λ n. bit_at n i) zero_more ∙ bit_at_cat_high x k 0 i (pow_pos k) h

pub bit_at-shl_low : (x k i : ℕ) → i < k → bit_at (x * 2 ^ k) i ≡ 0
bit_at-shl_low x k i h =
    let zero_more : x * 2 ^ k ≡ x * 2 ^ k + 0 = omega arith in
    ap (λ n. bit_at n i) zero_more ∙ bit_at_cat_low x k 0 i h ∙ bit_at-zero i

and_left : (a b : Bool) → a ≡ false → (a && b) ≡ false
and_left a b h = ap (λ (x : Bool). x && b) h

and_on : (a b : Bool) → a ≡ true → (a && b) ≡ b
and_on a b h = ap (λ (x : Bool). x && b) h

-- the ticks at which an attempt accepted, moved to where the last tick is bit 127
module _ (awaited start now tick : ℕ) (began : start ≤ now) (before : tick ≤ now) (late : now ≤ tick + 127) where
  abbrev pub Told : ℕ → Type 0
  Told set = (bit_at set (127 - (now - tick)) == 1) ≡ (nat_le start tick && bit_at awaited (tick - start) == 1)

  not-yet : tick < start → (set : ℕ) → bit_at set (127 - (now - tick)) ≡ 0 → Told set
  not-yet h set zero =
      ne_eqb (bit_at set (127 - (now - tick))) 1 (λ e. omega (arith, zero, e))
      ∙ sym (and_left (nat_le start tick) (bit_at awaited (tick - start) == 1) (lt-leb start tick h))

  since-then : start ≤ tick → (set : ℕ) → bit_at set (127 - (now - tick)) ≡ bit_at awaited (tick - start) → Told set
  since-then h set same =
      ap (λ n. n == 1) same
      ∙ sym (and_on (nat_le start tick) (bit_at awaited (tick - start) == 1) (le-leb start tick h))

  pub told-young : now - start ≤ 127 → Told (awaited * 2 ^ (127 - (now - start)) % 2 ^ 128)
  told-young young =
      let j : ℕ = 127 - (now - tick) in
      let k : ℕ = 127 - (now - start) in
      let cut = bit_at-cut (awaited * 2 ^ k) 128 j (omega arith) in
      elim (cases_lt tick start) [
        | inl lt ↦ not-yet lt (awaited * 2 ^ k % 2 ^ 128) (cut ∙ bit_at-shl_low awaited k j (omega arith))
        | inr ge ↦
            let e : j - k ≡ tick - start = omega arith in
            since-then ge (awaited * 2 ^ k % 2 ^ 128) (cut ∙ bit_at-shl awaited k j (omega arith)
            ∙ ap (bit_at awaited) e)
      ]

  pub told-old : 127 < now - start → Told (awaited / 2 ^ (now - start - 127))
  told-old old =
      let j : ℕ = 127 - (now - tick) in
      let k : ℕ = now - start - 127 in
      let e : k + j ≡ tick - start = omega arith in
      since-then (omega arith) (awaited / 2 ^ k) (bit_at-shr awaited k j ∙ ap (bit_at awaited) e)

  pub told-none : awaited < 2 ^ 128 → 255 ≤ now - start → Told 0
  told-none small old =
      since-then (omega arith) 0 (bit_at-zero (127 - (now - tick))
      ∙ sym (bit_at_above awaited 128 (tick - start) small (omega arith)))
