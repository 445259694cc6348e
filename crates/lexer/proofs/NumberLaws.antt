-- The values of numbers, digit by digit.
use Rattle.std.proofs.Common.{◌≡◌, ℕ, zero, suc, ◌+◌, ◌-◌, ◌*◌, ◌/◌, ◌%◌, ◌^◌, ◌<◌, ◌≤◌, Bool, true, false, cond, eqb}
use Rattle.std.proofs.Common.{ltb, leb, List, [], ◌∷◌, length, get_or, take, drop, bit_and, Option, Some, None}
use Rattle.std.proofs.Common.{option_and_then, option_map, ◌⊎◌, inl, inr, refl, sym, ap, ◌∙◌, arith, add-one}
use Rattle.std.proofs.Math.Seq.{drop-cons, take-length}
use Rattle.std.proofs.Math.ListN.{drop_of_length-le}
use Rattle.std.proofs.lemmas.Bool.{le-ltb, lt-ltb, le-leb, lt-leb, eq-eqb, ne_eqb}
use Rattle.std.proofs.lemmas.List.{length-drop}
use Rattle.std.proofs.lemmas.Nat.{and_mask}
use Rattle.std.proofs.lemmas.Nat.Bits.{ones_shr}
use Rattle.std.proofs.Math.Nat.{mul-le-mul_left}
use Rattle.lexer.specs.Lexemes.{is_digit_part, base_of}
use Rattle.lexer.specs.Runs.{run_length}
use Rattle.lexer.specs.Numbers.{digit_value, value_from, if_fits, value_within, if_size, size_before, plain_number}
use Rattle.lexer.specs.Numbers.{number_in_base, number_by, number_of}
use Rattle.lexer.proofs.LongestLaws.{order}
use Rattle.lexer.proofs.NumberEnds.{behind}

module _ (radix v : ℕ) (ds : List ℕ) (i : ℕ) (lt : i < length ds) where
  pub value_from-skip : get_or ds i 0 ≡ 95 → value_from radix v (drop i ds) ≡ value_from radix v (drop (i + 1) ds)
  unfolding value_from
  value_from-skip e = rw (drop-cons ds i 0 lt, eq-eqb _ 95 e, add-one) refl

  pub value_from-step : (d : ℕ) → (get_or ds i 0 ≡ 95 → ⊥) → Some d ≡ digit_value (get_or ds i 0)
      → value_from radix v (drop i ds) ≡ value_from radix (radix * v + d) (drop (i + 1) ds)
  unfolding value_from
  value_from-step d ne e = rw (drop-cons ds i 0 lt, ne_eqb _ 95 ne, ← e, add-one) refl

  pub value_from-bad : (get_or ds i 0 ≡ 95 → ⊥) → None ≡ digit_value (get_or ds i 0) → value_from radix v (drop i ds)
      ≡ None
  unfolding value_from
  value_from-bad ne e = rw (drop-cons ds i 0 lt, ne_eqb _ 95 ne, ← e) refl

-- a value only grows
abbrev Grows : ℕ → List ℕ → Type 0
Grows radix ds = (v n : ℕ) → value_from radix v ds ≡ Some n → v ≤ n

grows-digit : (radix v n : ℕ) (bs : List ℕ) (o : Option ℕ) → 2 ≤ radix → Grows radix bs
    → option_and_then (λ d. value_from radix (radix * v + d) bs) o ≡ Some n → v ≤ n
grows-digit radix v n bs None some more h = absurd cc
grows-digit radix v n bs (Some d) some more h =
    let m : radix * v + d ≤ n = more (radix * v + d) n h in let k : v * 2 ≤ v * radix = mul-le-mul_left v some in
    omega (arith, k)

grows-byte : (radix v n b : ℕ) (bs : List ℕ) (t : Bool) → 2 ≤ radix → Grows radix bs
    → cond t (value_from radix v bs) (option_and_then (λ d. value_from radix (radix * v + d) bs) (digit_value b))
    ≡ Some n → v ≤ n
grows-byte radix v n b bs true some more h = more v n h
grows-byte radix v n b bs false some more h = grows-digit radix v n bs (digit_value b) some more h

grows : (radix : ℕ) (ds : List ℕ) → 2 ≤ radix → Grows radix ds
unfolding value_from
grows radix [] some v n h = let e : v ≡ n = cc in omega arith
grows radix (b ∷ bs) some v n h = grows-byte radix v n b bs (eqb b 95) some (grows radix bs some) h

pub value_within-none : (width radix : ℕ) (ds : List ℕ) → value_from radix 0 ds ≡ None → value_within width radix ds
    ≡ None
unfolding value_within
value_within-none width radix ds h = rw h refl

pub value_within-done : (width radix v : ℕ) (ds : List ℕ) → value_from radix 0 ds ≡ Some v → v < 2 ^ width
    → value_within width radix ds ≡ Some v
unfolding value_within
value_within-done width radix v ds h lt = rw (h, lt-ltb _ _ lt) refl

pub value_within-large : (width radix v : ℕ) (ds rest : List ℕ) → 2 ≤ radix → value_from radix 0 ds
    ≡ value_from radix v rest → 2 ^ width ≤ v → value_within width radix ds ≡ None
unfolding value_within
value_within-large width radix v ds rest some e le = rw e (by_rest (value_from radix v rest) refl)
  where
    by_rest : (o : Option ℕ) → value_from radix v rest ≡ o → option_and_then (if_fits width) o ≡ None
    by_rest None h = refl
    by_rest (Some n) h =
        let m : v ≤ n = grows radix rest some v n h in let big : ltb n (2 ^ width) ≡ false = le-ltb _ _ (omega arith)
        in rw big refl

pub value_from-nil : (radix v : ℕ) (ds : List ℕ) → ds ≡ [] → value_from radix v ds ≡ Some v
unfolding value_from
value_from-nil radix v ds e = rw e refl

-- the largest number of a width, and the low bits of a number
ones_of : (w : ℕ) → w ≤ 128 → (2 ^ 128 - 1) / 2 ^ (128 - w) ≡ 2 ^ w - 1
ones_of w le =
    let e : 128 - (128 - w) ≡ w = omega arith in
    let s : (2 ^ 128 - 1) / 2 ^ (128 - w) ≡ 2 ^ (128 - (128 - w)) - 1 = ones_shr 128 (128 - w) (omega arith) in
    s ∙ ap (λ n. 2 ^ n - 1) e

pub low_bits : (n w : ℕ) → w ≤ 128 → bit_and n ((2 ^ 128 - 1) / 2 ^ (128 - w)) ≡ n % 2 ^ w
low_bits n w le = ap (λ x. bit_and n x) (ones_of w le) ∙ and_mask n w

-- room for one more digit
pub room-fits : (r v d m : ℕ) → 0 < r → d ≤ m → v ≤ (m - d) / r → r * v + d ≤ m
room-fits r v d m some le h =
    let up : r * v ≤ r * ((m - d) / r) = mul-le-mul_left r h in
    omega (arith, up)

pub room-over : (r v d m : ℕ) → 0 < r → d ≤ m → (m - d) / r < v → m < r * v + d
room-over r v d m some le h =
    let up : r * suc ((m - d) / r) ≤ r * v = mul-le-mul_left r h in
    omega (arith, up)

-- sizes
pub size_before-empty : (ds : List ℕ) → length ds ≡ 0 → size_before ds ≡ Some None
unfolding size_before
size_before-empty [] e = refl
size_before-empty (d ∷ ds) e = absurd (omega arith)

size_before-cons : (ds : List ℕ) → (length ds ≡ 0 → ⊥)
    → size_before ds ≡ option_and_then if_size (value_within 128 10 ds)
unfolding size_before
size_before-cons [] some = absurd (some refl)
size_before-cons (d ∷ ds) some = refl

by_order : (k : ℕ) → (k ≤ 128) ⊎ (128 < k) → 1 ≤ k → (1 ≤ k → k ≤ 128 → ⊥) → 128 < k
by_order k (inl le) low h = absurd (h low le)
by_order k (inr lt) low h = lt

out_of_range : (n : ℕ) → (1 ≤ n → n ≤ 128 → ⊥) → if_size n ≡ None
out_of_range zero out = refl
out_of_range (suc n) out =
    let high : leb (suc n) 128 ≡ false = lt-leb (suc n) 128 (above (suc n) (omega arith) out) in
    let low : leb 1 (suc n) ≡ true = le-leb 1 (suc n) (omega arith) in
    rw (low, high) refl
  where
    above : (k : ℕ) → 1 ≤ k → (1 ≤ k → k ≤ 128 → ⊥) → 128 < k
    above k low h = by_order k (order k 128) low h

pub size_before-bad : (ds : List ℕ) → (length ds ≡ 0 → ⊥) → None ≡ value_within 128 10 ds → size_before ds ≡ None
size_before-bad ds some h = size_before-cons ds some ∙ rw (← h) refl

pub size_before-out : (ds : List ℕ) (n : ℕ) → (length ds ≡ 0 → ⊥) → Some n ≡ value_within 128 10 ds
    → (1 ≤ n → n ≤ 128 → ⊥) → size_before ds ≡ None
size_before-out ds n some h out = size_before-cons ds some ∙ rw (← h) (out_of_range n out)

pub size_before-in : (ds : List ℕ) (n : ℕ) → (length ds ≡ 0 → ⊥) → Some n ≡ value_within 128 10 ds → 1 ≤ n → n ≤ 128
    → size_before ds ≡ Some (Some n)
size_before-in ds n some h low high = size_before-cons ds some ∙ rw (← h, le-leb 1 n low, le-leb n 128 high) refl

pub tail-whole : (n : ℕ) (text : List ℕ) → take (length text - n) (drop n text) ≡ drop n text
tail-whole n text = ap (λ (k : ℕ). take k (drop n text)) (sym (length-drop n text)) ∙ take-length (drop n text)

-- numbers, by where their digits stop
module _ (text : List ℕ) (q : ℕ) (at : q ≡ run_length is_digit_part text) where
  by_quote : number_of text ≡ number_by (take q text) (drop q text)
  unfolding number_of
  by_quote = rw (← at) refl

  pub number_of-plain : q ≡ length text → number_of text ≡ option_map plain_number (value_within 32 10 text)
  number_of-plain e =
      let le : length text ≤ q = omega arith in
      by_quote ∙ ap (number_by (take q text)) (drop_of_length-le text {i = q} le)
      ∙ ap (λ (ds : List ℕ). option_map plain_number (value_within 32 10 ds)) (ap (λ (n : ℕ). take n text) e
      ∙ take-length text)

  pub number_of-alone : q < length text → length text - q ≡ 1 → number_of text ≡ None
  number_of-alone lt e =
      let le : length text ≤ q + 1 = omega arith in
      by_quote
      ∙ ap (number_by (take q text))
      (behind text q lt ∙ ap (λ (r : List ℕ). get_or text q 0 ∷ r) (drop_of_length-le text {i = q + 1} le))

  pub number_of-based : q + 1 < length text
      → number_of text ≡ option_and_then (λ s. number_in_base s (drop (q + 2) text) (base_of (get_or text (q + 1) 0)))
      (size_before (take q text))
  number_of-based lt =
      let two : q + 1 + 1 ≡ q + 2 = omega arith in
      by_quote
      ∙ ap (number_by (take q text))
      (behind text q (omega arith)
      ∙ ap (λ (r : List ℕ). get_or text q 0 ∷ r)
      (behind text (q + 1) lt ∙ ap (λ (i : ℕ). get_or text (q + 1) 0 ∷ drop i text) two))
