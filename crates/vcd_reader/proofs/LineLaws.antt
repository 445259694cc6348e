-- Items that stand on a line of their own.
use Rattle.std.proofs.Common.{◌≡◌, ℕ, zero, suc, ◌+◌, ◌-◌, ◌*◌, ◌/◌, ◌%◌, ◌^◌, ◌<◌, ◌≤◌, true, false, not, eqb}
use Rattle.std.proofs.Common.{List, [], ◌∷◌, ◌++◌}
use Rattle.std.proofs.Common.{length, get_or, drop, Option, Some, Result, refl, sym, ap, ◌∙◌, arith, subst, inl, inr}
use Rattle.std.proofs.Math.Seq.{drop-cons, take-suc}
use Rattle.std.proofs.Math.ListN.{take}
use Rattle.std.proofs.lemmas.Bool.{ne_eqb, lt-ltb}
use Rattle.std.proofs.Common.{ltb}
use Rattle.std.proofs.lemmas.Bool.Decides.{eqb_tells}
use Rattle.std.proofs.lemmas.List.{get_or-drop, length-drop, length-take}
use Rattle.std.proofs.lemmas.List.Folds.{list_all-append}
use Rattle.std.specs.List.{slice_range, list_all}
use Rattle.vcd_reader.specs.declared.item.Seen.TheVariants as code
use Rattle.vcd_reader.specs.declared.item.Item.{Item}
use Rattle.vcd_reader.specs.declared.item.Item.TheVariants.{Changed, Timed}
use Rattle.vcd_reader.specs.declared.fault.Fault.{Fault}
use Rattle.vcd_reader.specs.Faults.{◌>>=◌}
use Rattle.vcd_reader.specs.Tokens.{is_separator, token_goes_on, tokens}
use Rattle.vcd_reader.specs.Numbers.{is_bit, bit_of, bits_from, bits_value, decimal_from, decimal_below}
use Rattle.std.specs.Char.{is_ascii_digit}
use Rattle.vcd_reader.specs.Variables.{place_of}
use Rattle.vcd_reader.specs.Body.{Time, Scalar, Vector, body, kind_of, time_kind}
use Rattle.vcd_reader.specs.Kept.{seen_kind, KeptRest, kept_result, with_item, scalar_item, code_item}
use Rattle.vcd_reader.specs.Sections.{tokens_at}
use Rattle.vcd_reader.specs.Packed.{unpacked_code}
use Rattle.vcd_reader.specs.Lines.{IsPackedAt, AreBitsAt, AreFourAt, AreDigitsAt}
use Rattle.vcd_reader.specs.Readings.{IsItemAt}
use Rattle.vcd_reader.proofs.TokenLaws.{tokens-separator, tokens-at}
use Rattle.vcd_reader.proofs.NumberLaws.{decimal_below-small}
use Rattle.vcd_reader.proofs.PackedLaws.{two, three}
use Rattle.vcd_reader.proofs.BodyLaws.{body-time, body-scalar, body-vector, behind, slice_range-cons, scalar-code}

-- no byte above a space separates
pub above-space : (b : ℕ) → 32 < b → is_separator b ≡ false
above-space b lt =
    let s : eqb b 32 ≡ false = ne_eqb b 32 (λ e. omega (arith, e, lt)) in
    let t : eqb b 9 ≡ false = ne_eqb b 9 (λ e. omega (arith, e, lt)) in
    let r : eqb b 13 ≡ false = ne_eqb b 13 (λ e. omega (arith, e, lt)) in
    let n : eqb b 10 ≡ false = ne_eqb b 10 (λ e. omega (arith, e, lt)) in
    rw (s, t, r, n) refl

pub ends-at : (bytes : List ℕ) (i : ℕ) → i < length bytes → is_separator (get_or bytes i 0) ≡ true
    → token_goes_on (drop i bytes) ≡ false
ends-at bytes i lt s = rw (drop-cons bytes i 0 lt) (ap not s)

begins-at : (bytes : List ℕ) (i : ℕ) → i < length bytes → is_separator (get_or bytes i 0) ≡ false
    → token_goes_on (drop i bytes) ≡ true
begins-at bytes i lt s = rw (drop-cons bytes i 0 lt) (ap not s)

pub word-none : (bytes : List ℕ) (i k : ℕ) → i ≤ k → k < i → is_separator (get_or bytes k 0) ≡ false
word-none bytes i k low lt = absurd (omega (arith, low, lt))

pub word-more : (bytes : List ℕ) (i j next : ℕ) → next ≡ j + 1
    → ((k : ℕ) → i ≤ k → k < j → is_separator (get_or bytes k 0) ≡ false)
    → is_separator (get_or bytes j 0) ≡ false
    → (k : ℕ) → i ≤ k → k < next → is_separator (get_or bytes k 0) ≡ false
word-more bytes i j next e word here k low lt =
    elim (eqb_tells k j) [ inl p ↦ rw p.1 here | inr p ↦ word k low (omega (arith, p.1, lt, e)) ]

-- short codes
slice-none : (bytes : List ℕ) (i : ℕ) → slice_range bytes i i ≡ []
slice-none bytes i = let z : i - i ≡ 0 = omega arith in rw z refl

slice-1 : (bytes : List ℕ) (i j : ℕ) → j ≡ i + 1 → j ≤ length bytes → slice_range bytes i j ≡ get_or bytes i 0 ∷ []
slice-1 bytes i j e le =
    slice_range-cons bytes i j (omega arith) le
    ∙ ap (λ (n : ℕ). get_or bytes i 0 ∷ slice_range bytes (i + 1) n) e
    ∙ ap (λ (r : List ℕ). get_or bytes i 0 ∷ r) (slice-none bytes (i + 1))

slice-2 : (bytes : List ℕ) (i j : ℕ) → j ≡ i + 2 → j ≤ length bytes
    → slice_range bytes i j ≡ get_or bytes i 0 ∷ get_or bytes (i + 1) 0 ∷ []
slice-2 bytes i j e le =
    slice_range-cons bytes i j (omega arith) le
    ∙ ap (λ (r : List ℕ). get_or bytes i 0 ∷ r) (slice-1 bytes (i + 1) j (omega arith) le)

slice-3 : (bytes : List ℕ) (i j : ℕ) → j ≡ i + 3 → j ≤ length bytes
    → slice_range bytes i j ≡ get_or bytes i 0 ∷ get_or bytes (i + 1) 0 ∷ get_or bytes (i + 2) 0 ∷ []
slice-3 bytes i j e le =
    let far : (i + 1) + 1 ≡ i + 2 = omega arith in
    slice_range-cons bytes i j (omega arith) le
    ∙ ap (λ (r : List ℕ). get_or bytes i 0 ∷ r) (slice-2 bytes (i + 1) j (omega arith) le)
    ∙ ap (λ (n : ℕ). get_or bytes i 0 ∷ get_or bytes (i + 1) 0 ∷ get_or bytes n 0 ∷ []) far

one : (a : ℕ) → a < 256 → unpacked_code a ≡ a ∷ []
unfolding unpacked_code
one a p = let t : ltb a 256 ≡ true = lt-ltb _ _ p in rw t refl

pub packed-1 : (bytes : List ℕ) (i : ℕ) → i + 4 ≤ length bytes → 32 < get_or bytes i 0 → get_or bytes i 0 < 256
    → get_or bytes (i + 1) 0 ≡ 10 → IsPackedAt bytes i (get_or bytes i 0) (i + 1)
packed-1 bytes i le a fits feed = record {
  low = omega arith;
  high = omega arith;
  some = omega arith;
  word = word-more bytes i i (i + 1) refl (word-none bytes i) (above-space _ a);
  ends = ends-at bytes (i + 1) (omega arith) (rw feed refl);
  text = one (get_or bytes i 0) fits ∙ sym (slice-1 bytes i (i + 1) refl (omega arith));
}

pub packed-2 : (bytes : List ℕ) (i : ℕ) → i + 4 ≤ length bytes → 32 < get_or bytes i 0 → get_or bytes i 0 < 256
    → 32 < get_or bytes (i + 1) 0 → get_or bytes (i + 1) 0 < 256 → get_or bytes (i + 2) 0 ≡ 10
    → IsPackedAt bytes i (get_or bytes i 0 + get_or bytes (i + 1) 0 * 256) (i + 2)
packed-2 bytes i le a fits b fits' feed = record {
  low = omega arith;
  high = omega arith;
  some = omega arith;
  word = word-more bytes i (i + 1) (i + 2) (omega arith)
      (word-more bytes i i (i + 1) refl (word-none bytes i) (above-space _ a)) (above-space _ b);
  ends = ends-at bytes (i + 2) (omega arith) (rw feed refl);
  text = two (get_or bytes i 0) (get_or bytes (i + 1) 0) fits fits' (omega arith)
      ∙ sym (slice-2 bytes i (i + 2) refl (omega arith));
}

pub packed-3 : (bytes : List ℕ) (i : ℕ) → i + 4 ≤ length bytes → 32 < get_or bytes i 0 → get_or bytes i 0 < 256
    → 32 < get_or bytes (i + 1) 0 → get_or bytes (i + 1) 0 < 256
    → 32 < get_or bytes (i + 2) 0 → get_or bytes (i + 2) 0 < 256 → get_or bytes (i + 3) 0 ≡ 10
    → IsPackedAt bytes i
    (get_or bytes i 0 + get_or bytes (i + 1) 0 * 256 + get_or bytes (i + 2) 0 * 65536) (i + 3)
packed-3 bytes i le a fits b fits' c fits'' feed = record {
  low = omega arith;
  high = omega arith;
  some = omega arith;
  word = word-more bytes i (i + 2) (i + 3) (omega arith)
      (word-more bytes i (i + 1) (i + 2) (omega arith)
      (word-more bytes i i (i + 1) refl (word-none bytes i) (above-space _ a)) (above-space _ b)) (above-space _ c);
  ends = ends-at bytes (i + 3) (omega arith) (rw feed refl);
  text = three (get_or bytes i 0) (get_or bytes (i + 1) 0) (get_or bytes (i + 2) 0) fits fits' fits'' (omega arith)
      ∙ sym (slice-3 bytes i (i + 3) refl (omega arith));
}

-- digits of vectors
slice-more : (bytes : List ℕ) (i j : ℕ) → i ≤ j → j < length bytes
    → slice_range bytes i (j + 1) ≡ slice_range bytes i j ++ get_or bytes j 0 ∷ []
slice-more bytes i j le lt =
    let n : (j + 1) - i ≡ suc (j - i) = omega arith in
    let e : i + (j - i) ≡ j = omega arith in
    let inside : j - i < length (drop i bytes) = omega (arith, length-drop i bytes) in
    ap (λ (m : ℕ). take m (drop i bytes)) n ∙ take-suc (drop i bytes) (j - i) 0 inside
    ∙ ap (λ (b : ℕ). slice_range bytes i j ++ b ∷ []) (get_or-drop i bytes (j - i) 0)
    ∙ ap (λ (m : ℕ). slice_range bytes i j ++ get_or bytes m 0 ∷ []) e

bits_from-more : (n : ℕ) (ds : List ℕ) (d : ℕ) → bits_from n (ds ++ d ∷ []) ≡ 2 * bits_from n ds + bit_of d
unfolding bits_from
bits_from-more n [] d = refl
bits_from-more n (x ∷ ds) d = bits_from-more (2 * n + bit_of x) ds d

bit-word : (b : ℕ) → is_bit b ≡ true → is_separator b ≡ false
bit-word b h =
    elim (eqb_tells b 48) [
      | inl p ↦ above-space b (omega (arith, p.1))
      | inr p ↦ elim (eqb_tells b 49) [
        | inl q ↦ above-space b (omega (arith, q.1))
        | inr q ↦ elim (eqb_tells b 120) [
          | inl r ↦ above-space b (omega (arith, r.1))
          | inr r ↦ elim (eqb_tells b 88) [
            | inl s ↦ above-space b (omega (arith, s.1))
            | inr s ↦ elim (eqb_tells b 122) [
              | inl t ↦ above-space b (omega (arith, t.1))
              | inr t ↦ elim (eqb_tells b 90) [
                | inl u ↦ above-space b (omega (arith, u.1))
                | inr u ↦ absurd (cc (h, p.0, q.0, r.0, s.0, t.0, u.0))
              ]
            ]
          ]
        ]
      ]
    ]

pub bits-none : (bytes : List ℕ) (i : ℕ) → i ≤ length bytes → AreBitsAt bytes i 0 i
unfolding bits_from
bits-none bytes i le = record {
  low = omega arith;
  high = le;
  word = word-none bytes i;
  all = rw (slice-none bytes i) refl;
  value = rw (slice-none bytes i) refl;
}

pub bits-more : (bytes : List ℕ) (i n j : ℕ) → AreBitsAt bytes i n j → j < length bytes
    → is_bit (get_or bytes j 0) ≡ true → AreBitsAt bytes i (2 * n + bit_of (get_or bytes j 0)) (j + 1)
bits-more bytes i n j are lt bit = record {
  low = let l = are.low in omega arith;
  high = omega arith;
  word = word-more bytes i j (j + 1) refl are.word (bit-word (get_or bytes j 0) bit);
  all =
      ap (list_all is_bit) (slice-more bytes i j are.low lt)
      ∙ list_all-append is_bit (slice_range bytes i j) (get_or bytes j 0 ∷ [])
      ∙ rw (are.all, bit) refl;
  value =
      ap (bits_from 0) (slice-more bytes i j are.low lt)
      ∙ bits_from-more 0 (slice_range bytes i j) (get_or bytes j 0)
      ∙ ap (λ (m : ℕ). 2 * m + bit_of (get_or bytes j 0)) are.value;
}

-- four digits at once
abbrev pub four_words : List ℕ
four_words =
    808464432 ∷ 825241648 ∷ 808529968 ∷ 825307184 ∷ 808464688 ∷ 825241904 ∷ 808530224 ∷ 825307440
    ∷ 808464433 ∷ 825241649 ∷ 808529969 ∷ 825307185 ∷ 808464689 ∷ 825241905 ∷ 808530225 ∷ 825307441 ∷ []

abbrev word_of : ℕ → ℕ → ℕ → ℕ → ℕ
word_of a b c d = a + b * 256 + c * 65536 + d * 16777216

four-known : (n : ℕ) → n < 16 → get_or four_words n 0
    ≡ word_of (48 + n / 8) (48 + n / 4 % 2) (48 + n / 2 % 2) (48 + n % 2)
four-known zero lt = refl
four-known (suc zero) lt = refl
four-known (suc (suc zero)) lt = refl
four-known (suc (suc (suc zero))) lt = refl
four-known (suc (suc (suc (suc zero)))) lt = refl
four-known (suc (suc (suc (suc (suc zero))))) lt = refl
four-known (suc (suc (suc (suc (suc (suc zero)))))) lt = refl
four-known (suc (suc (suc (suc (suc (suc (suc zero))))))) lt = refl
four-known (suc (suc (suc (suc (suc (suc (suc (suc zero)))))))) lt = refl
four-known (suc (suc (suc (suc (suc (suc (suc (suc (suc zero))))))))) lt = refl
four-known (suc (suc (suc (suc (suc (suc (suc (suc (suc (suc zero)))))))))) lt = refl
four-known (suc (suc (suc (suc (suc (suc (suc (suc (suc (suc (suc zero))))))))))) lt = refl
four-known (suc (suc (suc (suc (suc (suc (suc (suc (suc (suc (suc (suc zero)))))))))))) lt = refl
four-known (suc (suc (suc (suc (suc (suc (suc (suc (suc (suc (suc (suc (suc zero))))))))))))) lt = refl
four-known (suc (suc (suc (suc (suc (suc (suc (suc (suc (suc (suc (suc (suc (suc zero)))))))))))))) lt = refl
four-known (suc (suc (suc (suc (suc (suc (suc (suc (suc (suc (suc (suc (suc (suc (suc zero))))))))))))))) lt = refl
four-known (suc (suc (suc (suc (suc (suc (suc (suc (suc (suc (suc (suc (suc (suc (suc (suc n)))))))))))))))) lt =
    absurd (omega (arith, lt))

pub same-bytes : (a b c d p q r s : ℕ) → a < 256 → b < 256 → c < 256 → d < 256 → p < 256 → q < 256 → r < 256
    → s < 256 → word_of a b c d ≡ word_of p q r s → (a ≡ p) × (b ≡ q) × (c ≡ r) × (d ≡ s)
same-bytes a b c d p q r s ha hb hc hd hp hq hr hs e =
    (omega (arith, e), omega (arith, e), omega (arith, e), omega (arith, e))

pub four-at : (bytes : List ℕ) (at n word : ℕ) → ((k : ℕ) → get_or bytes k 0 < 256) → n < 16
    → word ≡ word_of (get_or bytes at 0) (get_or bytes (at + 1) 0) (get_or bytes (at + 2) 0) (get_or bytes (at + 3) 0)
    → get_or four_words n 0 ≡ word → AreFourAt bytes at n
four-at bytes at n word fits few is found =
    let same = same-bytes _ _ _ _ (48 + n / 8) (48 + n / 4 % 2) (48 + n / 2 % 2) (48 + n % 2)
    (fits at) (fits (at + 1)) (fits (at + 2)) (fits (at + 3)) (omega arith) (omega arith) (omega arith) (omega arith)
    (sym is ∙ sym found ∙ four-known n few) in
    record { few = few; first = same.0; second = same.1; third = same.2; fourth = same.3 }

bit-one : (b : ℕ) → b < 2 → (is_bit (48 + b) ≡ true) × (bit_of (48 + b) ≡ b)
bit-one zero lt = (refl, refl)
bit-one (suc zero) lt = (refl, refl)
bit-one (suc (suc b)) lt = absurd (omega (arith, lt))

bits-digit : (bytes : List ℕ) (i n j b next end : ℕ) → AreBitsAt bytes i n j → j < length bytes
    → get_or bytes j 0 ≡ 48 + b → b < 2 → next ≡ 2 * n + b → end ≡ j + 1 → AreBitsAt bytes i next end
bits-digit bytes i n j b next end are lt is few sum e =
    let one = bit-one b few in
    let more = bits-more bytes i n j are lt (ap is_bit is ∙ one.0) in
    let total : 2 * n + bit_of (get_or bytes j 0) ≡ next =
    ap (λ (m : ℕ). 2 * n + bit_of m) is ∙ ap (λ (m : ℕ). 2 * n + m) one.1 ∙ sym sum in
    subst (λ (m : ℕ). AreBitsAt bytes i m end) total
    (subst (λ (m : ℕ). AreBitsAt bytes i (2 * n + bit_of (get_or bytes j 0)) m) (sym e) more)

pub bits-four : (bytes : List ℕ) (i n j f : ℕ) → AreBitsAt bytes i n j → j + 4 ≤ length bytes → AreFourAt bytes j f
    → AreBitsAt bytes i (16 * n + f) (j + 4)
bits-four bytes i n j f are le four =
    let few = four.few in
    let a = bits-digit bytes i n j (f / 8) (2 * n + f / 8) (j + 1) are (omega arith) four.first (omega arith) refl
    refl in
    let b = bits-digit bytes i (2 * n + f / 8) (j + 1) (f / 4 % 2) (4 * n + f / 4) (j + 2) a (omega arith) four.second
    (omega arith) (omega arith) (omega arith) in
    let c = bits-digit bytes i (4 * n + f / 4) (j + 2) (f / 2 % 2) (8 * n + f / 2) (j + 3) b (omega arith) four.third
    (omega arith) (omega arith) (omega arith) in
    bits-digit bytes i (8 * n + f / 2) (j + 3) (f % 2) (16 * n + f) (j + 4) c (omega arith) four.fourth
    (omega arith) (omega arith) (omega arith)

-- digits of times
decimal_from-more : (n : ℕ) (ds : List ℕ) (d : ℕ) → decimal_from n (ds ++ d ∷ []) ≡ 10 * decimal_from n ds + (d - 48)
unfolding decimal_from
decimal_from-more n [] d = refl
decimal_from-more n (x ∷ ds) d = decimal_from-more (10 * n + (x - 48)) ds d

pub digits-none : (bytes : List ℕ) (i : ℕ) → i ≤ length bytes → AreDigitsAt bytes i 0 i
unfolding decimal_from
digits-none bytes i le = record {
  low = omega arith;
  high = le;
  word = word-none bytes i;
  all = rw (slice-none bytes i) refl;
  value = rw (slice-none bytes i) refl;
}

pub digits-more : (bytes : List ℕ) (i n j next : ℕ) → AreDigitsAt bytes i n j → j < length bytes
    → is_ascii_digit (get_or bytes j 0) ≡ true → 48 ≤ get_or bytes j 0
    → next ≡ 10 * n + (get_or bytes j 0 - 48) → AreDigitsAt bytes i next (j + 1)
digits-more bytes i n j next are lt digit above is = record {
  low = let l = are.low in omega arith;
  high = omega arith;
  word = word-more bytes i j (j + 1) refl are.word (above-space (get_or bytes j 0) (omega (arith, above)));
  all =
      ap (list_all is_ascii_digit) (slice-more bytes i j are.low lt)
      ∙ list_all-append is_ascii_digit (slice_range bytes i j) (get_or bytes j 0 ∷ [])
      ∙ rw (are.all, digit) refl;
  value =
      ap (decimal_from 0) (slice-more bytes i j are.low lt)
      ∙ decimal_from-more 0 (slice_range bytes i j) (get_or bytes j 0)
      ∙ ap (λ (m : ℕ). 10 * m + (get_or bytes j 0 - 48)) are.value ∙ sym is;
}

-- a token behind one separator
behind-separator : (bytes : List ℕ) (at end : ℕ) → at + 1 < end → end ≤ length bytes
    → is_separator (get_or bytes at 0) ≡ true
    → ((k : ℕ) → at + 1 ≤ k → k < end → is_separator (get_or bytes k 0) ≡ false)
    → token_goes_on (drop end bytes) ≡ false
    → tokens at (drop at bytes)
    ≡ record { text = slice_range bytes (at + 1) end; at = at + 1 } ∷ tokens end (drop end bytes)
behind-separator bytes at end lt le space word ends =
    tokens-separator bytes at (omega arith) space
    ∙ tokens-at bytes (at + 1) end lt le (begins-at bytes (at + 1) (omega arith) (word (at + 1) (omega arith) lt))
    (λ k low high. word k (omega (arith, low)) high) ends

kind-scalar : (d : ℕ) (ds : List ℕ) → is_bit d ≡ true → kind_of (d ∷ ds) ≡ Scalar d
unfolding kind_of
kind-scalar d ds h = rw h refl

kind-vector : (ds : List ℕ) → 0 < length ds → list_all is_bit ds ≡ true → kind_of (98 ∷ ds) ≡ Vector ds
unfolding kind_of
kind-vector [] some h = absurd (omega (arith, some))
kind-vector (d ∷ ds) some h = rw h refl

module _ (declared : List (List ℕ)) (bytes : List ℕ) (at packed named end : ℕ)
    (feed : get_or bytes at 0 ≡ 10) (known : place_of declared (unpacked_code packed) ≡ Some named) where
  -- what the rest of a dump makes of an item
  abbrev going : ℕ → ℕ → Result Item Fault → Result KeptRest Fault
  going count now read =
      read >>= λ i. with_item i count now (λ c n. kept_result (body declared (length bytes) c n (tokens_at bytes end)))

  pub scalar-at : (d value : ℕ) → get_or bytes (at + 1) 0 ≡ d → is_bit d ≡ true → value ≡ bit_of d
      → IsPackedAt bytes (at + 2) packed end → IsItemAt declared bytes at (Changed named value) end
  scalar-at d value first bit is at2 =
      let e : at + 2 ≡ at + 1 + 1 = omega arith in
      let p : IsPackedAt bytes (at + 1 + 1) packed end = subst (λ (n : ℕ). IsPackedAt bytes n packed end) e at2 in
      let low = p.low in
      let high = p.high in
      let lt : at + 1 < end = omega arith in
      let text : slice_range bytes (at + 1) end ≡ d ∷ slice_range bytes (at + 1 + 1) end =
      slice_range-cons bytes (at + 1) end lt high
      ∙ ap (λ (b : ℕ). b ∷ slice_range bytes (at + 1 + 1) end) first in
      let kind : code.Scalar value ≡ seen_kind (kind_of (slice_range bytes (at + 1) end)) =
      ap (λ (v : ℕ). code.Scalar v) is
      ∙ sym (ap (λ (t : List ℕ). seen_kind (kind_of t)) text
      ∙ ap seen_kind (kind-scalar d (slice_range bytes (at + 1 + 1) end) bit)) in
      let toks = behind-separator bytes at end lt high (rw feed refl)
      (λ k lo hi. elim (eqb_tells k (at + 1)) [
        | inl q ↦ rw (q.1, first) (bit-word d bit)
        | inr q ↦ p.word k (omega (arith, q.1, lo)) hi
      ]) p.ends in
      record {
        inside = high;
        says = λ count now.
            body-scalar declared (length bytes) count now (tokens_at bytes at) (slice_range bytes (at + 1) end)
            (at + 1) (tokens_at bytes end) toks value kind
            ∙ ap (λ (t : List ℕ). going count now (scalar_item declared (length bytes) t value (at + 1)))
            (behind bytes (at + 1) end lt high)
            ∙ ap (going count now)
            (scalar-code declared (length bytes) bytes (at + 1 + 1) end value (at + 1) low high)
            ∙ ap (λ (o : Option ℕ). going count now
            (code_item o (slice_range bytes (at + 1 + 1) end) value (at + 1)))
            (ap (place_of declared) (sym p.text) ∙ known);
      }

  pub vector-at : (number stop : ℕ) → get_or bytes (at + 1) 0 ≡ 98 → AreBitsAt bytes (at + 2) number stop
      → at + 2 < stop → number < 2 ^ 128 → get_or bytes stop 0 ≡ 32 → IsPackedAt bytes (stop + 1) packed end
      → IsItemAt declared bytes at (Changed named number) end
  vector-at number stop first bits2 some small space p =
      let e : at + 2 ≡ at + 1 + 1 = omega arith in
      let bits : AreBitsAt bytes (at + 1 + 1) number stop =
      subst (λ (n : ℕ). AreBitsAt bytes n number stop) e bits2 in
      let low = p.low in
      let high = p.high in
      let lt : at + 1 < stop = omega arith in
      let inside : stop < length bytes = omega arith in
      let ds = slice_range bytes (at + 1 + 1) stop in
      let text : slice_range bytes (at + 1) stop ≡ 98 ∷ slice_range bytes (at + 1 + 1) stop =
      slice_range-cons bytes (at + 1) stop lt bits.high
      ∙ ap (λ (b : ℕ). b ∷ slice_range bytes (at + 1 + 1) stop) first in
      let few : 0 < length (slice_range bytes (at + 1 + 1) stop) =
      omega (
        arith,
        some,
        bits.high,
        length-take (stop - (at + 1 + 1)) (drop (at + 1 + 1) bytes),
        length-drop (at + 1 + 1) bytes,
      ) in
      let fits : number % 2 ^ 128 ≡ number = omega (arith, small) in
      let value : bits_value (slice_range bytes (at + 1 + 1) stop) ≡ number =
      ap (λ (n : ℕ). n % 2 ^ 128) bits.value ∙ fits in
      let kind : code.Vector number ≡ seen_kind (kind_of (slice_range bytes (at + 1) stop)) =
      sym (ap (λ (t : List ℕ). seen_kind (kind_of t)) text
      ∙ ap seen_kind (kind-vector (slice_range bytes (at + 1 + 1) stop) few bits.all)
      ∙ ap (λ (n : ℕ). code.Vector n) value) in
      let toks = behind-separator bytes at stop lt bits.high (rw feed refl)
      (λ k lo hi. elim (eqb_tells k (at + 1)) [
        | inl q ↦ rw (q.1, first) refl
        | inr q ↦ bits.word k (omega (arith, q.1, lo)) hi
      ]) (ends-at bytes stop inside (rw space refl)) in
      let toks' = behind-separator bytes stop end low high (rw space refl) p.word p.ends in
      record {
        inside = high;
        says = λ count now.
            body-vector declared (length bytes) count now (tokens_at bytes at) (slice_range bytes (at + 1) stop)
            (at + 1) (tokens_at bytes stop) toks number (slice_range bytes (stop + 1) end) (stop + 1)
            (tokens_at bytes end) kind toks'
            ∙ ap (λ (o : Option ℕ). going count now
            (code_item o (slice_range bytes (stop + 1) end) number (stop + 1)))
            (ap (place_of declared) (sym p.text) ∙ known);
      }

kind-time : (ds : List ℕ) (n : ℕ) → decimal_below (2 ^ 64) ds ≡ Some n → kind_of (35 ∷ ds) ≡ Time n
unfolding kind_of
kind-time ds n h = ap time_kind h

pub time-at : (declared : List (List ℕ)) (bytes : List ℕ) (at number end : ℕ) → get_or bytes at 0 ≡ 10
    → get_or bytes (at + 1) 0 ≡ 35 → AreDigitsAt bytes (at + 2) number end → at + 2 < end → number < 2 ^ 64
    → end < length bytes → get_or bytes end 0 ≡ 10 → IsItemAt declared bytes at (Timed number (at + 1)) end
time-at declared bytes at number end feed first digits2 some small inside feed' =
    let e : at + 2 ≡ at + 1 + 1 = omega arith in
    let digits : AreDigitsAt bytes (at + 1 + 1) number end =
    subst (λ (n : ℕ). AreDigitsAt bytes n number end) e digits2 in
    let lt : at + 1 < end = omega arith in
    let text : slice_range bytes (at + 1) end ≡ 35 ∷ slice_range bytes (at + 1 + 1) end =
    slice_range-cons bytes (at + 1) end lt digits.high
    ∙ ap (λ (b : ℕ). b ∷ slice_range bytes (at + 1 + 1) end) first in
    let few : 0 < length (slice_range bytes (at + 1 + 1) end) =
    omega (
      arith,
      some,
      digits.high,
      length-take (end - (at + 1 + 1)) (drop (at + 1 + 1) bytes),
      length-drop (at + 1 + 1) bytes,
    ) in
    let below : decimal_from 0 (slice_range bytes (at + 1 + 1) end) < 2 ^ 64 = omega (arith, small, digits.value) in
    let value : decimal_below (2 ^ 64) (slice_range bytes (at + 1 + 1) end) ≡ Some number =
    decimal_below-small (2 ^ 64) (slice_range bytes (at + 1 + 1) end) few digits.all below
    ∙ ap (λ (n : ℕ). Some n) digits.value in
    let kind : code.Time number ≡ seen_kind (kind_of (slice_range bytes (at + 1) end)) =
    sym (ap (λ (t : List ℕ). seen_kind (kind_of t)) text
    ∙ ap seen_kind (kind-time (slice_range bytes (at + 1 + 1) end) number value)) in
    let toks = behind-separator bytes at end lt digits.high (rw feed refl)
    (λ k lo hi. elim (eqb_tells k (at + 1)) [
      | inl q ↦ rw (q.1, first) refl
      | inr q ↦ digits.word k (omega (arith, q.1, lo)) hi
    ]) (ends-at bytes end inside (rw feed' refl)) in
    record {
      inside = digits.high;
      says = λ count now.
          body-time declared (length bytes) count now (tokens_at bytes at) (slice_range bytes (at + 1) end)
          (at + 1) (tokens_at bytes end) toks number kind;
    }
