-- Texts, byte by byte from a place on.
use Rattle.std.proofs.Common.{leb, eqb, inl, inr, ◌≡◌, ℕ, ◌+◌, ◌<◌, ◌≤◌, Bool, true, false, ◌&&◌, ◌||◌, not, List, []}
use Rattle.std.proofs.Common.{◌∷◌, length, drop, get_or, refl, sym, ap, ◌∙◌, arith, if◌then◌else◌}
use Rattle.std.proofs.lemmas.Bool.{ne_eqb, leb-true, eqb-true, or_cases, and_parts}
use Rattle.std.specs.Str.{IsAscii, IsUtf8}
use Rattle.std.proofs.lemmas.Str.{IsUtf8-from_ascii}
use Rattle.std.proofs.lemmas.Str.Ascii.{IsAscii-nil, IsAscii-cons}
use Rattle.std.proofs.lemmas.List.{at_drop_more}
use Rattle.std.proofs.Math.ListN.{drop_of_length-le}
use Rattle.bytecode_programs.specs.Texts.{is_first, is_later, goes_on, begins}

module _ (dots : Bool) (bs : List ℕ) (i : ℕ) (lt : i < length bs) where
  pub first-no : is_first (get_or bs i 0) ≡ false → begins dots (drop i bs) ≡ false
  unfolding begins
  first-no h = at_drop_more (begins dots) bs i 0 lt ∙ rw h refl

  pub first-yes : is_first (get_or bs i 0) ≡ true → begins dots (drop i bs) ≡ goes_on dots (drop (i + 1) bs)
  unfolding begins
  first-yes h = at_drop_more (begins dots) bs i 0 lt ∙ rw h refl

  pub dot-no : get_or bs i 0 ≡ 46 → dots ≡ false → goes_on dots (drop i bs) ≡ false
  unfolding goes_on
  dot-no h d = at_drop_more (goes_on dots) bs i 0 lt ∙ rw (h, d) refl

  pub dot-yes : get_or bs i 0 ≡ 46 → dots ≡ true → goes_on dots (drop i bs) ≡ begins dots (drop (i + 1) bs)
  unfolding goes_on
  dot-yes h d = at_drop_more (goes_on dots) bs i 0 lt ∙ rw (h, d) refl

  pub later-no : (get_or bs i 0 ≡ 46 → ⊥) → is_later (get_or bs i 0) ≡ false → goes_on dots (drop i bs) ≡ false
  unfolding goes_on
  later-no n h = at_drop_more (goes_on dots) bs i 0 lt ∙ rw (ne_eqb (get_or bs i 0) 46 n, h) refl

  pub later-yes : (get_or bs i 0 ≡ 46 → ⊥) → is_later (get_or bs i 0) ≡ true → goes_on dots (drop i bs)
      ≡ goes_on dots (drop (i + 1) bs)
  unfolding goes_on
  later-yes n h = at_drop_more (goes_on dots) bs i 0 lt ∙ rw (ne_eqb (get_or bs i 0) 46 n, h) refl

-- The loop's invariant, where a word begins and where one goes on.
abbrev pub on_from : Bool → Bool → List ℕ → Bool
on_from first dots xs = if first then begins dots xs else goes_on dots xs

pub was_first : (first dots whole : Bool) (xs : List ℕ) → first ≡ true → on_from first dots xs ≡ whole
    → begins dots xs ≡ whole
was_first true dots whole xs e h = h
was_first false dots whole xs e h = absurd cc

pub was_later : (first dots whole : Bool) (xs : List ℕ) → first ≡ false → on_from first dots xs ≡ whole
    → goes_on dots xs ≡ whole
was_later true dots whole xs e h = absurd cc
was_later false dots whole xs e h = h

pub is_later_on : (first dots whole : Bool) (xs : List ℕ) → first ≡ false → goes_on dots xs ≡ whole
    → on_from first dots xs ≡ whole
is_later_on true dots whole xs e h = absurd cc
is_later_on false dots whole xs e h = h

at_end : (first dots : Bool) → on_from first dots [] ≡ not first
unfolding begins goes_on
at_end true dots = refl
at_end false dots = refl

pub on_end : (first dots : Bool) (bs : List ℕ) (i : ℕ) (whole : Bool) → length bs ≤ i → on_from first dots (drop i bs)
    ≡ whole → not first ≡ whole
on_end first dots bs i whole past h =
    sym (at_end first dots) ∙ ap (on_from first dots) (sym (drop_of_length-le bs past)) ∙ h

-- Texts are ASCII.
first-below : (b : ℕ) → is_first b ≡ true → b < 128
first-below b h =
    elim (or_cases (leb 65 b && leb b 90 || leb 97 b && leb b 122) (eqb b 95) h) [
      | inl letter ↦ elim (or_cases (leb 65 b && leb b 90) (leb 97 b && leb b 122) letter) [
        | inl upper ↦ omega (arith, leb-true b 90 (and_parts (leb 65 b) (leb b 90) upper).1)
        | inr lower ↦ omega (arith, leb-true b 122 (and_parts (leb 97 b) (leb b 122) lower).1)
      ]
      | inr line ↦ omega (arith, eqb-true b 95 line)
    ]

later-below : (b : ℕ) → is_later b ≡ true → b < 128
later-below b h =
    elim (or_cases (is_first b || leb 48 b && leb b 57) (eqb b 36) h) [
      | inl on ↦ elim (or_cases (is_first b) (leb 48 b && leb b 57) on) [
        | inl first ↦ first-below b first
        | inr digit ↦ omega (arith, leb-true b 57 (and_parts (leb 48 b) (leb b 57) digit).1)
      ]
      | inr dollar ↦ omega (arith, eqb-true b 36 dollar)
    ]

step-ascii : (dots : Bool) (b : ℕ) (bs : List ℕ) (is_dot : Bool) → eqb b 46 ≡ is_dot
    → (goes_on dots bs ≡ true → IsAscii bs) → (begins dots bs ≡ true → IsAscii bs)
    → (if is_dot then dots && begins dots bs else is_later b && goes_on dots bs) ≡ true → IsAscii (b ∷ bs)
step-ascii dots b bs true e later first h =
    IsAscii-cons b bs (omega (arith, eqb-true b 46 e)) (first (and_parts dots (begins dots bs) h).1)
step-ascii dots b bs false e later first h =
    IsAscii-cons b bs (later-below b (and_parts (is_later b) (goes_on dots bs) h).0)
    (later (and_parts (is_later b) (goes_on dots bs) h).1)

pub both-ascii : (dots : Bool) (bs : List ℕ) → (goes_on dots bs ≡ true → IsAscii bs)
    × (begins dots bs ≡ true → IsAscii bs)
unfolding goes_on begins
both-ascii dots [] = (λ h. IsAscii-nil, λ h. IsAscii-nil)
both-ascii dots (b ∷ bs) =
    let rest = both-ascii dots bs in (
      λ h. step-ascii dots b bs (eqb b 46) refl rest.0 rest.1 h,
      λ h. IsAscii-cons b bs (first-below b (and_parts (is_first b) (goes_on dots bs) h).0)
          (rest.0 (and_parts (is_first b) (goes_on dots bs) h).1),
    )

pub text-utf8 : (dots : Bool) (bs : List ℕ) → begins dots bs ≡ true → IsUtf8 bs
text-utf8 dots bs h = IsUtf8-from_ascii bs ((both-ascii dots bs).1 h)
