-- Bytes that are blanked in place.
use Rattle.std.proofs.Common.{◌≡◌, ◌<◌, ◌++◌, ◌∷◌, ◌-◌, [], ℕ, zero, suc, List, map, take, drop, length}
use Rattle.std.proofs.Common.{refl, ap, arith, cond, true, false}
use Rattle.std.specs.Prelude.{slice_set, slice_index, IsUtf8}
use Rattle.std.specs.Str.{IsCharBoundary, IsAscii}
use Rattle.std.proofs.lemmas.Str.{IsUtf8-append, IsUtf8-take, IsUtf8-drop, IsUtf8-from_ascii}
use Rattle.std.proofs.lemmas.Str.Ascii.{IsAscii-nil, IsAscii-cons}
use Rattle.diagnostics.specs.Blanked.{blank_for, blanked}
use Rattle.diagnostics.specs.Places.{is_feed}

-- one byte more
pub blank-more : (f : ℕ → ℕ) (xs : List ℕ) (i : ℕ) → i < length xs
    → slice_set (map f (take i xs) ++ drop i xs) i (f (slice_index (map f (take i xs) ++ drop i xs) i))
    ≡ map f (take (suc i) xs) ++ drop (suc i) xs
blank-more f [] i lt = absurd (omega (arith, lt))
blank-more f (x ∷ xs) zero lt = refl
blank-more f (x ∷ xs) (suc i) lt = ap (λ (ys : List ℕ). f x ∷ ys) (blank-more f xs i (omega (arith, lt)))

below_128 : (b : ℕ) → blank_for b < 128
below_128 b = elim (is_feed b) as (λ c. cond c 10 32 < 128) [ true ↦ omega arith | false ↦ omega arith ]

blanks_ascii : (bs : List ℕ) → IsAscii (map blank_for bs)
blanks_ascii [] = IsAscii-nil
blanks_ascii (b ∷ bs) = IsAscii-cons (blank_for b) (map blank_for bs) (below_128 b) (blanks_ascii bs)

-- it stays a text
pub IsUtf8-blanked : (text : List ℕ) (start end : ℕ) → IsUtf8 text → IsCharBoundary text start
    → IsCharBoundary text end → IsUtf8 (blanked text start end)
IsUtf8-blanked text start end utf8 from to =
    let blanks = map blank_for (take (end - start) (drop start text)) in
    IsUtf8-append (take start text ++ blanks) (drop end text)
    (IsUtf8-append (take start text) blanks (IsUtf8-take text start utf8 from)
    (IsUtf8-from_ascii blanks (blanks_ascii (take (end - start) (drop start text)))))
    (IsUtf8-drop text end utf8 to)
