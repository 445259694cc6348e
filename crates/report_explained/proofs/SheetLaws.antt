-- The lines of a sheet, one by one.
use Rattle.std.proofs.Common.{◌≡◌, ◌∙◌, ◌≤◌, ◌<◌, ◌+◌, ℕ, zero, suc, List, [], ◌∷◌, ◌++◌, Option, None, Some}
use Rattle.std.proofs.Common.{String, Global}
use Rattle.std.proofs.Common.{length, map, take, drop, get_or, string_bytes, refl, sym, ap, subst, arith, add-one}
use Rattle.std.proofs.Common.{append_assoc, append-nil}
use Rattle.std.proofs.Common.{Bor, IfSome, MatchOption, option_copied}
use Rattle.std.specs.Prelude.{slice_get}
use Rattle.std.specs.List.{flat_map}
use Rattle.std.proofs.Math.Seq.{drop-cons, take-suc}
use Rattle.std.proofs.Math.ListN.{drop_of_length-le}
use Rattle.std.proofs.lemmas.List.{map-append}
use Rattle.std.proofs.lemmas.Option.{slice_get_past, slice_get_read}
use Rattle.report_forms.specs.Grown.{Grows}
use Rattle.report_forms.proofs.PieceLaws.{and_then, flat_map-append}
use Rattle.report_explained.specs.declared.sheet.SheetRow.{SheetRow}
use Rattle.report_explained.specs.SheetText.{LineData, AreRowLines, GrowsByRow, GrowsByRows, IsPlaced, GrowsPlaced}
use Rattle.report_explained.specs.SheetText.{blanks, first_of, gap_text, is_gap, with_gaps}
use Rattle.report_explained.proofs.ZipLaws.{zip_more, zip_last}

texts_of : List (String Global) → List (List ℕ)
texts_of = map string_bytes

-- the pieces of one list more
pieces_last : {X : Type 0} (xs : List (List X)) (x : List X) → flat_map (λ l. l) (xs ++ x ∷ [])
    ≡ flat_map (λ l. l) xs ++ x
pieces_last xs x =
    flat_map-append (λ l. l) xs (x ∷ []) ∙ ap (λ l. flat_map (λ l. l) xs ++ l) (append-nil x)

-- the lines of one row more
pub rows_more : (clocks : List ℕ) (all : List SheetRow) (i : ℕ) (d : SheetRow) (old mid new : List LineData)
    → i < length all → GrowsByRows clocks (take i all) old mid → GrowsByRow clocks (get_or all i d) mid new
    → GrowsByRows clocks (take (i + 1) all) old new
rows_more clocks all i d old mid new below so one =
    record {
      each = so.each ++ one.lines ∷ [];
      are = zip_more (AreRowLines clocks) all i d one.lines so.each _ below refl one.are so.are;
      grown = one.grown ∙ ap (λ l. l ++ one.lines) so.grown ∙ append_assoc old _ one.lines
          ∙ ap (λ l. old ++ l) (sym (pieces_last so.each one.lines));
    }

-- nothing stands for a text without a character
pub placed_none : (text : List ℕ) → length text ≡ 0 → IsPlaced text []
placed_none [] none = refl
placed_none (b ∷ bs) none = absurd (omega (arith, none))

-- any other one stands after its blanks
pub placed_some : (text : List ℕ) (count : ℕ) → 2 ≤ count → 1 ≤ length text → IsPlaced text (blanks count ++ text)
placed_some [] count apart some = absurd (omega (arith, some))
placed_some (b ∷ bs) count apart some = record { count = count; apart = apart; is = refl }

-- the text of one cell more, or nothing
pub placed_more : (all : List (String Global)) (i : ℕ) (d : String Global) (piece s t u : List ℕ) → i < length all
    → GrowsPlaced s t (map string_bytes (take i all)) → IsPlaced (string_bytes (get_or all i d)) piece
    → Grows t u piece → GrowsPlaced s u (map string_bytes (take (i + 1) all))
placed_more all i d piece s t u below so is grows =
    let front : take (i + 1) all ≡ take i all ++ get_or all i d ∷ [] =
    ap (λ k. take k all) (add-one i) ∙ take-suc all i d below in
    let texts : map string_bytes (take (i + 1) all)
    ≡ map string_bytes (take i all) ++ string_bytes (get_or all i d) ∷ [] =
    ap (map string_bytes) front ∙ map-append string_bytes (take i all) (get_or all i d ∷ []) in
    let both = and_then so.grown grows in
    subst (λ ts. GrowsPlaced s u ts) (sym texts) (record {
      pieces = so.pieces ++ piece ∷ [];
      each = zip_last IsPlaced (string_bytes (get_or all i d)) piece is _ so.pieces so.each;
      grown = record { is = both.is ∙ ap (λ l. s ++ l) (sym (pieces_last so.pieces piece)) };
    })

first_drop : (ns : List ℕ) (i : ℕ) → first_of (drop i ns) ≡ slice_get ns i
first_drop [] zero = refl
first_drop [] (suc i) = refl
first_drop (n ∷ ns) zero = refl
first_drop (n ∷ ns) (suc i) = first_drop ns i

drop_one : (ns : List ℕ) (i : ℕ) → drop 1 (drop i ns) ≡ drop (suc i) ns
drop_one [] zero = refl
drop_one [] (suc i) = refl
drop_one (n ∷ ns) zero = refl
drop_one (n ∷ ns) (suc i) = drop_one ns i

-- what stands at a place, copied
pub copied_is : (Q : Bor ℕ → Type 0) (ns : List ℕ) (i : ℕ) (r : Option (Bor ℕ))
    → IfSome r (λ x. x.now ≡ get_or ns i x.now)
    → MatchOption r (length ns ≤ i) (λ x. (i < length ns) × Q x) → option_copied r ≡ slice_get ns i
copied_is Q ns i None is past = sym (slice_get_past ns i past)
copied_is Q ns i (Some x) is within = sym (slice_get_read ns (length ns) i x.now refl within.0 is)

-- one text more, after a gap if there is one
pub gaps_more : (clocks : List ℕ) (texts : List (String Global)) (before clock : Option ℕ) (i : ℕ) (t : String Global)
    (old mid new all : List (List ℕ)) → i < length texts → clock ≡ slice_get clocks i → t ≡ get_or texts i t
    → mid ≡ old ++ gap_text (is_gap before clock) → new ≡ mid ++ string_bytes t ∷ []
    → old ++ with_gaps before (drop i clocks) (map string_bytes (drop i texts)) ≡ all
    → new ++ with_gaps clock (drop (i + 1) clocks) (map string_bytes (drop (i + 1) texts)) ≡ all
unfolding with_gaps
gaps_more clocks texts before clock i t old mid new all below here is gap put so =
    let rest = with_gaps clock (drop (i + 1) clocks) (map string_bytes (drop (i + 1) texts)) in
    let one : i + 1 ≡ suc i = omega arith in
    let first : drop i texts ≡ t ∷ drop (suc i) texts =
    drop-cons texts i t below ∙ ap (λ x. x ∷ drop (suc i) texts) (sym is) in
    let at : first_of (drop i clocks) ≡ clock = first_drop clocks i ∙ sym here in
    let whole : with_gaps before (drop i clocks) (map string_bytes (drop i texts))
    ≡ gap_text (is_gap before clock) ++ string_bytes t ∷ rest =
    ap (λ ts. with_gaps before (drop i clocks) (map string_bytes ts)) first
    ∙ ap (λ c. gap_text (is_gap before c) ++ string_bytes t
    ∷ with_gaps c (drop 1 (drop i clocks)) (map string_bytes (drop (suc i) texts))) at
    ∙ ap (λ cs. gap_text (is_gap before clock) ++ string_bytes t
    ∷ with_gaps clock cs (map string_bytes (drop (suc i) texts))) (drop_one clocks i)
    ∙ ap (λ k. gap_text (is_gap before clock) ++ string_bytes t
    ∷ with_gaps clock (drop k clocks) (map string_bytes (drop k texts))) (sym one) in
    ap (λ l. l ++ rest) put ∙ append_assoc mid (string_bytes t ∷ []) rest
    ∙ ap (λ l. l ++ string_bytes t ∷ rest) gap
    ∙ append_assoc old (gap_text (is_gap before clock)) (string_bytes t ∷ rest)
    ∙ ap (λ l. old ++ l) (sym whole) ∙ so

-- no text is left
pub gaps_all : (clocks : List ℕ) (texts : List (String Global)) (before : Option ℕ) (i : ℕ) (done all : List (List ℕ))
    → length texts ≤ i → done ++ with_gaps before (drop i clocks) (map string_bytes (drop i texts)) ≡ all → done ≡ all
unfolding with_gaps
gaps_all clocks texts before i done all past so =
    let none : map string_bytes (drop i texts) ≡ [] = ap (map string_bytes) (drop_of_length-le texts past) in
    sym (append-nil done) ∙ ap (λ ts. done ++ with_gaps before (drop i clocks) ts) (sym none) ∙ so
