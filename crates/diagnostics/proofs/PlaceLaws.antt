-- The line of a byte, as far as a loop has come.
use Rattle.std.proofs.Common.{◌≡◌, ◌≢◌, ◌<◌, ◌+◌, ◌-◌, ◌∷◌, [], ℕ, zero, suc, List, true, false, take, length, min}
use Rattle.std.proofs.Common.{refl, sym, ap, arith, ◌∙◌, subst, inl, inr}
use Rattle.std.specs.Prelude.{slice_index, IsUtf8, count_by, not}
use Rattle.std.specs.List.{suffix_len}
use Rattle.std.specs.Str.{IsCharBoundary}
use Rattle.std.proofs.lemmas.Bool.Decides.{eqb_tells}
use Rattle.std.proofs.lemmas.List.{length-take, length-take-le, length-drop}
use Rattle.std.proofs.lemmas.List.Sums.{count_by_more_yes, count_by_more_no, suffix_len-take_yes, suffix_len-take_no}
use Rattle.std.proofs.lemmas.List.Sums.{suffix_len-le-length}
use Rattle.std.proofs.lemmas.Str.{IsCharBoundary-after_ascii}
use Rattle.diagnostics.specs.declared.place.Line.{Line}
use Rattle.diagnostics.specs.Told.{front_of}
use Rattle.diagnostics.specs.Places.{is_feed, is_no_feed, IsLineOf}

-- after a line feed
pub line-next : (text : List ℕ) (i : ℕ) (old new : Line) → IsUtf8 text → i < length text
    → slice_index text i ≡ 10 → IsLineOf text i old → new.number ≡ old.number + 1 → new.start ≡ i + 1
    → new.reached ≡ i + 1 → IsLineOf text (i + 1) new
line-next text i old new utf8 lt feed is number start reached =
    let yes : is_feed (slice_index text i) ≡ true = ap is_feed feed in
    let no : is_no_feed (slice_index text i) ≡ false = ap is_no_feed feed in
    let same : i + 1 - 1 ≡ i = omega arith in
    let none = suffix_len-take_no is_no_feed text (i + 1) 0 (omega arith) (omega (arith, lt))
    (ap (λ (k : ℕ). is_no_feed (slice_index text k)) same ∙ no) in
    let long = length-take-le (i + 1) text (omega (arith, lt)) in
    let count = count_by_more_yes is_feed text i 0 lt yes in
    let before = is.number in
    record {
      number = omega (arith, number, before, count);
      start = omega (arith, start, long, none);
      reached = omega (arith, reached, lt);
      cut = subst (λ (n : ℕ). IsCharBoundary text n) (sym start)
          (IsCharBoundary-after_ascii text i utf8 lt (omega (arith, feed)));
    }

-- after another byte
pub line-same : (text : List ℕ) (i : ℕ) (old new : Line) → i < length text
    → slice_index text i ≢ 10 → IsLineOf text i old → new.number ≡ old.number → new.start ≡ old.start
    → new.reached ≡ i + 1 → IsLineOf text (i + 1) new
line-same text i old new lt other is number start reached =
    let no : is_feed (slice_index text i) ≡ false = elim (eqb_tells (slice_index text i) 10) [
      | inl e ↦ absurd (other e.1)
      | inr e ↦ e.0
    ] in
    let yes : is_no_feed (slice_index text i) ≡ true = ap not no in
    let same : i + 1 - 1 ≡ i = omega arith in
    let more = suffix_len-take_yes is_no_feed text (i + 1) 0 (omega arith) (omega (arith, lt))
    (ap (λ (k : ℕ). is_no_feed (slice_index text k)) same ∙ yes) in
    let back : suffix_len is_no_feed (take (i + 1 - 1) text) ≡ suffix_len is_no_feed (take i text) =
    ap (λ (k : ℕ). suffix_len is_no_feed (take k text)) same in
    let long = length-take-le (i + 1) text (omega (arith, lt)) in
    let short = length-take-le i text (omega (arith, lt)) in
    let count = count_by_more_no is_feed text i 0 lt no in
    let before = is.number in
    let began = is.start in
    record {
      number = omega (arith, number, before, count);
      start = omega (arith, start, began, long, short, more, back);
      reached = omega (arith, reached, lt);
      cut = subst (λ (n : ℕ). IsCharBoundary text n) (sym start) is.cut;
    }

take-all : (n : ℕ) (xs : List ℕ) → take (length (take n xs)) xs ≡ take n xs
take-all zero xs = refl
take-all (suc n) [] = refl
take-all (suc n) (x ∷ xs) = ap (λ (ys : List ℕ). x ∷ ys) (take-all n xs)

-- at the end of the text
pub line-end : (text : List ℕ) (at : ℕ) (line : Line) → IsLineOf text (min at (length text)) line
    → IsLineOf text at line
line-end text at line is =
    let front : take (min at (length text)) text ≡ take at text =
    ap (λ (n : ℕ). take n text) (sym (length-take at text)) ∙ take-all at text in
    let reached = is.reached in
    record {
      number = is.number ∙ ap (λ (bs : List ℕ). count_by is_feed bs + 1) front;
      start = is.start ∙ ap (λ (bs : List ℕ). length bs - suffix_len is_no_feed bs) front;
      reached = omega (arith, reached);
      cut = is.cut;
    }

-- at the byte that was reached
pub line-kept : (text : List ℕ) (at : ℕ) (line : Line) → IsLineOf text at line → IsLineOf text line.reached line
line-kept text at line is =
    let front : take at text ≡ take (min at (length text)) text =
    sym (take-all at text) ∙ ap (λ (n : ℕ). take n text) (length-take at text) in
    subst (λ (n : ℕ). IsLineOf text n line) (sym is.reached) (record {
      number = is.number ∙ ap (λ (bs : List ℕ). count_by is_feed bs + 1) front;
      start = is.start ∙ ap (λ (bs : List ℕ). length bs - suffix_len is_no_feed bs) front;
      reached = let reached = is.reached in omega (arith, reached);
      cut = is.cut;
    })

-- how many bytes of its line stand in front of a byte
pub length-front : (text : List ℕ) (at : ℕ) → length (front_of text at) ≡ suffix_len is_no_feed (take at text)
length-front text at =
    let front = take at text in
    let high = suffix_len-le-length is_no_feed front in
    let long = length-drop (length front - suffix_len is_no_feed front) front in
    omega (arith, high, long)
