-- Rows and tables that grow by one.
use Rattle.std.proofs.Common.{◌≡◌, inl, inr, ℕ, zero, suc, ◌+◌, ◌<◌, ◌≤◌, Bool, true, false, ◌&&◌, ◌||◌, List, [], ◌∷◌}
use Rattle.std.proofs.Common.{not, ◌++◌, length, get_or, refl, sym, subst, ap, ◌∙◌, arith, length-append, nat_le, max}
use Rattle.std.proofs.Common.{◌-◌}
use Rattle.std.specs.Prelude.{IsTrue, ◌==◌}
use Rattle.std.proofs.Math.ListN.{get_or-append}
use Rattle.std.proofs.lemmas.Bool.{cases_lt, both_ways, le-leb, leb-true, false_from_ne_true, and_parts}
use Rattle.assertions.specs.Quantifiers.{some_in, each_in}
use Rattle.assertions.proofs.Quantifiers.{some_in-end, some_in-snoc, each_in-end, each_in-snoc}
use Rattle.judging.specs.Tables.{marks, row_at, has_link, IsRow, IsRelation}

-- two tests that pass together
pub same_truth : (a b : Bool) → (IsTrue a → IsTrue b) → (IsTrue b → IsTrue a) → a ≡ b
same_truth true b f g = sym (f refl)
same_truth false true f g = g refl
same_truth false false f g = refl

pub get_or_end : {X : Type 0} (xs : List X) (x d : X) (i : ℕ) → i ≡ length xs → get_or (xs ++ x ∷ []) i d ≡ x
get_or_end [] x d zero h = refl
get_or_end [] x d (suc i) h = absurd (omega arith)
get_or_end (y ∷ ys) x d zero h = absurd (omega arith)
get_or_end (y ∷ ys) x d (suc i) h = get_or_end ys x d i (omega arith)

pub get_or_past : {X : Type 0} (xs : List X) (d : X) (i : ℕ) → length xs ≤ i → get_or xs i d ≡ d
get_or_past [] d i h = refl
get_or_past (y ∷ ys) d zero h = absurd (omega arith)
get_or_past (y ∷ ys) d (suc i) h = get_or_past ys d i (omega arith)

-- what is marked lies within the row
pub marked_within : (row : List Bool) (i : ℕ) → IsTrue (marks row i) → i < length row
marked_within row i h = elim (cases_lt i (length row)) [
  | inl lt ↦ lt
  | inr ge ↦ absurd (both_ways _ (get_or_past row false i ge) h)
]

-- one place more
pub row_more : (test : ℕ → Bool) (place : ℕ) (row new : List Bool) (here : Bool) → IsRow test place row
    → new ≡ row ++ here ∷ [] → here ≡ test place → IsRow test (place + 1) new
row_more test place row new here h pushed is = record {
  long = ap (λ (l : List Bool). length l) pushed ∙ length-append row (here ∷ []) ∙ ap (λ n. n + 1) h.long;
  each = λ k below. elim (cases_lt k place) [
    | inl lt ↦ ap (λ (l : List Bool). marks l k) pushed ∙ get_or-append row (here ∷ []) false k (omega (arith, h.long))
        ∙ h.each k lt
    | inr ge ↦
        let e : place ≡ k = omega (arith, ge) in
        ap (λ (l : List Bool). marks l k) pushed ∙ get_or_end row here false k (omega (arith, h.long)) ∙ is ∙ ap test e
  ];
}

pub row_none : (test : ℕ → Bool) → IsRow test 0 []
row_none test = record { long = refl; each = λ k below. absurd (omega arith) }

-- the rows so far
pub record IsRowsOf (test : ℕ → ℕ → Bool) (starts : List Bool) (place : ℕ) (rows : List (List Bool)) : Type 0 where
  pub long : length rows ≡ place
  pub each : (i j : ℕ) → i < place → IsTrue (marks starts i) → j < length starts → has_link rows i j ≡ test i j

rows_before : (rows : List (List Bool)) (row : List Bool) (i j : ℕ) → i < length rows → has_link (rows ++ row ∷ []) i j
    ≡ has_link rows i j
rows_before rows row i j lt = ap (λ (l : List Bool). marks l j) (get_or-append rows (row ∷ []) [] i lt)

rows_last : (rows : List (List Bool)) (row : List Bool) (i j : ℕ) → i ≡ length rows → has_link (rows ++ row ∷ []) i j
    ≡ marks row j
rows_last rows row i j e = ap (λ (l : List Bool). marks l j) (get_or_end rows row [] i e)

-- the row of a start without a mark
pub rows_skip : (test : ℕ → ℕ → Bool) (starts : List Bool) (place : ℕ) (rows new : List (List Bool)) (row : List Bool)
    → IsRowsOf test starts place rows → new ≡ rows ++ row ∷ [] → marks starts place ≡ false
    → IsRowsOf test starts (place + 1) new
rows_skip test starts place rows new row h pushed off = record {
  long = ap (λ (l : List (List Bool)). length l) pushed ∙ length-append rows (row ∷ []) ∙ ap (λ n. n + 1) h.long;
  each = λ i j below marked inside. elim (cases_lt i place) [
    | inl lt ↦ ap (λ (l : List (List Bool)). has_link l i j) pushed ∙ rows_before rows row i j (omega (arith, h.long))
        ∙ h.each i j lt marked inside
    | inr ge ↦ let e : i ≡ place =
        omega (arith, ge) in absurd (both_ways _ off (subst (λ n. IsTrue (marks starts n)) e marked))
  ];
}

-- the row of a start with a mark
pub rows_more : (test : ℕ → ℕ → Bool) (starts : List Bool) (place : ℕ) (rows new : List (List Bool)) (row : List Bool)
    → IsRowsOf test starts place rows → new ≡ rows ++ row ∷ []
    → ((j : ℕ) → j < length starts → marks row j ≡ test place j) → IsRowsOf test starts (place + 1) new
rows_more test starts place rows new row h pushed here = record {
  long = ap (λ (l : List (List Bool)). length l) pushed ∙ length-append rows (row ∷ []) ∙ ap (λ n. n + 1) h.long;
  each = λ i j below marked inside. elim (cases_lt i place) [
    | inl lt ↦ ap (λ (l : List (List Bool)). has_link l i j) pushed ∙ rows_before rows row i j (omega (arith, h.long))
        ∙ h.each i j lt marked inside
    | inr ge ↦
        let e : place ≡ i = omega (arith, ge) in
        ap (λ (l : List (List Bool)). has_link l i j) pushed ∙ rows_last rows row i j (omega (arith, h.long))
        ∙ here j inside ∙ ap (λ n. test n j) e
  ];
}

pub rows_none : (test : ℕ → ℕ → Bool) (starts : List Bool) → IsRowsOf test starts 0 []
rows_none test starts = record { long = refl; each = λ i j below. absurd (omega arith) }

-- the rows of all starts
pub rows_all : (test : ℕ → ℕ → Bool) (starts : List Bool) (place : ℕ) (rows : List (List Bool))
    → IsRowsOf test starts place rows → place ≡ length starts → IsRelation test starts rows
rows_all test starts place rows h whole =
    record { each = λ i j marked inside. h.each i j (omega (arith, marked_within starts i marked)) marked inside }

-- whether a place counts where the first mark alone may do so: one place more
pub counts_on : (ends : List Bool) (place : ℕ) (first counts here after : Bool)
    → counts ≡ (not first || each_in 0 place (λ k. not (marks ends k))) → here ≡ marks ends place
    → after ≡ (counts && not (first && here)) → after ≡ (not first || each_in 0 (place + 1) (λ k. not (marks ends k)))
counts_on ends place false counts here after h at is = is ∙ ap (λ b. b && not (false && here)) h
counts_on ends place true counts here after h at is =
    is ∙ ap (λ b. b && not (true && here)) h
    ∙ ap (λ b. each_in 0 place (λ k. not (marks ends k)) && not b) at
    ∙ sym (each_in-snoc 0 place (λ k. not (marks ends k)) (omega arith))

-- places up to which something holds from a first place on
pub holds_on : (p : ℕ → Bool) (first place : ℕ) (going after : Bool) → going ≡ each_in first place p
    → after ≡ (going && (nat_le (place + 1) first || p place)) → after ≡ each_in first (place + 1) p
holds_on p first place going after h is = elim (cases_lt place first) [
  | inl lt ↦
      is ∙ ap (λ b. b && (nat_le (place + 1) first || p place)) (h ∙ each_in-end first place p (omega arith))
      ∙ ap (λ b. true && (b || p place)) (le-leb (place + 1) first (omega arith))
      ∙ sym (each_in-end first (place + 1) p (omega arith))
  | inr ge ↦
      let off : nat_le (place + 1) first ≡ false =
      false_from_ne_true _ (λ t. absurd (omega (arith, leb-true (place + 1) first t))) in
      is ∙ ap (λ b. b && (nat_le (place + 1) first || p place)) h
      ∙ ap (λ b. each_in first place p && (b || p place)) off
      ∙ sym (each_in-snoc first place p ge)
]

or-false : (b : Bool) → (b || false) ≡ b
or-false true = refl
or-false false = refl

-- what a table reaches from the places of a row below m
abbrev pub reached_below : List Bool → List (List Bool) → ℕ → ℕ → ℕ → Bool
reached_below front rest gap m j = some_in 0 m (λ m. marks front m && (nat_le (m + gap) j && has_link rest m j))

pub join_skip : (front row : List Bool) (rest : List (List Bool)) (gap count m : ℕ)
    → IsRow (reached_below front rest gap m) count row → marks front m ≡ false
    → IsRow (reached_below front rest gap (m + 1)) count row
join_skip front row rest gap count m h off = record {
  long = h.long;
  each = λ j below.
      let p : ℕ → Bool = λ m. marks front m && (nat_le (m + gap) j && has_link rest m j) in
      h.each j below ∙ sym (or-false (some_in 0 m p))
      ∙ ap (λ b. some_in 0 m p || (b && (nat_le (m + gap) j && has_link rest m j))) (sym off)
      ∙ sym (some_in-snoc 0 m p (omega arith));
}

pub join_more : (front row new more : List Bool) (rest : List (List Bool)) (gap count m : ℕ)
    → IsRow (reached_below front rest gap m) count row → marks front m ≡ true → more ≡ row_at rest m
    → length new ≡ length row
    → ((j : ℕ) → j < length row → marks new j ≡ (marks row j || (nat_le (m + gap) j && marks more j)))
    → IsRow (reached_below front rest gap (m + 1)) count new
join_more front row new more rest gap count m h on is long each = record {
  long = long ∙ h.long;
  each = λ j below.
      let p : ℕ → Bool = λ m. marks front m && (nat_le (m + gap) j && has_link rest m j) in
      each j (omega (arith, h.long)) ∙ ap (λ b. b || (nat_le (m + gap) j && marks more j)) (h.each j below)
      ∙ ap (λ (l : List Bool). some_in 0 m p || (nat_le (m + gap) j && marks l j)) is
      ∙ ap (λ b. some_in 0 m p || (b && (nat_le (m + gap) j && has_link rest m j))) (sym on)
      ∙ sym (some_in-snoc 0 m p (omega arith));
}

-- one place more of the later ends
pub later_here : (one other : List Bool) (j : ℕ) (here one_before other_before one_ended other_ended : Bool)
    → one_before ≡ some_in 0 j (marks one) → other_before ≡ some_in 0 j (marks other)
    → one_ended ≡ (one_before || marks one j) → other_ended ≡ (other_before || marks other j)
    → here ≡ ((marks one j && other_ended) || (one_ended && marks other j))
    → here ≡ ((marks one j && some_in 0 (j + 1) (marks other)) || (some_in 0 (j + 1) (marks one) && marks other j))
later_here one other j here one_before other_before one_ended other_ended one_was other_was one_is other_is is =
    is ∙ ap (λ b. (marks one j && b) || (one_ended && marks other j)) (other_is ∙ ap (λ b. b || marks other j) other_was
    ∙ sym (some_in-snoc 0 j (marks other) (omega arith)))
    ∙ ap (λ b. (marks one j && some_in 0 (j + 1) (marks other)) || (b && marks other j))
    (one_is ∙ ap (λ b. b || marks one j) one_was ∙ sym (some_in-snoc 0 j (marks one) (omega arith)))

pub ended_here : (row : List Bool) (j : ℕ) (before ended : Bool) → before ≡ some_in 0 j (marks row)
    → ended ≡ (before || marks row j) → ended ≡ some_in 0 (j + 1) (marks row)
ended_here row j before ended was is =
    is ∙ ap (λ b. b || marks row j) was ∙ sym (some_in-snoc 0 j (marks row) (omega arith))

-- the places after those of a row by a number from the least up to below a gap
abbrev pub moved_below : List Bool → ℕ → ℕ → ℕ → Bool
moved_below front least end j = some_in least end (λ gap. nat_le gap j && marks front (j - gap))

pub moved_none : (front row : List Bool) (least count : ℕ) → IsRow (λ j. (j == 0) && false) count row
    → IsRow (moved_below front least least) count row
moved_none front row least count h = record {
  long = h.long;
  each = λ j below. h.each j below ∙ same_truth _ _
      (λ t. absurd (both_ways _ refl (and_parts (j == 0) false t).1))
      (λ t. absurd (both_ways _ (some_in-end least least (λ gap. nat_le gap j && marks front (j - gap)) (omega arith))
      t));
}

pub moved_more : (front row new : List Bool) (least gap count : ℕ) → IsRow (moved_below front least gap) count row
    → least ≤ gap
    → length new ≡ length row
    → ((j : ℕ) → j < length row → marks new j ≡ (marks row j || (nat_le gap j && marks front (j - gap))))
    → IsRow (moved_below front least (gap + 1)) count new
moved_more front row new least gap count h from long each = record {
  long = long ∙ h.long;
  each = λ j below.
      let p : ℕ → Bool = λ gap. nat_le gap j && marks front (j - gap) in
      each j (omega (arith, h.long)) ∙ ap (λ b. b || p gap) (h.each j below) ∙ sym (some_in-snoc least gap p from);
}

pub moved_all : (front row : List Bool) (least end gap count : ℕ) → IsRow (moved_below front least gap) count row
    → least ≤ gap → end ≤ gap → gap ≤ max end least → IsRow (moved_below front least end) count row
moved_all front row least end gap count h from past upto = record {
  long = h.long;
  each = λ j below.
      let p : ℕ → Bool = λ gap. nat_le gap j && marks front (j - gap) in
      h.each j below ∙ elim (cases_lt least end) [
        | inl lt ↦ let e : gap ≡ end = omega arith in ap (λ n. some_in least n p) e
        | inr ge ↦ some_in-end least gap p (omega arith) ∙ sym (some_in-end least end p ge)
      ];
}
