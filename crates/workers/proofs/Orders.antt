-- Monitors and batches in the order of their numbers.
use Rattle.std.proofs.Common.{◌≡◌, ℕ, zero, suc, ◌+◌, ◌-◌, ◌<◌, ◌≤◌, List, [], ◌∷◌, ◌++◌, length, get_or}
use Rattle.std.proofs.Common.{sym, refl, ap, ◌∙◌, subst, arith, add-one, Option, None, All}
use Rattle.std.specs.List.{sum_by}
use Rattle.std.specs.List.Sorted.{IsNonDecreasingBy, IsPermutation}
use Rattle.std.proofs.lemmas.List.Sums.{sum_by-cons}
use Rattle.std.proofs.lemmas.List.Sorted.{sum_by-IsPermutation}
use native.Mathlib.Decide.{dec_le}
use Rattle.std.proofs.lemmas.List.Elements.{All-head, All-tail}
use Rattle.workers_bench.specs.declared.numbered.Numbered.{Numbered}
use Rattle.workers.specs.declared.worker.Published.{Published}
use Rattle.workers_bench.specs.Hands.{numbers, total, NumbersRiseFrom, hand}
use Rattle.workers.specs.Works.{published_number, numbers_back}
use Rattle.workers_bench.proofs.Keeps.{total-append}
use Rattle.workers.specs.Runs.{upto, published_numbers, Begins, EndsRound}
use Rattle.workers.specs.Crews.{WorksFrom}
use Rattle.verdicts.specs.declared.board.Board.{Board}
use Rattle.workers_bench.specs.declared.passes.Hand.{Hand}
use Rattle.workers_bench.specs.declared.bench.Bench.{Bench}
use Rattle.workers.specs.declared.crew.Task.{Task}
use Rattle.cycle_window.specs.declared.window.Window.{Window}
use Rattle.workers.specs.declared.worker.Worked.{Worked}

-- what holds of each holds of one in the midst
pub middle : {X : Type 0} (P : X → Type 0) (xs ys : List X) (x : X) → All P (xs ++ x ∷ ys) → P x
middle P [] ys x h = All-head P x ys h
middle P (z ∷ xs) ys x h = middle P xs ys x (All-tail P z (xs ++ x ∷ ys) h)

upto_more : (low n : ℕ) → upto low (suc n) ≡ upto low n ++ (low + n) ∷ []
upto_more low zero = let e : low ≡ low + 0 = omega arith in ap (λ k. k ∷ []) e
upto_more low (suc n) = let e : suc low + n ≡ low + suc n =
    omega arith in ap (λ l. low ∷ l) (upto_more (suc low) n ∙ ap (λ k. upto (suc low) n ++ k ∷ []) e)

push_numbers : (xs : List Numbered) (x : Numbered) → numbers (xs ++ x ∷ []) ≡ numbers xs ++ x.number ∷ []
push_numbers [] x = refl
push_numbers (y ∷ ys) x = ap (λ l. y.number ∷ l) (push_numbers ys x)

pub next_number : (xs ys : List Numbered) (x : Numbered) (n : ℕ) → ys ≡ xs ++ x ∷ [] → numbers xs ≡ upto 0 n
    → x.number ≡ n → numbers ys ≡ upto 0 (n + 1)
next_number xs ys x n is before source =
    let more : upto 0 (n + 1) ≡ upto 0 n ++ n ∷ [] =
    rw add-one (let e : 0 + n ≡ n = omega arith in upto_more 0 n ∙ ap (λ k. upto 0 n ++ k ∷ []) e) in
    ap numbers is ∙ (push_numbers xs x ∙ ((λ i. before i ++ source i ∷ []) ∙ sym more))

published-append : (xs ys : List Published) → published_numbers (xs ++ ys)
    ≡ published_numbers xs ++ published_numbers ys
published-append [] ys = refl
published-append (x ∷ xs) ys = ap (λ l. published_number x ∷ l) (published-append xs ys)

pub published_more : (h : ℕ → ℕ) (xs ys zs : List Published) → zs ≡ xs ++ ys → total h (published_numbers zs)
    ≡ total h (published_numbers xs) + total h (published_numbers ys)
published_more h xs ys zs is =
    ap (λ l. total h (published_numbers l)) is
    ∙ (ap (total h) (published-append xs ys) ∙ total-append h (published_numbers xs) (published_numbers ys))

append_none : (xs : List ℕ) → xs ++ [] ≡ xs
append_none [] = refl
append_none (x ∷ xs) = ap (λ l. x ∷ l) (append_none xs)

-- with nothing kept, what comes back is what was published
pub back_none : (h : ℕ → ℕ) (ps : List Published) (kept : Option Numbered) → kept ≡ None
    → total h (numbers_back ps kept) ≡ total h (published_numbers ps)
back_none h ps kept none =
    ap (λ k. total h (numbers_back ps k)) none ∙ ap (total h) (append_none (published_numbers ps))

-- ---- a list that does not fall, and has what the numbers from low on have, is these numbers

abbrev pub Ascends : ℕ → List ℕ → Type 0
Ascends low [] = Unit {0}
Ascends low (x ∷ xs) = (low ≤ x) × Ascends x xs

-- 1 at low, and 0 above
abbrev mark : ℕ → ℕ → ℕ
mark low x = 1 - (x - low)

none_above : (low y : ℕ) (ys : List ℕ) → low < y → Ascends y ys → total (mark low) ys ≡ 0
none_above low y [] above h = refl
none_above low y (z ∷ zs) above h = omega (arith, none_above low z zs (omega (arith, h.0)) h.1, h.0)

none_upto : (low k n : ℕ) → low < k → total (mark low) (upto k n) ≡ 0
none_upto low k zero above = refl
none_upto low k (suc n) above = omega (arith, none_upto low (suc k) n (omega arith))

above_all : (low : ℕ) (ys : List ℕ) → Ascends low ys → total (mark low) ys ≡ 0 → Ascends (suc low) ys
above_all low [] h none = tt
above_all low (z ∷ zs) h none = (omega (arith, h.0), h.1)

sorted_upto : (low n : ℕ) (ys : List ℕ) → Ascends low ys → ((h : ℕ → ℕ) → total h ys ≡ total h (upto low n)) → ys
    ≡ upto low n
sorted_upto low zero [] h same = refl
sorted_upto low zero (y ∷ ys) h same = absurd (let e = same (λ _. 1) in omega arith)
sorted_upto low (suc n) [] h same = absurd (let e = same (λ _. 1) in omega arith)
sorted_upto low (suc n) (y ∷ ys) h same =
    let marked = same (mark low) in
    let first : y ≡ low =
    elim (dec_le y low) [
      | yes le ↦ omega (arith, h.0)
      | no more ↦ absurd
          (let r = none_above low y ys (omega arith) h.1 in omega arith)
    ] in
    let rest : (f : ℕ → ℕ) → total f ys ≡ total f (upto (suc low) n) =
    (λ f. let e = same f in omega (arith, ap f first)) in
    let rising : Ascends (suc low) ys =
    above_all low ys (subst (λ k. Ascends k ys) first h.1) (rest (mark low)
    ∙ none_upto low (suc low) n (omega arith)) in
    λ i. first i ∷ sorted_upto (suc low) n ys rising rest i

ascends : (low : ℕ) (ps : List Published) → ((d : Published) → 0 < length ps → low ≤ published_number (get_or ps 0 d))
    → IsNonDecreasingBy published_number ps → Ascends low (published_numbers ps)
ascends low [] first h = tt
ascends low (p ∷ ps) first h = (
  first p (omega arith),
  ascends p.monitor.number ps (λ d below. h 0 1 d (omega arith) (omega arith))
      (λ i j d le below. h (suc i) (suc j) d (omega arith) (omega arith)),
)

pub ordered : (n : ℕ) (ps : List Published) → IsNonDecreasingBy published_number ps
    → ((h : ℕ → ℕ) → total h (published_numbers ps) ≡ total h (upto 0 n)) → published_numbers ps ≡ upto 0 n
ordered n ps h same = sorted_upto 0 n (published_numbers ps) (ascends 0 ps (λ d below. omega arith) h) same

total_is_sum : (h : ℕ → ℕ) (ps : List Published) → total h (published_numbers ps)
    ≡ sum_by (λ (p : Published). h p.monitor.number) ps
total_is_sum h [] = refl
total_is_sum h (p ∷ ps) = omega (arith, total_is_sum h ps, sum_by-cons (λ (q : Published). h q.monitor.number) p ps)

pub moved : (h : ℕ → ℕ) (ps qs : List Published) → IsPermutation ps qs → total h (published_numbers qs)
    ≡ total h (published_numbers ps)
moved h ps qs m = total_is_sum h qs
    ∙ (sum_by-IsPermutation (λ (p : Published). h p.monitor.number) ps qs m ∙ sym (total_is_sum h ps))

pub rises_upto : (low n : ℕ) → NumbersRiseFrom low (upto low n)
rises_upto low zero = tt
rises_upto low (suc n) = (
  omega arith,
  let e : low + 1 ≡ suc low = omega arith in
      subst (λ k. NumbersRiseFrom k (upto (suc low) n)) (sym e) (rises_upto (suc low) n),
)

module _ {L : Type 0} (bench : Bench) (board : Board) (window : Window) where
  ends_one : (t : Task L) (w : Worked L) → Begins bench t → WorksFrom bench board window t w
      → EndsRound bench board window w
  ends_one t w b h = record {
    of = h.of;
    taken = h.taken ∙ ap (λ (v : Hand). hand v.parts v.puts v.round v.put
        (v.taken ++ numbers_back w.published.items w.kept)) b.none;
    at_end = h.at_end;
    share = h.shared.0 ∙ b.share.0;
  }

  pub ends_all : (tasks : List (Task L)) (all : List (Worked L)) → length all ≡ length tasks → All (Begins bench) tasks
      → ((i : ℕ) (t : Task L) (w : Worked L) → i < length tasks
      → WorksFrom bench board window (get_or tasks i t) (get_or all i w)) → All (EndsRound bench board window) all
  ends_all [] all same b h = λ k d below. absurd (omega arith)
  ends_all (t ∷ ts) all same b h =
      λ k d below. ends_one (get_or (t ∷ ts) k t) (get_or all k d) (b k t (omega arith)) (h k t d (omega arith))
