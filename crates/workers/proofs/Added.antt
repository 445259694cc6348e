-- What workers added to the tally.
use Rattle.std.proofs.Common.{◌≡◌, ℕ, zero, suc, ◌+◌, ◌<◌, Bool, List, [], ◌∷◌, ◌++◌, length, get_or, ap, ◌∙◌}
use Rattle.std.proofs.Common.{arith, slice_index_or, slice_set}
use Rattle.std.specs.List.{slice_index}
use Rattle.std.specs.List.Sorted.{IsPermutation}
use Rattle.std.proofs.lemmas.List.Sums.{sum_by_push, sum_by-append}
use Rattle.std.proofs.lemmas.List.Sorted.{sum_by-IsPermutation}
use Rattle.signals.specs.declared.verdict.Verdict.{Verdict}
use Rattle.signals.specs.declared.verdict.Decided.{Decided}
use Rattle.cycle_window.specs.declared.window.Window.{Window}
use Rattle.verdicts.specs.declared.board.Board.{Board}
use Rattle.verdicts.specs.Receipts.{shown_by}
use Rattle.verdicts.specs.declared.tally.Share.{Share}
use Rattle.verdicts.specs.Counts.{count_of, counts_of}
use Rattle.verdicts.specs.Shares.{amounts, plus}
use Rattle.workers_bench.specs.Hands.{total}
use Rattle.workers_bench.specs.declared.bench.Bench.{Bench}
use Rattle.workers.specs.declared.crew.Task.{Task}
use Rattle.workers.specs.declared.worker.Published.{Published}
use Rattle.workers.specs.declared.worker.Worked.{Worked}
use Rattle.workers.specs.Works.{published_count, published_counts}
use Rattle.workers.specs.Crews.{WorksFrom}
use Rattle.workers.specs.Adding.{is_of_kind, amount_of, added_by_tasks, added_by_worked, kind_counted}

module _ {L : Type 0} where
  pub same-amount : (k : ℕ) (s t : Share L) → amounts s ≡ amounts t → amount_of k s ≡ amount_of k t
  same-amount zero s t is = ap (λ l. slice_index l 0) is
  same-amount (suc zero) s t is = ap (λ l. slice_index l 1) is
  same-amount (suc (suc zero)) s t is = ap (λ l. slice_index l 2) is
  same-amount (suc (suc (suc k))) s t is = ap (λ l. slice_index l 3) is

  pub more-amount : (k : ℕ) (s t : Share L) (ds : List Decided) → amounts t ≡ plus (amounts s) (counts_of ds)
      → amount_of k t ≡ amount_of k s + count_of (is_of_kind k) ds
  more-amount zero s t ds is = ap (λ l. slice_index l 0) is
  more-amount (suc zero) s t ds is = ap (λ l. slice_index l 1) is
  more-amount (suc (suc zero)) s t ds is = ap (λ l. slice_index l 2) is
  more-amount (suc (suc (suc k))) s t ds is = ap (λ l. slice_index l 3) is

  worked-amount : (k : ℕ) (s t : Share L) (ps : List Published) → amounts t ≡ plus (amounts s) (published_counts ps)
      → amount_of k t ≡ amount_of k s + published_count (is_of_kind k) ps
  worked-amount zero s t ps is = ap (λ l. slice_index l 0) is
  worked-amount (suc zero) s t ps is = ap (λ l. slice_index l 1) is
  worked-amount (suc (suc zero)) s t ps is = ap (λ l. slice_index l 2) is
  worked-amount (suc (suc (suc k))) s t ps is = ap (λ l. slice_index l 3) is

  pub works-add : (bench : Bench) (board : Board) (window : Window) (k : ℕ) (tasks : List (Task L))
      (all : List (Worked L)) → length all ≡ length tasks
      → ((i : ℕ) (t : Task L) (w : Worked L) → i < length tasks
      → WorksFrom bench board window (get_or tasks i t) (get_or all i w))
      → added_by_worked k all ≡ added_by_tasks k tasks + kind_counted k all
  works-add bench board window k [] [] same h = omega arith
  works-add bench board window k [] (w ∷ ws) same h = absurd (omega arith)
  works-add bench board window k (t ∷ ts) [] same h = absurd (omega arith)
  works-add bench board window k (t ∷ ts) (w ∷ ws) same h =
      let one = worked-amount k t.share w.share w.published.items (h 0 t w (omega arith)).shared.1 in
      omega (
        arith,
        works-add bench board window k ts ws (omega (arith, same))
            (λ i u v below. h (suc i) u v (omega (arith, below))),
      )

pub counts-push : (is : Verdict → Bool) (xs ys : List Published) (p : Published) → ys ≡ xs ++ p ∷ []
    → published_count is ys ≡ published_count is xs + count_of is (shown_by p.receipt).decided.items
counts-push is xs ys p same =
    ap (published_count is) same ∙ sum_by_push (λ (q : Published). count_of is (shown_by q.receipt).decided.items) xs p

pub counts-append : (is : Verdict → Bool) (xs ys zs : List Published) → zs ≡ xs ++ ys → published_count is zs
    ≡ published_count is xs + published_count is ys
counts-append is xs ys zs same =
    ap (published_count is) same
    ∙ sum_by-append (λ (q : Published). count_of is (shown_by q.receipt).decided.items) xs ys

pub counts-moved : (is : Verdict → Bool) (ps qs : List Published) → IsPermutation ps qs → published_count is qs
    ≡ published_count is ps
counts-moved is ps qs m =
    sum_by-IsPermutation (λ (q : Published). count_of is (shown_by q.receipt).decided.items) ps qs m

-- ---- after a change of the first

pub total-first : {X : Type 0} (f : X → ℕ) (xs : List X) (x y : X) → 0 < length xs → x ≡ slice_index_or xs 0 y
    → total f (slice_set xs 0 y) + f x ≡ total f xs + f y
total-first f [] x y some is = absurd (omega (arith, some))
total-first f (z ∷ zs) x y some is = omega (arith, ap f is)
