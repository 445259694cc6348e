-- What a round of a run comes to.
use Rattle.std.proofs.Common.{◌≡◌, ℕ, ◌+◌, ◌<◌, ◌≤◌, List, [], ◌∷◌, refl, length, map, Some, All, sym, ap}
use Rattle.std.proofs.Common.{◌∙◌, subst, arith}
use Rattle.std.specs.Prelude.{slice_get}
use Rattle.std.proofs.lemmas.Option.{slice_get_within}
use Rattle.machine_batches.specs.Lines.{attempts_of}
use Rattle.cycle_window.specs.declared.window.Window.{Window}
use Rattle.cycle_window.specs.Held.{first_in, end_in}
use Rattle.workers_core.specs.declared.job.Job.{Job}
use Rattle.workers_core.specs.declared.growing_line.GrowingLine.{GrowingLine}
use Rattle.workers_core.proofs.TakenLaws.{some-at}
use Rattle.verdicts.specs.declared.board.Board.{Board}
use Rattle.verdicts.specs.Receipts.{shown_by}
use Rattle.workers_bench.specs.declared.numbered.Numbered.{Numbered}
use Rattle.workers_bench.specs.Monitors.{IsMonitorAt}
use Rattle.workers.specs.declared.worker.Published.{Published}
use Rattle.workers.specs.Works.{IsSized, IsPublished, HasLine, published_count}
use Rattle.workers.specs.Adding.{is_of_kind}
use Rattle.workers.specs.Tallied.{told_by}
use Rattle.workers.proofs.Adding.{sum-told, round-count}
use Rattle.workers.specs.Runs.{upto, published_numbers}
use Rattle.workers.specs.Between.{IsTold, IsBetween, IsNext, clocks_of}
use Rattle.workers.specs.Taking.{Takes, numbered_of}
use Rattle.workers.proofs.Telling.{all-at, all-each, placed-number, length-published, room, told-more}
use Rattle.workers.proofs.Telling.{back-in-order, back-at}

-- the next window
module _ (j : Job) (v w : Window) (ms : List Numbered) (ls : List GrowingLine) (h : IsBetween j v ms ls)
    (more : end_in v < clocks_of j) (is-next : IsNext j v w) where
  pub next-sized : IsSized w
  next-sized = let a = h.size.0 in let b = h.size.1 in
      (omega (arith, is-next.first, is-next.end, more), omega (arith, is-next.first, is-next.end, more))

  pub further : end_in v < end_in w
  further = let a = h.size.0 in omega (arith, is-next.end, more)

  pub next-start : All (IsMonitorAt j (first_in w)) ms
  next-start = subst (λ (n : ℕ). All (IsMonitorAt j n) ms) (sym is-next.first) h.at

  module _ (board : Board) (ps : List Published) (order : published_numbers ps ≡ upto 0 (length ms))
      (published : All (IsPublished j w board) ps) where
    pub as-many : length ls ≡ length ps
    as-many = omega (arith, h.lines, h.many, length-published ps (length ms) order)

    pub counted : All HasLine ps
    counted = all-each HasLine ps (λ i p is. (all-at (IsPublished j w board) ps i p published is).line)

    told-first : (i : ℕ) (l : GrowingLine) → slice_get ls i ≡ Some l → IsTold j (first_in w) i l
    told-first i l is = subst (λ (n : ℕ). IsTold j n i l) (sym is-next.first) (h.told i l is)

    pub rooms : (i : ℕ) (l : GrowingLine) (p : Published) → slice_get ls i ≡ Some l → slice_get ps i ≡ Some p
        → attempts_of l.counts + length (shown_by p.receipt).decided.items ≤ end_in w
    rooms i l p is at =
        room j w board i l l p next-sized.0 (placed-number ps (length ms) i p order at)
        (all-at (IsPublished j w board) ps i p published at) (told-first i l is)

    pub next : (new : List GrowingLine) (back : List Numbered) → length new ≡ length ls →
        ((i : ℕ) (l m : GrowingLine) (p : Published) → slice_get ls i ≡ Some l → slice_get ps i ≡ Some p
        → slice_get new i ≡ Some m → Takes l (shown_by p.receipt).decided.items m) →
        back ≡ map numbered_of ps → IsBetween j w back new
    next new back long took is = record {
      window = is-next.window;
      size = (let a = h.size.0 in omega (arith, is-next.same), let b = h.size.1 in omega (arith, is-next.same));
      inside = omega (arith, is-next.end, h.inside);
      order = let o = back-in-order ps back (length ms) is order in o ∙ ap (upto 0) h.many;
      many = length-back ∙ h.many;
      at = back-at j w board ps back is published;
      lines = long ∙ h.lines;
      told = λ i m at.
          let lt = slice_get_within new i m at in
          let l = some-at ls i (omega (arith, long)) in
          let p = some-at ps i (omega (arith, long, as-many)) in
          told-more j w board i l.0 m p.0 next-sized.0 (placed-number ps (length ms) i p.0 order p.1)
          (all-at (IsPublished j w board) ps i p.0 published p.1) (told-first i l.0 l.1)
          (took i l.0 m p.0 l.1 p.1 at);
    }
      where
        length-mapped : (qs : List Published) → length (map numbered_of qs) ≡ length qs
        length-mapped [] = refl
        length-mapped (q ∷ qs) = omega (arith, length-mapped qs)

        length-back : length back ≡ length ms
        length-back = ap length is ∙ (length-mapped ps ∙ length-published ps (length ms) order)

    -- what the workers added is what the lines took in
    pub next-tallied : (new : List GrowingLine) → length new ≡ length ls →
        ((i : ℕ) (l m : GrowingLine) (p : Published) → slice_get ls i ≡ Some l → slice_get ps i ≡ Some p
        → slice_get new i ≡ Some m → Takes l (shown_by p.receipt).decided.items m) →
        (k : ℕ) → told_by k new ≡ told_by k ls + published_count (is_of_kind k) ps
    next-tallied new long took k =
        sum-told k ls new ps as-many (long ∙ as-many) (λ i l m p at of to.
        round-count j w board i l m p (placed-number ps (length ms) i p order of)
        (all-at (IsPublished j w board) ps i p published of) (told-first i l at) (took i l m p at of to) k)
