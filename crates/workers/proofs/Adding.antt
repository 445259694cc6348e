-- What workers and lines count, kind by kind.
use Rattle.std.proofs.Common.{◌≡◌, ℕ, zero, suc, ◌+◌, ◌≤◌, Bool, List, [], ◌∷◌, ◌++◌, length, map, take, Some}
use Rattle.std.proofs.Common.{All, false, cond, get_or, refl, sym, ap, ◌∙◌, arith}
use Rattle.std.specs.Prelude.{slice_get, count_by}
use Rattle.std.specs.List.{sum_by}
use Rattle.std.proofs.lemmas.List.{length-map}
use Rattle.std.proofs.lemmas.List.Sums.{sum_by-cons, sum_by-append, sum_by_push, sum_by_more}
use Rattle.std.proofs.lemmas.Option.{slice_get_within}
use Rattle.signals.specs.declared.verdict.Verdict.{Verdict}
use Rattle.signals.specs.declared.verdict.Verdict.TheVariants as outcome
use Rattle.signals.specs.declared.verdict.Decided.{Decided}
use Rattle.bytecode_programs.specs.Values.{ProgramData}
use Rattle.cycle_window.specs.declared.window.Window.{Window}
use Rattle.cycle_window.specs.Held.{first_in}
use Rattle.machine_checked.specs.Clocks.{Attempt}
use Rattle.machine_checked.specs.Runs.{open_ones}
use Rattle.machine_batches.specs.Batches.{batch_of}
use Rattle.report_lines.specs.declared.line.Line.{Line}
use Rattle.report_lines.specs.Tallies.{tally_of}
use Rattle.report_lines.specs.Lines.{LineData, ReportData, line}
use Rattle.report_lines.specs.declared.line.Counts.{Counts}
use Rattle.workers_core.specs.declared.job.Job.{Job}
use Rattle.workers_core.specs.Values.{job_value, rows_over}
use Rattle.workers_core.specs.declared.growing_line.GrowingLine.{GrowingLine}
use Rattle.workers_core.specs.Taken.{TookIn}
use Rattle.workers_core.proofs.CoreRoundLaws.{same-traced}
use Rattle.workers_core.proofs.LineLaws.{job-traced}
use Rattle.verdicts.specs.declared.board.Board.{Board}
use Rattle.verdicts.specs.Receipts.{shown_by}
use Rattle.machine_batches.specs.Lines.{attempts_of}
use Rattle.verdicts.specs.Counts.{count_of}
use Rattle.verdicts.specs.Shares.{each_capped}
use Rattle.workers.specs.declared.worker.Published.{Published}
use Rattle.workers.specs.Works.{IsPublished, published_count}
use Rattle.workers.specs.Adding.{is_of_kind}
use Rattle.workers.specs.Between.{IsTold}
use Rattle.workers.specs.Taking.{Takes}
use Rattle.workers.specs.Tallied.{count_in, told_by, lines_said}
use Rattle.workers_core.proofs.CorePartLaws.{get-some, get-mapped}
use Rattle.workers_core.proofs.TakenLaws.{some-at}
use Rattle.workers.proofs.Telling.{program-of, some-is, all-at, all-each}

-- a tally, kind by kind
tallied : (k : ℕ) (vs : List Verdict) → count_in k (tally_of vs) ≡ count_by (is_of_kind k) vs
tallied zero vs = refl
tallied (suc zero) vs = refl
tallied (suc (suc zero)) vs = refl
tallied (suc (suc (suc k))) vs = refl

pub sum_by-map : {X Y : Type 0} (f : Y → ℕ) (g : X → Y) (xs : List X)
    → sum_by f (map g xs) ≡ sum_by (λ x. f (g x)) xs
sum_by-map f g [] = refl
sum_by-map f g (x ∷ xs) =
    sum_by-cons f (g x) (map g xs) ∙ ap (λ n. f (g x) + n) (sum_by-map f g xs)
    ∙ sym (sum_by-cons (λ y. f (g y)) x xs)

-- the attempts that were taken in, kind by kind
took-count : (k : ℕ) (l : GrowingLine) (ds : List Decided) → TookIn l ds → count_in k l.counts
    ≡ count_of (is_of_kind k) ds
took-count k l ds took =
    ap (count_in k) took.counts ∙ tallied k (map (λ (d : Decided). d.verdict) ds)
    ∙ sum_by-map _ (λ (d : Decided). d.verdict) ds

count-append : (is : Verdict → Bool) (xs ys : List Decided) → count_of is (xs ++ ys) ≡ count_of is xs + count_of is ys
count-append is xs ys = sum_by-append _ xs ys

more-count : (k : ℕ) (old new : GrowingLine) (before ds : List Decided) → TookIn old before → TookIn new (before ++ ds)
    → count_in k new.counts ≡ count_in k old.counts + count_of (is_of_kind k) ds
more-count k old new before ds was is =
    took-count k new (before ++ ds) is ∙ count-append (is_of_kind k) before ds
    ∙ ap (λ n. n + count_of (is_of_kind k) ds) (sym (took-count k old before was))

-- those that are open count in none of the four
count-open : (is : Verdict → Bool) → is outcome.Open ≡ false → (live : List Attempt)
    → count_of is (open_ones live) ≡ 0
count-open is never [] = refl
count-open is never (a ∷ live) =
    let rest = count-open is never live in
    let one = sum_by-cons (λ (d : Decided). cond (is d.verdict) 1 0)
    (record { start = a.start; verdict = outcome.Open })
    (open_ones live) in
    let weight : Bool → ℕ = (λ b. cond b 1 0) in
    let none = ap weight never in
    omega (arith, rest, one, none)

open-none : (k : ℕ) → is_of_kind k outcome.Open ≡ false
open-none zero = refl
open-none (suc zero) = refl
open-none (suc (suc zero)) = refl
open-none (suc (suc (suc k))) = refl

none-open : (k : ℕ) (live : List Attempt) → count_of (is_of_kind k) (open_ones live) ≡ 0
none-open k live = count-open (is_of_kind k) (open-none k) live

-- a round in the line of one monitor
module _ (j : Job) (w : Window) (board : Board) (i : ℕ) (old new : GrowingLine) (p : Published)
    (number : p.monitor.number ≡ i) (is : IsPublished j w board p) (told : IsTold j (first_in w) i old) where
  pub round-count : Takes old (shown_by p.receipt).decided.items new → (k : ℕ)
      → count_in k new.counts ≡ count_in k old.counts + count_of (is_of_kind k) (shown_by p.receipt).decided.items
  round-count takes k =
      let q : ProgramData = p.monitor.monitor.value.machine.program in
      let ds = (shown_by p.receipt).decided.items in
      let at = program-of j w board i p number is in
      same-traced (job_value j) (count_in k new.counts) (count_in k old.counts + count_of (is_of_kind k) ds)
      (job-traced j) (λ c says.
      let before = batch_of q (rows_over (job_value j) c q) 0 (first_in w) in
      let was = told.took c says q at in
      more-count k old new before ds was (takes before was))

-- the live attempts in the line of one monitor
pub end-count : (j : Job) (at i : ℕ) (old new : GrowingLine) (p : ProgramData) (live : List Attempt)
    → IsTold j at i old → slice_get j.programs.items i ≡ Some p → Takes old (open_ones live) new
    → (k : ℕ) → count_in k new.counts ≡ count_in k old.counts
end-count j at i old new p live told is takes k =
    same-traced (job_value j) (count_in k new.counts) (count_in k old.counts) (job-traced j) (λ c says.
    let before = batch_of p (rows_over (job_value j) c p) 0 at in
    let was = told.took c says p is in
    let more = more-count k old new before (open_ones live) was (takes before was) in
    let none = none-open k live in
    omega (arith, more, none))

-- what all lines took in, after a round
pub sum-told : (k : ℕ) (ls new : List GrowingLine) (ps : List Published)
    → length ls ≡ length ps → length new ≡ length ps
    → ((i : ℕ) (l m : GrowingLine) (p : Published) → slice_get ls i ≡ Some l → slice_get ps i ≡ Some p
    → slice_get new i ≡ Some m
    → count_in k m.counts ≡ count_in k l.counts + count_of (is_of_kind k) (shown_by p.receipt).decided.items)
    → told_by k new ≡ told_by k ls + published_count (is_of_kind k) ps
sum-told k [] [] [] a b each = refl
sum-told k [] [] (p ∷ ps) a b each = absurd (omega (arith, a))
sum-told k [] (m ∷ new) [] a b each = absurd (omega (arith, b))
sum-told k [] (m ∷ new) (p ∷ ps) a b each = absurd (omega (arith, a))
sum-told k (l ∷ ls) [] [] a b each = absurd (omega (arith, a))
sum-told k (l ∷ ls) [] (p ∷ ps) a b each = absurd (omega (arith, b))
sum-told k (l ∷ ls) (m ∷ new) [] a b each = absurd (omega (arith, a))
sum-told k (l ∷ ls) (m ∷ new) (p ∷ ps) a b each =
    let one = each 0 l m p refl refl refl in
    let rest =
    sum-told k ls new ps (omega (arith, a)) (omega (arith, b)) (λ i x y q at of to. each (suc i) x y q at of to) in
    let x = sum_by-cons (λ (s : GrowingLine). count_in k s.counts) l ls in
    let y = sum_by-cons (λ (s : GrowingLine). count_in k s.counts) m new in
    let z = sum_by-cons (λ (q : Published). count_of (is_of_kind k) (shown_by q.receipt).decided.items) p ps in
    omega (arith, one, rest, x, y, z)

-- before the first round
pub none-told-by : (k : ℕ) (ls : List GrowingLine) → ((i : ℕ) (l : GrowingLine) → slice_get ls i ≡ Some l → TookIn l [])
    → told_by k ls ≡ 0
none-told-by k [] none = refl
none-told-by k (l ∷ ls) none =
    let one = took-count k l [] (none 0 l refl) in
    let rest = none-told-by k ls (λ i x at. none (suc i) x at) in
    let x = sum_by-cons (λ (s : GrowingLine). count_in k s.counts) l ls in
    omega (arith, one, rest, x)

-- what lines say, as the report's definition has it
pub said-line : (k : ℕ) (ls : List Line) → sum_by (λ (l : LineData). count_in k l.counts) (map line ls)
    ≡ lines_said k ls
said-line k ls = sum_by-map (λ (l : LineData). count_in k l.counts) line ls

-- one line more says what its line in the making took in
pub said-more : (k : ℕ) (ls new : List Line) (l : Line) (ts : List GrowingLine) (i : ℕ) (t : GrowingLine)
    → new ≡ ls ++ l ∷ [] → slice_get ts i ≡ Some t → count_in k l.counts ≡ count_in k t.counts
    → lines_said k ls ≡ told_by k (take i ts) → lines_said k new ≡ told_by k (take (i + 1) ts)
said-more k ls new l ts i t is at one all =
    let x = ap (lines_said k) is ∙ sum_by_push (λ (m : Line). count_in k m.counts) ls l in
    let y = told-front k ts i t at in
    omega (arith, x, y, one, all)
  where
    told-front : (k : ℕ) (ts : List GrowingLine) (i : ℕ) (t : GrowingLine) → slice_get ts i ≡ Some t
        → told_by k (take (i + 1) ts) ≡ told_by k (take i ts) + count_in k t.counts
    told-front k ts i t at =
        let lt = slice_get_within ts i t at in
        let f = λ (v : GrowingLine). count_in k v.counts in
        sum_by_more f ts i t lt
        ∙ ap (λ (v : GrowingLine). told_by k (take i ts) + count_in k v.counts)
        (some-is (get_or ts i t) t (sym (get-some ts i t lt) ∙ at))

pub take-length : {A : Type 0} (n : ℕ) (xs : List A) → length xs ≤ n → take n xs ≡ xs
take-length zero [] le = refl
take-length zero (x ∷ xs) le = absurd (omega (arith, le))
take-length (suc n) [] le = refl
take-length {A = A} (suc n) (x ∷ xs) le = ap (λ (ys : List A). x ∷ ys) (take-length n xs (omega (arith, le)))

abbrev pub counts : ℕ → ℕ → ℕ → ℕ → ℕ → Counts
counts h v f d o = record { holds = h; vacuous = v; fails = f; disabled = d; still_open = o }

abbrev pub report-of-counts : ℕ → List LineData → Counts → ReportData
report-of-counts n ls c = record { clocks = n; lines = ls; total = c }

-- the report with these totals
pub with-total : {n m : ℕ} {ls ks : List LineData} {h h' v v' f f' d d' o o' : ℕ}
    → h ≡ h' → v ≡ v' → f ≡ f' → d ≡ d' → n ≡ m → ls ≡ ks → o ≡ o'
    → report-of-counts n ls (counts h v f d o) ≡ report-of-counts m ks (counts h' v' f' d' o')
with-total e1 e2 e3 e4 e5 e6 e7 = λ i. report-of-counts (e5 i) (e6 i) (counts (e1 i) (e2 i) (e3 i) (e4 i) (e7 i))

-- lines that say the same count as many attempts
pub all-counts : (n : ℕ) (xs ys : List Line) → map line xs ≡ map line ys
    → All (λ (l : Line). attempts_of l.counts ≡ n) ys → All (λ (l : Line). attempts_of l.counts ≡ n) xs
all-counts n xs ys same all = all-each (λ (l : Line). attempts_of l.counts ≡ n) xs (λ i x at.
    let lt = slice_get_within xs i x at in
    let long = sym (length-map xs line) ∙ (ap length same ∙ length-map ys line) in
    let y = some-at ys i (omega (arith, lt, long)) in
    let is : line x ≡ line y.0 =
    some-is (line x) (line y.0)
    (sym (get-mapped line xs i x at)
    ∙ (ap (λ (ds : List LineData). slice_get ds i) same ∙ get-mapped line ys i y.0 y.1)) in
    ap (λ (d : LineData). attempts_of d.counts) is
    ∙ all-at (λ (l : Line). attempts_of l.counts ≡ n) ys i y.0 all y.1)

-- four sums at once
pub four-held : (a b : ℕ → ℕ) → ((k : ℕ) → a k ≡ b k)
    → each_capped (a 0 ∷ a 1 ∷ a 2 ∷ a 3 ∷ []) ≡ each_capped (b 0 ∷ b 1 ∷ b 2 ∷ b 3 ∷ [])
four-held a b same = λ i. each_capped (same 0 i ∷ same 1 i ∷ same 2 i ∷ same 3 i ∷ [])
