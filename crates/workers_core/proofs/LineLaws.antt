-- The line of a program, of what a core published and left open.
use Rattle.std.proofs.Common.{
  ◌≡◌,
  ℕ,
  ◌+◌,
  ◌<◌,
  ◌≤◌,
  List,
  [],
  ◌∷◌,
  ◌++◌,
  length,
  get_or,
  take,
  map,
  Some,
  sym,
  ap,
  ◌∙◌,
  subst,
  arith,
  length-append,
}
use Rattle.std.specs.Prelude.{slice_get, Result, Ok, Err, IfOk}
use Rattle.std.specs.declared.alloc.AllocError.{AllocError}
use Rattle.std.specs.List.{AllZip}
use Rattle.std.proofs.lemmas.List.{length-map, append-nil, map-append, take_more}
use Rattle.std.proofs.lemmas.Option.{slice_get_within}
use Rattle.signals.specs.declared.verdict.Decided.{Decided}
use Rattle.bytecode_programs.specs.Values.{ProgramData}
use Rattle.vcd_reader.specs.Dump.{Contents}
use Rattle.cycle_window.specs.Ticks.{ticks_of}
use Rattle.machine_checked.specs.Runs.{open_ones}
use Rattle.report_lines.specs.declared.line.Line.{Line}
use Rattle.report_lines.specs.Lines.{LineData, line}
use Rattle.machine_batches.specs.Lines.{line_over, attempts_of, IsLineOver}
use Rattle.workers_core.specs.declared.job.Job.{Job}
use Rattle.workers_core.specs.States.{MonitorState, monitor_clock, published_by}
use Rattle.workers_core.specs.Values.{CoreValue, job_value, rows_over}
use Rattle.workers_core.specs.Following.{FollowsMachine}
use Rattle.workers_core.proofs.CoreLaws.{holds, says-something}
use Rattle.workers_core.proofs.CorePartLaws.{get-mapped}
use Rattle.workers_core.specs.Rounds.{StandsAtClock, IsResting, HasTrace}
use Rattle.workers_core.proofs.CoreRoundLaws.{ForContents, same-traced}
use Rattle.workers_core.proofs.RoundRunLaws.{ComesTo, comes-to}
use Rattle.workers_core.proofs.RoundLaws.{there, many-rows}

-- A monitor after the last clock, with what it told.
pub record IsOver (v : CoreValue) (c : Contents) (i : ℕ) (p : ProgramData) : Type 0 where
  pub monitor : MonitorState
  pub at : slice_get v.state.monitors i ≡ Some monitor
  pub came : ComesTo p (rows_over v.job c p) monitor.state (published_by v.state.board i)

pub over : (v : CoreValue) (c : Contents) (i : ℕ) (p : ProgramData) →
    v.job.ticks ≡ ticks_of c v.job.code → FollowsMachine v c →
    IsResting (length v.job.programs) (length v.job.ticks) v.state →
    length v.job.ticks ≤ v.state.end → slice_get v.job.programs i ≡ Some p → IsOver v c i p
over v c i p ticks f h all is =
    let s = v.state in
    let one = there s.monitors i (omega (arith, h.many, slice_get_within v.job.programs i p is)) in
    let m = one.monitor in
    let rows = rows_over v.job c m.program in
    let at : StandsAtClock s.end m = h.monitors i m one.is in
    let long : length rows ≡ length v.job.ticks = many-rows v.job c m.program ticks in
    let named : Some m.program ≡ Some p =
    sym (get-mapped (λ (x : MonitorState). x.program) s.monitors i m one.is)
    ∙ ap (λ (ps : List ProgramData). slice_get ps i) f.programs ∙ is in
    let same : m.program ≡ p = cc in
    let all_told =
    sym (append-nil (published_by s.board i))
    ∙ ap (λ (ds : List Decided). published_by s.board i ++ ds) (sym at.told)
    ∙ f.whole i m one.is in
    record {
      monitor = m;
      at = one.is;
      came =
          subst (λ (q : ProgramData).
          ComesTo q (rows_over v.job c q) m.state (published_by s.board i)) same
          (comes-to m.program (f.accepted i m one.is) rows (monitor_clock m) m.state
          (published_by s.board i) (omega (arith, long, at.at, h.inside, all))
          (f.monitors i m one.is) all_told);
    }

-- the line of all its attempts
pub over-line :
    (v : CoreValue) (c : Contents) (i : ℕ) (p : ProgramData) (l : LineData) (ds : List Decided) →
    (h : IsOver v c i p) →
    ds ≡ published_by v.state.board i ++ open_ones h.monitor.state.standing.attempts →
    l ≡ line_over p.header.name ds → IsLineOver p (rows_over v.job c p) l
over-line v c i p l ds h are is =
    record {
      decided = published_by v.state.board i;
      last = h.monitor.state;
      ran = h.came.decides;
      is = is ∙ ap (line_over p.header.name) are;
    }

-- an attempt for each clock
pub over-count : (v : CoreValue) (c : Contents) (i : ℕ) (p : ProgramData) (ds : List Decided) →
    v.job.ticks ≡ ticks_of c v.job.code → (h : IsOver v c i p) →
    ds ≡ published_by v.state.board i ++ open_ones h.monitor.state.standing.attempts →
    length ds ≡ length v.job.ticks
over-count v c i p ds ticks h are =
    let live = h.monitor.state.standing.attempts in
    let long : length (published_by v.state.board i ++ open_ones live)
    ≡ length (published_by v.state.board i) + length (open_ones live) =
    length-append (published_by v.state.board i) (open_ones live) in
    let opened : length (open_ones live) ≡ length live = length-map live _ in
    omega (arith, ap length are, long, opened, h.came.count, many-rows v.job c p ticks)

pub lined : (v : CoreValue) (c : Contents) (i : ℕ) (p : ProgramData) (r : Result Line AllocError)
    (ds : List Decided) → (h : IsOver v c i p) →
    ds ≡ published_by v.state.board i ++ open_ones h.monitor.state.standing.attempts →
    {name : List ℕ} → name ≡ p.header.name →
    IfOk r (λ l. line l ≡ line_over name ds) →
    IfOk r (λ l. IsLineOver p (rows_over v.job c p) (line l))
lined v c i p (Ok l) ds h are named is =
    over-line v c i p (line l) ds h are (is ∙ ap (λ (n : List ℕ). line_over n ds) named)
lined v c i p (Err e) ds h are named is = tt

pub counted : (v : CoreValue) (r : Result Line AllocError) (ds : List Decided) → HasTrace v.job →
    ForContents v.job (λ c. length ds ≡ length v.job.ticks) →
    IfOk r (λ l. attempts_of l.counts ≡ length ds) →
    IfOk r (λ l. attempts_of l.counts ≡ length v.job.ticks)
counted v (Ok l) ds trace all is = is ∙ same-traced v.job (length ds) (length v.job.ticks) trace all
counted v (Err e) ds trace all is = tt

-- one more of each
zip-push : {A B : Type 0} (R : A → B → Type 0) (xs : List A) (ys : List B) (x : A) (y : B)
    → AllZip R xs ys → R x y → AllZip R (xs ++ x ∷ []) (ys ++ y ∷ [])
zip-push R [] [] x y h r = (r, tt)
zip-push R [] (b ∷ ys) x y h r = absurd h
zip-push R (a ∷ xs) [] x y h r = absurd h
zip-push R (a ∷ xs) (b ∷ ys) x y h r = (h.0, zip-push R xs ys x y h.1 r)

-- one line more
pub line-more :
    {A B C : Type 0} (R : A → B → Type 0) (f : C → B) (ps : List A) (i : ℕ) (p : A)
    (ls new : List C) (l : C) → i < length ps → p ≡ get_or ps i p → new ≡ ls ++ l ∷ [] →
    AllZip R (take i ps) (map f ls) → R p (f l) → AllZip R (take (i + 1) ps) (map f new)
line-more R f ps i p ls new l lt is pushed h r =
    let first = take_more ps i p lt ∙ ap (λ x. take i ps ++ x ∷ []) (sym is) in
    let second = ap (map f) pushed ∙ map-append f ls (l ∷ []) in
    subst (λ xs. AllZip R xs (map f new)) (sym first)
    (subst (λ ys. AllZip R (take i ps ++ p ∷ []) ys) (sym second)
    (zip-push R (take i ps) (map f ls) p (f l) h r))

-- a job holds its ticks
pub job-traced : (j : Job) → HasTrace (job_value j)
job-traced j = record { says = says-something j; ticks = λ c says. j.ticks c (holds j c says) }
