-- What lines take in, clock by clock.
use Rattle.std.proofs.Common.{◌≡◌, ℕ, zero, suc, ◌+◌, ◌-◌, ◌≤◌, ◌++◌, List, [], ◌∷◌, length, get_or, take}
use Rattle.std.proofs.Common.{drop, map, Some, All, refl, sym, ap, ◌∙◌, subst, arith, length-append}
use Rattle.std.specs.Prelude.{slice_get, slice_set}
use Rattle.std.proofs.lemmas.List.{length-map}
use Rattle.std.proofs.lemmas.Option.{slice_get_within}
use Rattle.signals.specs.declared.verdict.Decided.{Decided}
use Rattle.bytecode_programs.specs.Values.{ProgramData}
use Rattle.verifier.specs.Programs.{IsAccepted}
use Rattle.vcd_reader.specs.Dump.{Contents}
use Rattle.cycle_window.specs.declared.window.Window.{Window}
use Rattle.cycle_window.specs.Held.{first_in, end_in}
use Rattle.machine_checked.specs.Outcomes.{done, and_then}
use Rattle.machine_checked.specs.Machine.{State, opening, clocks}
use Rattle.machine_batches.proofs.CutLaws.{ends-as}
use Rattle.machine_batches.specs.Lines.{attempts_of}
use Rattle.machine_batches.specs.Batches.{rows_between, decided_in, batch_of, HasCome}
use Rattle.machine_batches.proofs.JoinLaws.{come-to}
use Rattle.workers_core.specs.declared.job.Job.{Job}
use Rattle.workers_core.specs.declared.monitor.Monitor.{Monitor}
use Rattle.workers_core.specs.Opening.{MonitorPart, part_at, monitor_part, parts_from, IsNew}
use Rattle.workers_core.specs.Values.{Says, job_value, rows_over}
use Rattle.workers_core.proofs.RunLaws.{all-up-to}
use Rattle.workers_core.proofs.CorePartLaws.{get-some, get-mapped}
use Rattle.workers_core.specs.declared.growing_line.GrowingLine.{GrowingLine}
use Rattle.workers_core.specs.Taken.{TookIn}
use Rattle.workers_core.proofs.RoundRunLaws.{runs, accepted-on, accepted-clocks}
use Rattle.workers_core.proofs.CoreRoundLaws.{less-traced}
use Rattle.workers_core.proofs.LineLaws.{job-traced}
use Rattle.workers_core.proofs.TakenLaws.{some-at}
use Rattle.verdicts.specs.declared.board.Board.{Board}
use Rattle.verdicts.specs.Receipts.{shown_by}
use Rattle.workers_bench.specs.declared.numbered.Numbered.{Numbered}
use Rattle.workers_bench.specs.Monitors.{IsMonitorAt}
use Rattle.workers_bench.specs.Hands.{monitor_number, numbers}
use Rattle.workers.specs.declared.worker.Published.{Published}
use Rattle.workers.specs.Works.{IsPublished, published_number}
use Rattle.workers.specs.Runs.{upto, published_numbers}
use Rattle.workers.specs.Between.{IsTold}
use Rattle.workers.specs.Taking.{Takes, monitor_of, numbered_of}

length-few : (n : ℕ) (xs : List (List ℕ)) → length (take n xs) ≤ n
length-few zero xs = omega arith
length-few (suc n) [] = omega arith
length-few (suc n) (x ∷ xs) = omega (arith, length-few n xs)

-- no more are decided than began
pub few-told : (p : ProgramData) → IsAccepted p → (rows : List (List ℕ)) (n : ℕ) → length (batch_of p rows 0 n) ≤ n
few-told p accepted rows n =
    let part = rows_between rows 0 n in
    let r = runs p (opening p) part (accepted-clocks p accepted part) in
    let all : batch_of p rows 0 n ≡ r.outcome.decided = ap decided_in r.ran in
    let long : length part ≤ n - 0 = length-few (n - 0) (drop 0 rows) in
    omega (arith, r.count, ap length all)

-- the batches of clocks that meet are, joined, the batch of all
pub joined : (p : ProgramData) → IsAccepted p → (rows : List (List ℕ)) (a b : ℕ) → a ≤ b
    → batch_of p rows 0 a ++ batch_of p rows a b ≡ batch_of p rows 0 b
joined p accepted rows a b order =
    let r = runs p (opening p) (take a rows) (accepted-clocks p accepted (take a rows)) in
    let here : clocks p (opening p) (take a rows) ≡ done r.outcome.state 0 =
    ends-as p (opening p) (take a rows) ∙ ap (λ x. and_then x (λ o left. done o.state left)) r.ran in
    let q = accepted-on p accepted rows a b r.outcome.state order here in
    let come : HasCome p rows a b q.outcome.decided q.outcome.state =
    come-to p rows a b r.outcome.state q.outcome.state q.outcome.decided here q.ran in
    ap (λ (ds : List Decided). batch_of p rows 0 a ++ ds) (ap decided_in come.ran)
    ∙ all-up-to p rows a b q.outcome.state q.outcome.decided order come

-- the part of a number has the program of that number
pub program-at : (a : ℕ) (ps : List ProgramData) (i : ℕ) (p : ProgramData) (q : MonitorPart) → slice_get ps i ≡ Some p
    → slice_get (parts_from a ps) i ≡ Some q → q.program ≡ p
program-at a [] i p q is at = absurd cc
program-at a (x ∷ ps) zero p q is at =
    let one : x ≡ p = cc in let two : part_at a x ≡ q = cc in sym (ap (λ (r : MonitorPart). r.program) two) ∙ one
program-at a (x ∷ ps) (suc i) p q is at = program-at (a + length x.signals) ps i p q is at

upto-at : (a n i v : ℕ) → slice_get (upto a n) i ≡ Some v → v ≡ a + i
upto-at a zero i v is = absurd cc
upto-at a (suc n) zero v is = let e : a ≡ v = cc in omega (arith, e)
upto-at a (suc n) (suc i) v is = omega (arith, upto-at (suc a) n i v is)

length-upto : (a n : ℕ) → length (upto a n) ≡ n
length-upto a zero = refl
length-upto a (suc n) = omega (arith, length-upto (suc a) n)

-- in order, the number is the place
pub placed-number : (ps : List Published) (n i : ℕ) (p : Published) → published_numbers ps ≡ upto 0 n → slice_get ps i
    ≡ Some p → p.monitor.number ≡ i
placed-number ps n i p order is =
    let at = sym (ap (λ (xs : List ℕ). slice_get xs i) order) ∙ get-mapped published_number ps i p is in
    omega (arith, upto-at 0 n i p.monitor.number at)

pub length-published : (ps : List Published) (n : ℕ) → published_numbers ps ≡ upto 0 n → length ps ≡ n
length-published ps n order = sym (length-map ps published_number) ∙ (ap length order ∙ length-upto 0 n)

pub placed-monitor : (ms : List Numbered) (n i : ℕ) (x : Numbered) → numbers ms ≡ upto 0 n → slice_get ms i ≡ Some x
    → x.number ≡ i
placed-monitor ms n i x order is =
    let at = sym (ap (λ (xs : List ℕ). slice_get xs i) order) ∙ get-mapped monitor_number ms i x is in
    omega (arith, upto-at 0 n i x.number at)

pub some-is : {A : Type 0} (x y : A) → Some x ≡ Some y → x ≡ y
some-is x y h = cc

-- what holds of each holds of what stands at a place
pub all-at : {A : Type 0} (P : A → Type 0) (xs : List A) (i : ℕ) (x : A) → All P xs → slice_get xs i ≡ Some x → P x
all-at P xs i x all is =
    let lt = slice_get_within xs i x is in
    subst P (some-is (get_or xs i x) x (sym (get-some xs i x lt) ∙ is)) (all i x lt)

-- and the other way round
pub all-each : {A : Type 0} (P : A → Type 0) (xs : List A) → ((i : ℕ) (x : A) → slice_get xs i ≡ Some x → P x)
    → All P xs
all-each P xs h k d lt = h k (get_or xs k d) (get-some xs k d lt)

-- a write changes no other place
pub get-other : {A : Type 0} (xs : List A) (i k : ℕ) (y : A) → (k ≡ i → ⊥) → slice_get (slice_set xs i y) k
    ≡ slice_get xs k
get-other [] i k y other = refl
get-other (x ∷ xs) zero zero y other = absurd (other refl)
get-other (x ∷ xs) zero (suc k) y other = refl
get-other (x ∷ xs) (suc i) zero y other = refl
get-other (x ∷ xs) (suc i) (suc k) y other = get-other xs i k y (λ e. other (ap suc e))

-- the job's program of a monitor that published
module _ (j : Job) (w : Window) (board : Board) (i : ℕ) (p : Published) (number : p.monitor.number ≡ i)
    (is : IsPublished j w board p) where
  own-program : (q : ProgramData) → slice_get j.programs.items i ≡ Some q
      → p.monitor.monitor.value.machine.program ≡ q
  own-program q at =
      program-at 0 j.programs.items i q (monitor_part p.monitor.monitor.value) at
      (sym (ap (slice_get (parts_from 0 j.programs.items)) number) ∙ is.on.at_end.part)

  pub program-of : slice_get j.programs.items i ≡ Some p.monitor.monitor.value.machine.program
  program-of =
      let lt = slice_get_within (parts_from 0 j.programs.items) i (monitor_part p.monitor.monitor.value)
      (sym (ap (slice_get (parts_from 0 j.programs.items)) number) ∙ is.on.at_end.part) in
      let s = some-at j.programs.items i (omega (arith, length-parts 0 j.programs.items)) in
      s.1 ∙ ap (λ (q : ProgramData). Some q) (sym (own-program s.0 s.1))
    where
      length-parts : (a : ℕ) (ps : List ProgramData) → length (parts_from a ps) ≡ length ps
      length-parts a [] = refl
      length-parts a (p ∷ ps) = omega (arith, length-parts (a + length p.signals) ps)

-- a round in the line of one monitor
module _ (j : Job) (w : Window) (board : Board) (i : ℕ) (old new : GrowingLine) (p : Published)
    (order : first_in w ≤ end_in w) (number : p.monitor.number ≡ i) (is : IsPublished j w board p)
    (told : IsTold j (first_in w) i old) where
  of-program : (q : ProgramData) → slice_get j.programs.items i ≡ Some q
      → p.monitor.monitor.value.machine.program ≡ q
  of-program = own-program j w board i p number is

  program : slice_get j.programs.items i ≡ Some p.monitor.monitor.value.machine.program
  program = program-of j w board i p number is

  all-told : (c : Contents) → Says (job_value j) c →
      batch_of p.monitor.monitor.value.machine.program
      (rows_over (job_value j) c p.monitor.monitor.value.machine.program) 0 (first_in w) ++
      (shown_by p.receipt).decided.items
      ≡ batch_of p.monitor.monitor.value.machine.program
      (rows_over (job_value j) c p.monitor.monitor.value.machine.program) 0 (end_in w)
  all-told c says =
      let q = p.monitor.monitor.value.machine.program in
      let rows = rows_over (job_value j) c q in
      ap (λ (ds : List Decided). batch_of q rows 0 (first_in w) ++ ds) (is.on.batch.decided c says)
      ∙ joined q is.on.at_end.accepted rows (first_in w) (end_in w) order

  -- there is room for the batch
  pub room : attempts_of old.counts + length (shown_by p.receipt).decided.items ≤ end_in w
  room = less-traced (job_value j) _ (end_in w) (job-traced j) (λ c says.
      let q = p.monitor.monitor.value.machine.program in
      let rows = rows_over (job_value j) c q in
      let both = ap (λ (ds : List Decided). length ds) (all-told c says) in
      let many = (told.took c says q program).many in
      let apart = length-append (batch_of q rows 0 (first_in w)) (shown_by p.receipt).decided.items in
      omega (arith, few-told q is.on.at_end.accepted rows (end_in w)))

  pub told-more : Takes old (shown_by p.receipt).decided.items new → IsTold j (end_in w) i new
  told-more takes =
      let q = p.monitor.monitor.value.machine.program in
      let took : (c : Contents) → Says (job_value j) c
      → TookIn new (batch_of q (rows_over (job_value j) c q) 0 (end_in w)) =
      (λ c says. subst (TookIn new) (all-told c says)
      (takes (batch_of q (rows_over (job_value j) c q) 0 (first_in w)) (told.took c says q program))) in
      record {
        took = λ c says r at. subst
            (λ (r : ProgramData). TookIn new (batch_of r (rows_over (job_value j) c r) 0 (end_in w)))
            (of-program r at) (took c says);
        few = less-traced (job_value j) _ (end_in w) (job-traced j) (λ c says.
            let many = (took c says).many in
            omega (arith, few-told q is.on.at_end.accepted (rows_over (job_value j) c q) (end_in w)));
      }

numbers-back : (ps : List Published) → numbers (map numbered_of ps) ≡ published_numbers ps
numbers-back [] = refl
numbers-back (p ∷ ps) = ap (λ (xs : List ℕ). p.monitor.number ∷ xs) (numbers-back ps)

pub back-in-order : (ps : List Published) (ms : List Numbered) (n : ℕ) → ms ≡ map numbered_of ps
    → published_numbers ps ≡ upto 0 n → numbers ms ≡ upto 0 n
back-in-order ps ms n is order = ap numbers is ∙ (numbers-back ps ∙ order)

all-back : (P : Numbered → Type 0) (ps : List Published)
    → ((i : ℕ) (p : Published) → slice_get ps i ≡ Some p → P p.monitor) → (i : ℕ) (x : Numbered)
    → slice_get (map numbered_of ps) i ≡ Some x → P x
all-back P [] h i x is = absurd cc
all-back P (p ∷ ps) h zero x is = let same : p.monitor ≡ x = cc in subst P same (h 0 p refl)
all-back P (p ∷ ps) h (suc i) x is = all-back P ps (λ k q at. h (suc k) q at) i x is

pub back-at : (j : Job) (w : Window) (board : Board) (ps : List Published) (ms : List Numbered) → ms
    ≡ map numbered_of ps → All (IsPublished j w board) ps → All (IsMonitorAt j (end_in w)) ms
back-at j w board ps ms is all =
    subst (All (IsMonitorAt j (end_in w))) (sym is)
    (all-each (IsMonitorAt j (end_in w)) (map numbered_of ps)
    (all-back (IsMonitorAt j (end_in w)) ps (λ i p at. (all-at (IsPublished j w board) ps i p all at).on.at_end)))

-- ---- before the first round

pub first-at : (j : Job) (ms : List Monitor) (xs : List Numbered) (n : ℕ) → map monitor_part ms
    ≡ parts_from 0 j.programs.items → ((i : ℕ) (m : Monitor) → slice_get ms i ≡ Some m → IsNew m)
    → map monitor_of xs ≡ ms → numbers xs ≡ upto 0 n → All (IsMonitorAt j 0) xs
first-at j ms xs n parts new same order = all-each (IsMonitorAt j 0) xs (λ i x is.
    let m = x.monitor.value in
    let at : slice_get ms i ≡ Some m =
    sym (ap (λ (l : List Monitor). slice_get l i) same) ∙ get-mapped monitor_of xs i x is in
    let fresh = new i m at in
    let number : x.number ≡ i = placed-monitor xs n i x order is in
    record {
      part = ap (slice_get (parts_from 0 j.programs.items)) number
          ∙ (sym (ap (λ (qs : List MonitorPart). slice_get qs i) parts) ∙ get-mapped monitor_part ms i m at);
      accepted = fresh.accepted;
      declared = fresh.declared;
      now = ap (λ (s : State). s.standing.now) fresh.state;
      since = fresh.since;
      told = fresh.decided;
      state = λ c says. ap (λ (s : State). done s 0) (sym fresh.state);
    })

pub none-told : (j : Job) (i : ℕ) (l : GrowingLine) → TookIn l [] → IsTold j 0 i l
none-told j i l took = record {
  took = λ c says p at. took;
  few = omega (arith, took.many);
}
