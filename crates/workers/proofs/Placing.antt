-- A job's monitors in its windows.
use Rattle.std.proofs.Common.{◌≡◌, ℕ, zero, suc, ◌+◌, ◌-◌, ◌<◌, ◌≤◌, ◌^◌, List, [], ◌∷◌, length, take, drop}
use Rattle.std.proofs.Common.{map, Some, None, refl, sym, ap, ◌∙◌, subst, arith}
use Rattle.std.specs.Prelude.{slice_get}
use Rattle.std.specs.List.{filter_map}
use Rattle.std.proofs.Math.Logic.{∥∥₁_map}
use Rattle.std.proofs.lemmas.Option.{slice_get_within}
use Rattle.signals.specs.declared.verdict.Decided.{Decided}
use Rattle.bytecode_programs.specs.Values.{SlotData, ProgramData}
use Rattle.verifier.specs.Programs.{IsAccepted}
use Rattle.vcd_reader.specs.declared.dump.Dump.{Dump}
use Rattle.vcd_reader.specs.Variables.{Declared, variable_named, size_of}
use Rattle.vcd_reader.specs.Dump.{Contents}
use Rattle.vcd_reader.specs.Held.{HoldsContents, variables_of}
use Rattle.cycle_window.specs.declared.window.Window.{Window}
use Rattle.cycle_window.specs.Bound.{places_of, first_refused}
use Rattle.cycle_window.specs.Ticks.{ticks_of, row_of}
use Rattle.cycle_window.specs.Held.{columns_in, places_in, code_in, dump_in, first_in, end_in, IsOver}
use Rattle.machine_checked.specs.Outcomes.{Ran, done, and_then}
use Rattle.machine_checked.specs.Machine.{State, opening, clocks}
use Rattle.machine_checked.specs.Runs.{run_from}
use Rattle.machine.specs.Running.{Running}
use Rattle.machine_batches.specs.Reported.{wanted_slot}
use Rattle.machine_batches.proofs.BoundLaws.{bound}
use Rattle.machine_batches.specs.declared.batch.Batch.{Batch}
use Rattle.machine_batches.specs.Batches.{rows_between, decided_in, batch_of, HasCome}
use Rattle.machine_batches.proofs.JoinLaws.{come-to, ends-in}
use Rattle.workers_core.specs.declared.job.Job.{Job}
use Rattle.workers_core.specs.declared.monitor.Monitor.{Monitor}
use Rattle.workers_core.specs.States.{BatchState, batch}
use Rattle.workers_core.specs.Standing.{monitor_state, variables_in, seen, MonitorStands, IsSame, IsUnmoved, IsCleared}
use Rattle.workers_core.specs.Parts.{batch_state}
use Rattle.workers_core.specs.Opening.{MonitorPart, monitor_part, parts_from}
use Rattle.workers_core.specs.Jobs.{sampled}
use Rattle.workers_core.specs.Values.{Says, job_value, rows_over}
use Rattle.workers_core.proofs.CoreLaws.{holds, says-something}
use Rattle.workers_core.proofs.PartLaws.{IsPlaced, each-placed, each-accepted}
use Rattle.workers_core.proofs.PlaceLaws.{few-live}
use Rattle.workers_core.proofs.RoundRunLaws.{accepted-on}
use Rattle.workers_core.proofs.CoreRoundLaws.{less-traced}
use Rattle.workers_core.proofs.LineLaws.{job-traced}
use Rattle.workers_bench.specs.declared.numbered.Numbered.{Numbered}
use Rattle.workers_bench.specs.Monitors.{IsMonitorAt}
use Rattle.workers_bench.specs.Windows.{IsWindowFor}
use Rattle.workers.specs.Works.{IsSized, IsBatch}

length-parts : (a : ℕ) (ps : List ProgramData) → length (parts_from a ps) ≡ length ps
length-parts a [] = refl
length-parts a (p ∷ ps) = omega (arith, length-parts (a + length p.signals) ps)

-- its number is one of the job's programs'
pub below : (j : Job) (at : ℕ) (x : Numbered) → IsMonitorAt j at x → x.number < length j.programs.items
below j at x h = omega (
  arith,
  slice_get_within (parts_from 0 j.programs.items) x.number (monitor_part x.monitor.value) h.part,
  length-parts 0 j.programs.items,
)

-- the variables that signals name
named-are : (vs : List Declared) (ss : List SlotData) (xs : List ℕ)
    → map Some xs ≡ places_of vs (map wanted_slot ss)
    → filter_map (λ (s : SlotData). variable_named vs s.path) ss ≡ xs
named-are vs [] [] are = refl
named-are vs [] (x ∷ xs) are = absurd cc
named-are vs (s ∷ ss) [] are = absurd cc
named-are vs (s ∷ ss) (x ∷ xs) are =
    let one : Some x ≡ variable_named vs s.path = cc in
    let rest : map Some xs ≡ places_of vs (map wanted_slot ss) = cc in
    rw (sym one) (ap (λ (ys : List ℕ). x ∷ ys) (named-are vs ss xs rest))

held-over : (w : Window) (c : Contents) → IsOver w c → HoldsContents (dump_in (columns_in w)) c
unfolding IsOver columns_in
held-over w c over = over.held

module _ (j : Job) (w : Window) (h : IsWindowFor j w) where
  pub over-of : (c : Contents) → Says (job_value j) c → IsOver w c
  over-of c says = h.of.over c (holds j c says)

  pub says-of : (c : Contents) → IsOver w c → Says (job_value j) c
  says-of c over =
      let held : HoldsContents j.dump c =
      subst (λ (d : Dump). HoldsContents d c) h.of.same_dump (held-over w c over) in
      record { variables = held.variables; steps = held.steps }

  module _ (m : Monitor) (i : ℕ)
      (part : slice_get (parts_from 0 j.programs.items) i ≡ Some (monitor_part m)) where
    pub placed : IsPlaced (variables_of j.dump) (places_in (columns_in w)) (monitor_part m)
    placed =
        each-placed (variables_of j.dump) (places_in (columns_in w)) j.programs.items 0
        (omega arith) h.places i (monitor_part m) part

    -- a monitor sees the trace's rows of its program
    pub sees : (c : Contents) → Says (job_value j) c
        → rows_over (job_value j) c m.machine.program ≡ seen w c m
    sees c says =
        let named : sampled c.variables m.machine.program ≡ variables_in w m =
        ap (λ (ds : List Declared). sampled ds m.machine.program) (sym says.variables)
        ∙ named-are (variables_of j.dump) m.machine.program.signals (variables_in w m)
        placed.are in
        ap (λ (ps : List ℕ). map (row_of c ps) (ticks_of c (code_in j.clocks))) named
        ∙ ap (λ (n : ℕ). map (row_of c (variables_in w m)) (ticks_of c n)) h.of.same_clock

    wide : (c : Contents) → Says (job_value j) c
        → map (λ (v : ℕ). size_of c.variables v) (variables_in w m)
        ≡ map (λ (s : SlotData). s.width) m.machine.program.signals
    wide c says =
        let vs = variables_of j.dump in
        let p = m.machine.program in
        let fit : first_refused vs (map wanted_slot p.signals) ≡ None =
        each-accepted vs j.programs.items 0 h.fits i (monitor_part m) part in
        subst (λ (ds : List Declared).
        map (λ (v : ℕ). size_of ds v) (variables_in w m)
        ≡ map (λ (s : SlotData). s.width) p.signals) says.variables
        (bound vs p.signals (map wanted_slot p.signals) (variables_in w m) refl placed.are fit).wide

none-between : (b : ℕ) (rows : List (List ℕ)) → rows_between rows b b ≡ []
none-between b rows = let e : b - b ≡ 0 = omega arith in ap (λ (n : ℕ). take n (drop b rows)) e

-- a monitor of the job stands in each of its windows that begins or ends at its clock
pub stands-at : (j : Job) (w : Window) (at : ℕ) (x : Numbered) → IsWindowFor j w → first_in w ≤ at
    → at ≤ end_in w → IsMonitorAt j at x → MonitorStands w x.monitor.value
stands-at j w at x h low high here =
    let m = x.monitor.value in
    let p = m.machine.program in
    let place = placed j w h m x.number here.part in
    record {
      accepted = here.accepted;
      room = here.accepted.room.attempts;
      declared = here.declared;
      parted = place.order;
      inside = place.inside;
      fits = ∥∥₁_map (says-something j)
          (λ s. (s.0, over-of j w h s.0 s.1, wide j w h m x.number here.part s.0 s.1));
      lately = omega (arith, here.now, here.since);
      low = omega (arith, here.now);
      high = omega (arith, here.now);
      come = λ c over.
          let says = says-of j w h c over in
          let rows = seen w c m in
          subst (λ (n : ℕ). HasCome p rows m.since n m.decided.items m.machine.state) (sym here.now)
          (subst (λ (ds : List Decided). HasCome p rows m.since at ds m.machine.state)
          (sym here.told)
          (subst (λ (a : ℕ). HasCome p rows a at [] m.machine.state) (sym here.since)
          (come-to p rows at at m.machine.state m.machine.state []
          (subst (λ (rs : List (List ℕ)). clocks p (opening p) (take at rs) ≡ done m.machine.state 0)
          (sees j w h m x.number here.part c says) (here.state c says))
          (ap (run_from p m.machine.state) (none-between at rows)))));
    }

-- only its room is another
pub unmoved-at : (j : Job) (at : ℕ) (x y : Numbered) → y.number ≡ x.number
    → IsUnmoved x.monitor.value y.monitor.value → IsMonitorAt j at x → IsMonitorAt j at y
unmoved-at j at x y number u here =
    let p = ap (λ (r : Running). r.program) u.machine in
    record {
      part = ap (slice_get (parts_from 0 j.programs.items)) number ∙ here.part
          ∙ (λ i. Some (record { program = sym p i; from = sym u.from i; to = sym u.to i }));
      accepted = subst (λ (r : Running). IsAccepted r.program) (sym u.machine) here.accepted;
      declared = omega (
        arith,
        here.declared,
        u.attempts,
        ap (λ (r : Running). r.program.header.limits.attempts) u.machine,
      );
      now = ap (λ (r : Running). r.state.standing.now) u.machine ∙ here.now;
      since = u.since ∙ here.since;
      told = u.decided ∙ here.told;
      state = λ c says.
          subst (λ (r : Running). clocks r.program (opening r.program)
          (take at (rows_over (job_value j) c r.program)) ≡ done r.state 0) (sym u.machine)
          (here.state c says);
    }

-- of so many rows no more are decided than began or were live
few-between : (p : ProgramData) (rows : List (List ℕ)) (a b : ℕ) (s t : State) (ds : List Decided)
    → IsAccepted p → a ≤ b → clocks p (opening p) (take a rows) ≡ done s 0
    → HasCome p rows a b ds t
    → length ds ≤ length s.standing.attempts + (b - a)
few-between p rows a b s t ds accepted order here come =
    let part = rows_between rows a b in
    let r = accepted-on p accepted rows a b s order here in
    let ran : run_from p s part ≡ done (record { state = t; decided = ds }) 0 =
    ap (λ (x : Ran State). and_then x (λ q left. run_from p q part)) (sym here) ∙ come.ran in
    let same : done r.outcome 0 ≡ done (record { state = t; decided = ds }) 0 = sym r.ran ∙ ran in
    let told : r.outcome.decided ≡ ds = cc in
    let long : length part ≤ b - a = length-few (b - a) (drop a rows) in
    omega (arith, r.count, ap length told)
  where
    length-few : (n : ℕ) (xs : List (List ℕ)) → length (take n xs) ≤ n
    length-few zero xs = omega arith
    length-few (suc n) [] = omega arith
    length-few (suc n) (x ∷ xs) = omega (arith, length-few n xs)

-- A monitor that ran through the window, and gave its batch.
module _ (j : Job) (w : Window) (x y : Numbered) (m : Monitor) (b : Batch) (h : IsWindowFor j w)
    (sized : IsSized w) (here : IsMonitorAt j (first_in w) x) (number : y.number ≡ x.number)
    (same : IsSame x.monitor.value m) (stands : MonitorStands w m)
    (now : m.machine.state.standing.now ≡ end_in w) (cleared : IsCleared m y.monitor.value)
    (is : batch_state b ≡ batch x.number (monitor_state m)) where
  part-is : monitor_part m ≡ monitor_part x.monitor.value
  part-is = λ i. record { program = same.program i; from = same.from i; to = same.to i }

  part-now : monitor_part y.monitor.value ≡ monitor_part m
  part-now = λ i. record {
    program = ap (λ (r : Running). r.program) cleared.machine i;
    from = cleared.from i;
    to = cleared.to i;
  }

  part-m : slice_get (parts_from 0 j.programs.items) x.number ≡ Some (monitor_part m)
  part-m = here.part ∙ ap (λ (q : MonitorPart). Some q) (sym part-is)

  come-m : (c : Contents) → Says (job_value j) c →
      HasCome m.machine.program (rows_over (job_value j) c m.machine.program) m.since
      m.machine.state.standing.now m.decided.items m.machine.state
  come-m c says =
      subst (λ (rows : List (List ℕ)).
      HasCome m.machine.program rows m.since m.machine.state.standing.now m.decided.items
      m.machine.state) (sym (sees j w h m x.number part-m c says))
      (stands.come c (over-of j w h c says))

  pub at-end : IsMonitorAt j (end_in w) y
  at-end = record {
    part = ap (slice_get (parts_from 0 j.programs.items)) number ∙ part-m
        ∙ ap (λ (q : MonitorPart). Some q) (sym part-now);
    accepted = subst (λ (r : Running). IsAccepted r.program) (sym cleared.machine) stands.accepted;
    declared = omega (
      arith,
      stands.declared,
      cleared.attempts,
      ap (λ (r : Running). r.program.header.limits.attempts) cleared.machine,
    );
    now = ap (λ (r : Running). r.state.standing.now) cleared.machine ∙ now;
    since = cleared.since ∙ now;
    told = cleared.decided;
    state = λ c says.
        subst (λ (r : Running). clocks r.program (opening r.program)
        (take (end_in w) (rows_over (job_value j) c r.program)) ≡ done r.state 0)
        (sym cleared.machine)
        (subst (λ (n : ℕ). clocks m.machine.program (opening m.machine.program)
        (take n (rows_over (job_value j) c m.machine.program)) ≡ done m.machine.state 0) now
        (ends-in m.machine.program (rows_over (job_value j) c m.machine.program) m.since
        m.machine.state.standing.now m.machine.state m.decided.items stands.lately
        (come-m c says)));
  }

  decided-is : b.decided.items ≡ m.decided.items
  decided-is = ap (λ (s : BatchState). s.decided) is

  since-is : m.since ≡ first_in w
  since-is = same.since ∙ here.since

  come-through : (c : Contents) → Says (job_value j) c →
      HasCome m.machine.program (rows_over (job_value j) c m.machine.program) (first_in w)
      (end_in w) m.decided.items m.machine.state
  come-through c says =
      let p = m.machine.program in
      let rows = rows_over (job_value j) c p in
      subst (λ (n : ℕ). HasCome p rows (first_in w) n m.decided.items m.machine.state) now
      (subst (λ (a : ℕ). HasCome p rows a m.machine.state.standing.now m.decided.items
      m.machine.state) since-is (come-m c says))

  few-decided : length b.decided.items ≤ 2 ^ 17
  few-decided =
      let x-stands = stands-at j w (first_in w) x h (omega arith) sized.0 here in
      let live = few-live w x.monitor.value x-stands in
      let room = x-stands.room in
      less-traced (job_value j) (length b.decided.items) (2 ^ 17) (job-traced j) (λ c says.
      let p = m.machine.program in
      let rows = rows_over (job_value j) c p in
      let start : clocks p (opening p) (take (first_in w) rows) ≡ done x.monitor.value.machine.state 0 =
      subst (λ (q : ProgramData). clocks q (opening q) (take (first_in w)
      (rows_over (job_value j) c q)) ≡ done x.monitor.value.machine.state 0) (sym same.program)
      (here.state c says) in
      let few = few-between p rows (first_in w) (end_in w) x.monitor.value.machine.state
      m.machine.state m.decided.items stands.accepted sized.0 start (come-through c says) in
      omega (arith, ap (λ (ds : List Decided). length ds) decided-is, sized.1))

  pub batch-is : IsBatch j (first_in w) (end_in w) y b
  batch-is = record {
    monitor = ap (λ (s : BatchState). s.monitor) is ∙ sym number;
    first = ap (λ (s : BatchState). s.first) is ∙ since-is;
    end = ap (λ (s : BatchState). s.end) is ∙ now;
    decided = λ c says.
        subst (λ (p : ProgramData). b.decided.items ≡ batch_of p (rows_over (job_value j) c p)
        (first_in w) (end_in w)) (sym (ap (λ (r : Running). r.program) cleared.machine))
        (decided-is ∙ sym (ap decided_in (come-through c says).ran));
    few = few-decided;
  }
