-- A core before its first step.
use Rattle.std.proofs.Common.{
  ◌≡◌,
  ℕ,
  List,
  [],
  length,
  map,
  replicate,
  Some,
  None,
  refl,
  sym,
  ap,
  ◌∙◌,
  subst,
  arith,
}
use Rattle.std.specs.Prelude.{slice_get, slice_range, Result, Ok, Err, IfOk}
use Rattle.std.specs.List.{range_with_len}
use Rattle.std.proofs.Math.Logic.{∥∥₁_map}
use Rattle.std.proofs.lemmas.List.{length-map}
use Rattle.signals.specs.declared.verdict.Decided.{Decided}
use Rattle.bytecode_programs.specs.Values.{SlotData}
use Rattle.vcd_reader.specs.Variables.{Declared, size_of}
use Rattle.vcd_reader.specs.declared.dump.Dump.{Dump}
use Rattle.vcd_reader.specs.Dump.{Contents}
use Rattle.vcd_reader.specs.Held.{HoldsContents, variables_of}
use Rattle.vcd_reader.proofs.HeldLaws.{says-something}
use Rattle.cycle_window.specs.declared.clocks.Clocks.{Clocks}
use Rattle.cycle_window.specs.declared.columns.Columns.{Columns}
use Rattle.cycle_window.specs.declared.fault.WindowFault.{WindowFault}
use Rattle.cycle_window.specs.declared.window.Window.{Window}
use Rattle.cycle_window.specs.Bound.{Wanted, first_refused, places_of}
use Rattle.cycle_window.specs.Held.{columns_in, dump_in, places_in, clock_in, code_in, size_in, first_in, end_in}
use Rattle.cycle_window.specs.Held.{AreColumnsOf, AreClocksOf, IsWindowOf}
use Rattle.machine_checked.specs.Machine.{State, opening}
use Rattle.machine_batches.specs.Reported.{wanted_slot}
use Rattle.machine_batches.proofs.BoundLaws.{bound}
use Rattle.machine_batches.specs.declared.batch.Batch.{Batch}
use Rattle.machine_batches.specs.Batches.{HasCome}
use Rattle.machine_batches.proofs.JoinLaws.{come-first}
use Rattle.workers_core.specs.declared.job.Job.{Job}
use Rattle.workers_core.specs.declared.core_parts.CoreParts.{CoreParts}
use Rattle.workers_core.specs.declared.monitor.Monitor.{Monitor}
use Rattle.workers_core.specs.States.{CoreState, MonitorState, WorkerState, BatchState, EachStandsOnce, published_by}
use Rattle.workers_core.specs.Standing.{monitor_state, variables_in, seen, MonitorStands}
use Rattle.workers_core.specs.Parts.{core_state, worker_state, batch_state, AreAllBefore}
use Rattle.workers_core.specs.Opening.{MonitorPart, IsNew, monitor_part, parts_from, opened_monitor}
use Rattle.workers_core.specs.Wanted.{wanted_in}
use Rattle.workers_core.specs.Cores.{IsFirstWindow, IsOpened, opening_state}
use Rattle.workers_core.proofs.CorePartLaws.{get-mapped}
use Rattle.workers_core.proofs.OnceLaws.{opening-once}
use Rattle.workers_core.proofs.ToldLaws.{none-told}
use Rattle.workers_core.proofs.PartLaws.{IsPlaced, each-placed, each-accepted}

-- the window of columns that are bound to the signals
pub first-window :
    (j : Job) (n : ℕ) (cs : Columns) (asked : List Wanted) (r : Result Window WindowFault)
    → asked ≡ wanted_in j.programs.items
    → map Some (places_in cs) ≡ places_of (variables_of j.dump) asked
    → first_refused (variables_of j.dump) asked ≡ None
    → dump_in cs ≡ j.dump → clock_in cs ≡ code_in j.clocks
    → ((c : Contents) → HoldsContents j.dump c → AreColumnsOf cs c)
    → IfOk r (λ w. columns_in w ≡ cs) → IfOk r (λ w. size_in w ≡ n)
    → IfOk r (λ w. first_in w ≡ 0) → IfOk r (λ w. end_in w ≡ 0)
    → ((d : Dump) (k : Clocks) → dump_in cs ≡ d → code_in k ≡ clock_in cs → AreClocksOf d k
    → ((c : Contents) → HoldsContents d c → AreColumnsOf cs c) → IfOk r (λ w. IsWindowOf w d k))
    → IfOk r (IsFirstWindow j n)
first-window j n cs asked (Ok w) is places fits dump clock rows columns size first end of =
    let vs = variables_of j.dump in
    record {
      of = of j.dump j.clocks dump (sym clock) j.ticks rows;
      places = ap (λ (x : Columns). map Some (places_in x)) columns ∙ places ∙ ap (places_of vs) is;
      fits = sym (ap (first_refused vs) is) ∙ fits;
      size = size;
      first = first;
      end = end;
    }
first-window j n cs asked (Err e) is places fits dump clock rows columns size first end of = tt

-- before its first clock a monitor stands in the first window
pub stands-new : (j : Job) (n : ℕ) (w : Window) (m : Monitor) (i : ℕ) → IsFirstWindow j n w
    → slice_get (parts_from 0 j.programs.items) i ≡ Some (monitor_part m) → IsNew m → MonitorStands w m
stands-new j n w m i h part new =
    let vs = variables_of j.dump in
    let places = places_in (columns_in w) in
    let ps = j.programs.items in
    let p = m.machine.program in
    let at : IsPlaced vs places (monitor_part m) =
    each-placed vs places ps 0 (omega arith) h.places i (monitor_part m) part in
    let fit : first_refused vs (map wanted_slot p.signals) ≡ None =
    each-accepted vs ps 0 h.fits i (monitor_part m) part in
    let wide =
    (bound vs p.signals (map wanted_slot p.signals) (slice_range places m.from m.to) refl at.are
    fit).wide in
    let now : m.machine.state.standing.now ≡ 0 = ap (λ (s : State). s.standing.now) new.state in
    record {
      accepted = new.accepted;
      room = new.accepted.room.attempts;
      declared = new.declared;
      parted = at.order;
      inside = at.inside;
      fits = ∥∥₁_map (says-something j.dump) (λ says. (
        says.0,
        h.of.over says.0 says.1,
        subst (λ (ds : List Declared).
            map (λ (v : ℕ). size_of ds v) (variables_in w m)
            ≡ map (λ (s : SlotData). s.width) p.signals) says.1.variables wide,
      ));
      lately = omega (arith, new.since, now);
      low = omega (arith, h.first, now);
      high = omega (arith, now);
      come = λ c over.
          subst (λ (s : State). HasCome p (seen w c m) m.since s.standing.now m.decided.items s)
          (sym new.state)
          (subst (λ (ds : List Decided). HasCome p (seen w c m) m.since 0 ds (opening p))
          (sym new.decided)
          (subst (λ (a : ℕ). HasCome p (seen w c m) a 0 [] (opening p)) (sym new.since)
          (come-first p (seen w c m))));
    }

abbrev state : ℕ → ℕ → List MonitorState → List ℕ → List WorkerState → List BatchState → CoreState
state a b ms is ws bs =
    record { first = a; end = b; monitors = ms; waiting = is; workers = ws; board = bs }

-- the parts of a core before its first step
pub opened : (j : Job) (n most : ℕ) (f : CoreParts) → IsFirstWindow j most f.window →
    map monitor_state f.monitors.items ≡ map opened_monitor j.programs.items →
    map monitor_part f.monitors.items ≡ parts_from 0 j.programs.items →
    ((i : ℕ) (m : Monitor) → slice_get f.monitors.items i ≡ Some m → IsNew m) →
    f.waiting.items ≡ range_with_len 0 (length f.monitors.items) →
    map worker_state f.workers.items ≡ replicate n (record { hand = None; done = [] }) →
    f.board.items ≡ [] → IsOpened j n most f
opened j n most f h states parts new waiting workers board =
    let ps = j.programs.items in
    let ms = f.monitors.items in
    let many : length ms ≡ length ps =
    sym (length-map ms monitor_state) ∙ ap length states ∙ length-map ps opened_monitor in
    let idle : List WorkerState = replicate n (record { hand = None; done = [] }) in
    let is : core_state f ≡ opening_state ps n =
    ap (λ (a : ℕ).
    state a (end_in f.window) (map monitor_state ms) f.waiting.items
    (map worker_state f.workers.items) (map batch_state f.board.items)) h.first
    ∙ ap (λ (b : ℕ).
    state 0 b (map monitor_state ms) f.waiting.items (map worker_state f.workers.items)
    (map batch_state f.board.items)) h.end
    ∙ ap (λ (xs : List MonitorState).
    state 0 0 xs f.waiting.items (map worker_state f.workers.items)
    (map batch_state f.board.items)) states
    ∙ ap (λ (is : List ℕ).
    state 0 0 (map opened_monitor ps) is (map worker_state f.workers.items)
    (map batch_state f.board.items)) (waiting ∙ ap (range_with_len 0) many)
    ∙ ap (λ (ws : List WorkerState).
    state 0 0 (map opened_monitor ps) (range_with_len 0 (length ps)) ws
    (map batch_state f.board.items)) workers
    ∙ ap (λ (bs : List Batch).
    state 0 0 (map opened_monitor ps) (range_with_len 0 (length ps)) idle
    (map batch_state bs)) board in
    record {
      core = record {
        once = subst EachStandsOnce (sym is) (opening-once ps n);
        sound = record {
          monitors = λ i m is.
              stands-new j most f.window m i h
              (sym (ap (λ (qs : List MonitorPart). slice_get qs i) parts)
              ∙ get-mapped monitor_part ms i m is) (new i m is);
          known = λ i b is. absurd (cc (is, board));
          batches = λ i b m is there. absurd (cc (is, board));
          told = λ i m is.
              subst (λ (bs : List Batch).
              AreAllBefore f.window m (published_by (map batch_state bs) i)) (sym board)
              (none-told f.window m (new i m is));
        };
        window = h.of;
        places = h.places;
        parts = parts;
      };
      state = is;
      size = h.size;
    }
