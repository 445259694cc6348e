-- What every core has.
use Rattle.std.proofs.Common.{
  ◌≡◌,
  ℕ,
  zero,
  suc,
  ◌+◌,
  ◌<◌,
  ◌≤◌,
  ◌++◌,
  List,
  [],
  ◌∷◌,
  length,
  take,
  map,
  Some,
  refl,
  sym,
  ap,
  ◌∙◌,
  subst,
  arith,
}
use Rattle.std.specs.Prelude.{slice_get}
use Rattle.bytecode_programs.specs.Values.{ProgramData}
use Rattle.vcd_reader.specs.Dump.{Contents}
use Rattle.machine_checked.specs.Machine.{opening, clocks}
use Rattle.machine_batches.specs.declared.batch.Batch.{Batch}
use Rattle.machine_batches.specs.Batches.{batch_of}
use Rattle.machine_batches.proofs.JoinLaws.{ends-in}
use Rattle.workers_core.specs.declared.job.Job.{Job}
use Rattle.workers_core.specs.declared.core_parts.CoreParts.{CoreParts}
use Rattle.workers_core.specs.declared.monitor.Monitor.{Monitor}
use Rattle.workers_core.specs.States.{MonitorState, BatchState, monitor_clock}
use Rattle.workers_core.specs.Standing.{monitor_state, seen}
use Rattle.workers_core.specs.Parts.{batch_state}
use Rattle.workers_core.specs.Opening.{MonitorPart, monitor_part, parts_from}
use Rattle.workers_core.specs.Cores.{IsCore}
use Rattle.workers_core.specs.Values.{Says, job_value, core_value_of}
use Rattle.workers_core.specs.Following.{IsInState, IsBatchOf, PublishesAll, FollowsMachine}
use Rattle.workers_core.proofs.CorePartLaws.{get-mapped}
use Rattle.workers_core.proofs.CoreLaws.{holds, sees}
use Rattle.workers_core.proofs.RunLaws.{all-up-to}
use Rattle.verifier.specs.Programs.{IsAccepted}
use Rattle.signals.specs.declared.verdict.Decided.{Decided}
use Rattle.cycle_window.specs.Ticks.{ticks_of}
use Rattle.cycle_window.specs.Held.{end_in}
use Rattle.cycle_window.proofs.HeldLaws.{over-end}

-- what stands in a mapped list
record Found {A : Type 0} {B : Type 0} (f : A → B) (xs : List A) (i : ℕ) (y : B) : Type 0 where
  item : A
  at : slice_get xs i ≡ Some item
  is : f item ≡ y

found : {A : Type 0} {B : Type 0} (f : A → B) (xs : List A) (i : ℕ) (y : B)
    → slice_get (map f xs) i ≡ Some y → Found f xs i y
found f [] i y h = absurd cc
found f (x ∷ xs) zero y h = let e : f x ≡ y = cc in record { item = x; at = refl; is = e }
found f (x ∷ xs) (suc i) y h =
    let r = found f xs i y h in record { item = r.item; at = r.at; is = r.is }

pub some-state : (x y : MonitorState) → Some x ≡ Some y → x ≡ y
some-state x y h = cc

-- something stands below the length
there : (ms : List Monitor) (i : ℕ) → i < length ms → (m : Monitor) × (slice_get ms i ≡ Some m)
there [] i h = absurd (omega (arith, h))
there (x ∷ ms) zero h = (x, refl)
there (x ∷ ms) (suc i) h = there ms i (omega (arith, h))

parts-programs : (a : ℕ) (ps : List ProgramData)
    → map (λ (q : MonitorPart). q.program) (parts_from a ps) ≡ ps
parts-programs a [] = refl
parts-programs a (p ∷ ps) =
    ap (λ (xs : List ProgramData). p ∷ xs) (parts-programs (a + length p.signals) ps)

of-parts : (ms : List Monitor)
    → map (λ (m : MonitorState). m.program) (map monitor_state ms)
    ≡ map (λ (q : MonitorPart). q.program) (map monitor_part ms)
of-parts [] = refl
of-parts (m ∷ ms) = ap (λ (xs : List ProgramData). m.machine.program ∷ xs) (of-parts ms)

module _ (j : Job) (f : CoreParts) (c : Contents) (core : IsCore j f)
    (says : Says (job_value j) c) where
  programs-are : map (λ (m : MonitorState). m.program) (map monitor_state f.monitors.items)
      ≡ j.programs.items
  programs-are =
      of-parts f.monitors.items ∙ ap (map (λ (q : MonitorPart). q.program)) core.parts
      ∙ parts-programs 0 j.programs.items

  in-state : (i : ℕ) (m : Monitor) → slice_get f.monitors.items i ≡ Some m
      → IsInState (job_value j) c (monitor_state m)
  in-state i m at =
      let p = m.machine.program in
      let now = m.machine.state.standing.now in
      let stands = core.sound.monitors i m at in
      ap (λ (rows : List (List ℕ)). clocks p (opening p) (take now rows))
      (sees j f c core says i m at)
      ∙ ends-in p (seen f.window c m) m.since now m.machine.state m.decided.items stands.lately
      (stands.come c (core.window.over c (holds j c says)))

  -- the window ends within the trace
  ticks-left : end_in f.window ≤ length (ticks_of c (job_value j).code)
  ticks-left =
      subst (λ (n : ℕ). end_in f.window ≤ length (ticks_of c n)) (sym core.window.same_clock)
      (over-end f.window c (core.window.over c (holds j c says)))

  whole-at : (i : ℕ) (m : Monitor) → slice_get f.monitors.items i ≡ Some m
      → PublishesAll (core_value_of j f) c i (monitor_state m)
  whole-at i m at =
      let p = m.machine.program in
      let now = m.machine.state.standing.now in
      let stands = core.sound.monitors i m at in
      let over = core.window.over c (holds j c says) in
      ap (λ (ds : List Decided). ds ++ m.decided.items) (core.sound.told i m at c over)
      ∙ all-up-to p (seen f.window c m) m.since now m.machine.state m.decided.items stands.lately
      (stands.come c over)
      ∙ ap (λ (rows : List (List ℕ)). batch_of p rows 0 now) (sym (sees j f c core says i m at))

  batch-at : (n : ℕ) (b : Batch) → slice_get f.board.items n ≡ Some b
      → (p : ProgramData) × IsBatchOf (job_value j) c p (batch_state b)
  batch-at n b at =
      let ms = f.monitors.items in
      let found = there ms b.monitor (core.sound.known n b at) in
      let m = found.0 in
      let p = m.machine.program in
      let right = core.sound.batches n b m at found.1 in
      let program : slice_get j.programs.items b.monitor ≡ Some p =
      ap (λ (ps : List ProgramData). slice_get ps b.monitor) (sym programs-are)
      ∙ get-mapped (λ (s : MonitorState). s.program) (map monitor_state ms) b.monitor
      (monitor_state m) (get-mapped monitor_state ms b.monitor m found.1) in (
        p,
        record {
          program = program;
          order = right.order;
          within = omega (arith, right.inside, ticks-left);
          decided = right.decided c (core.window.over c (holds j c says))
              ∙ ap (λ (rows : List (List ℕ)). batch_of p rows b.first b.end)
              (sym (sees j f c core says b.monitor m found.1));
        },
      )

  pub core-follows : FollowsMachine (core_value_of j f) c
  core-follows = record {
    ticks = j.ticks c (holds j c says);
    once = core.once;
    programs = programs-are;
    accepted = λ i s is.
        let r = found monitor_state f.monitors.items i s is in
        subst (λ (x : MonitorState). IsAccepted x.program) r.is
        (core.sound.monitors i r.item r.at).accepted;
    within = λ i s is.
        let r = found monitor_state f.monitors.items i s is in
        let high = (core.sound.monitors i r.item r.at).high in
        subst (λ (x : MonitorState). monitor_clock x ≤ length (ticks_of c (job_value j).code)) r.is
        (omega (arith, high, ticks-left));
    whole = λ i s is.
        let r = found monitor_state f.monitors.items i s is in
        subst (PublishesAll (core_value_of j f) c i) r.is (whole-at i r.item r.at);
    monitors = λ i s is.
        let r = found monitor_state f.monitors.items i s is in
        subst (IsInState (job_value j) c) r.is (in-state i r.item r.at);
    batches = λ n s is.
        let r = found batch_state f.board.items n s is in
        subst (λ (b : BatchState). (p : ProgramData) × IsBatchOf (job_value j) c p b) r.is
        (batch-at n r.item r.at);
  }
