-- A monitor's clocks, one after another.
use Rattle.std.proofs.Common.{
  ◌≡◌,
  ℕ,
  zero,
  suc,
  ◌+◌,
  ◌-◌,
  ◌<◌,
  ◌≤◌,
  List,
  [],
  ◌∷◌,
  ◌++◌,
  length,
  take,
  drop,
  map,
  replicate,
  refl,
  sym,
  ap,
  ◌∙◌,
  subst,
  arith,
  append_assoc,
}
use Rattle.std.specs.Prelude.{slice_index, slice_range}
use Rattle.std.specs.List.{range_with_len}
use Rattle.std.proofs.lemmas.List.{append-nil, replicate_more, replicate-append-replicate}
use Rattle.vcd_reader.specs.Variables.{size_of}
use Rattle.machine.specs.Running.{Running, IsOneClock}
use Rattle.machine.specs.Told.{verdict_at}
use Rattle.machine.specs.Later.{attempt_later, verdict_later, decided_later}
use Rattle.machine.specs.Again.{AreAgain, told_from}
use Rattle.machine_batches.proofs.CountLaws.{CountsAll, clock-counts}
use Rattle.signals.specs.declared.verdict.Verdict.{Verdict}
use Rattle.signals.specs.declared.verdict.Verdict.TheVariants.{Holds, Vacuous, Fails, Disabled, Open}
use Rattle.signals.specs.declared.verdict.Decided.{Decided}
use Rattle.bytecode_programs.specs.Values.{ProgramData}
use Rattle.vcd_reader.specs.Dump.{Contents}
use Rattle.cycle_window.specs.declared.window.Window.{Window}
use Rattle.cycle_window.specs.Ticks.{ticks_of, row_of}
use Rattle.cycle_window.specs.Stays.{RowStays}
use Rattle.cycle_window.specs.Held.{
  columns_in,
  places_in,
  clock_in,
  end_in,
  first_in,
  IsOver,
  AreColumnsOf,
}
use Rattle.cycle_window.specs.declared.columns.Columns.{Columns}
use Rattle.machine_batches.specs.declared.batch.Batch.{Batch}
use Rattle.workers_core.specs.Parts.{IsRight}
use Rattle.machine_checked.specs.Outcomes.{Ran, done, and_then}
use Rattle.machine_checked.specs.Machine.{State, Outcome}
use Rattle.machine_checked.specs.Runs.{run_from}
use Rattle.machine_batches.proofs.BatchLaws.{joined, later}
use Rattle.machine_batches.proofs.CutLaws.{cuts}
use Rattle.machine_batches.specs.Ages.{nth, verdict_moved, deciding_clock}
use Rattle.machine_batches.specs.Streaks.{Attempts}
use Rattle.machine_batches.specs.Batches.{rows_between, batch_of, HasCome}
use Rattle.verifier.specs.Programs.{IsAccepted, least_attempts, least_obligations}
use Rattle.machine_checked.specs.Outcomes.{Meets}
use Rattle.machine_checked.proofs.Machine.{never-count}
use Rattle.std.proofs.Math.Logic.{∥∥₁_elim, ∥∥₁_map}
use Rattle.std.proofs.Math.Bridge.{le_prop}
use Rattle.std.proofs.Math.Path.{fun_ext}
use Rattle.std.proofs.Math.ListN.{length-map}
use Rattle.machine_batches.proofs.JoinLaws.{between-joins, come-on, ends-in}
use Rattle.workers_core.specs.declared.monitor.Monitor.{Monitor}
use Rattle.workers_core.specs.States.{MonitorState, monitor_moved}
use Rattle.workers_core.specs.Standing.{
  monitor_state,
  part,
  variables_in,
  seen,
  AreSampled,
  IsSame,
  MonitorStands,
  StandsBehind,
  IsOneMore,
  AreMore,
  HasGone,
  IsUnmoved,
}

one-tick : (f : ℕ → List ℕ) (b : ℕ) (ticks : List ℕ) → b < length ticks
    → take 1 (drop b (map f ticks)) ≡ f (slice_index ticks b) ∷ []
one-tick f b [] h = absurd (omega (arith, h))
one-tick f zero (t ∷ ticks) h = refl
one-tick f (suc b) (t ∷ ticks) h = one-tick f b ticks (omega (arith, h))

-- the rows up to the next clock
pub between-more : (f : ℕ → List ℕ) (a b : ℕ) (ticks : List ℕ) → a ≤ b → b < length ticks →
    rows_between (map f ticks) a b ++ f (slice_index ticks b) ∷ []
    ≡ rows_between (map f ticks) a (b + 1)
between-more f a b ticks h k =
    let one : 1 ≡ (b + 1) - b = omega arith in
    ap (λ (rs : List (List ℕ)). rows_between (map f ticks) a b ++ rs)
    (sym (one-tick f b ticks k) ∙ ap (λ (n : ℕ). take n (drop b (map f ticks))) one)
    ∙ between-joins a b (b + 1) (map f ticks) h (omega arith)

none-between : (b : ℕ) (rows : List (List ℕ)) → rows_between rows b b ≡ []
none-between b rows = let e : b - b ≡ 0 = omega arith in ap (λ (n : ℕ). take n (drop b rows)) e

-- what a clock of the machine comes to
abbrev outcome : {before after : Running} {row : List ℕ} {out more : List Decided}
    → IsOneClock before row out after more → Outcome
outcome {after = after} h = record { state = after.state; decided = h.decided }

module _ (old : Monitor) (row : List ℕ) (out more : List Decided) (machine : Running)
    (h : IsOneClock old.machine row out machine more) (none : out ≡ []) where
  decided-is : more ≡ h.decided
  decided-is = h.told ∙ ap (λ (o : List Decided). o ++ h.decided) none

  counted : CountsAll old.machine.state (record { state = machine.state; decided = h.decided })
  counted =
      clock-counts old.machine.program old.machine.state row
      (record { state = machine.state; decided = h.decided }) h.left h.ran

  -- a clock decides no more than what was live and began
  pub few : length more ≤ length old.machine.state.standing.attempts + 1
  few =
      let same : length more ≡ length h.decided = ap length decided-is in
      let all = counted.all in
      omega arith

  pub one-more : (new : Monitor) → new.machine ≡ machine → new.from ≡ old.from → new.to ≡ old.to →
      new.attempts ≡ old.attempts → new.since ≡ old.since →
      new.decided.items ≡ old.decided.items ++ more →
      old.decided.room ≤ new.decided.room + length more → IsOneMore old row new
  one-more new is from to attempts since told room =
      let same : length more ≡ length h.decided = ap length decided-is in
      let all = counted.all in
      let next = counted.next in
      let lives : length new.machine.state.standing.attempts
      ≡ length machine.state.standing.attempts =
      ap (λ (m : Running). length m.state.standing.attempts) is in
      let nows : new.machine.state.standing.now ≡ machine.state.standing.now =
      ap (λ (m : Running). m.state.standing.now) is in
      record {
        same =
            record {
              program = ap (λ (m : Running). m.program) is ∙ h.program;
              from = from;
              to = to;
              attempts = attempts;
              since = since;
            };
        decided = h.decided;
        left = h.left;
        ran = h.ran ∙ ap
            (λ (m : Running). done (record { state = m.state; decided = h.decided }) h.left)
            (sym is);
        told = told ∙ ap (λ (ds : List Decided). old.decided.items ++ ds) decided-is;
        now = omega arith;
        room = omega arith;
      }

pub same-all : (a b c : Monitor) → IsSame a b → IsSame b c → IsSame a c
same-all a b c h k =
    record {
      program = k.program ∙ h.program;
      from = k.from ∙ h.from;
      to = k.to ∙ h.to;
      attempts = k.attempts ∙ h.attempts;
      since = k.since ∙ h.since;
    }

pub same-self : (a : Monitor) → IsSame a a
same-self a = record { program = refl; from = refl; to = refl; attempts = refl; since = refl }

pub gone-none : (rows : List (List ℕ)) (a : ℕ) (m : Monitor) → HasGone (rows_between rows a a) m m
gone-none rows a m = record {
  decided = [];
  ran = ap (run_from m.machine.program m.machine.state) (none-between a rows);
  told = sym (append-nil m.decided.items);
}

-- rows that are all this one
equal-rows : (f : ℕ → List ℕ) (ticks : List ℕ) (b n : ℕ) (row : List ℕ) → b + n ≤ length ticks
    → ((i : ℕ) → i < n → f (slice_index ticks (b + i)) ≡ row)
    → rows_between (map f ticks) b (b + n) ≡ replicate n row
equal-rows f ticks b zero row inside all =
    let none : b + 0 ≡ b = omega arith in
    ap (rows_between (map f ticks) b) none ∙ none-between b (map f ticks)
equal-rows f ticks b (suc n) row inside all =
    let last : b + suc n ≡ (b + n) + 1 = omega arith in
    let more : n + 1 ≡ suc n = omega arith in
    ap (rows_between (map f ticks) b) last
    ∙ sym (between-more f b (b + n) ticks (omega arith) (omega (arith, inside)))
    ∙ ap (λ (rs : List (List ℕ)). rs ++ f (slice_index ticks (b + n)) ∷ [])
    (equal-rows f ticks b n row (omega (arith, inside)) (λ i lt. all i (omega arith)))
    ∙ ap (λ (r : List ℕ). replicate n row ++ r ∷ []) (all n (omega arith))
    ∙ replicate_more n row
    ∙ ap (λ (k : ℕ). replicate k row) more

-- so many clocks more, over rows that are all this one
pub gone-on : (f : ℕ → List ℕ) (ticks : List ℕ) (a b n : ℕ) (row : List ℕ) (old mid new : Monitor) →
    a ≤ b → b + n ≤ length ticks → ((i : ℕ) → i < n → f (slice_index ticks (b + i)) ≡ row) →
    IsSame old mid → HasGone (rows_between (map f ticks) a b) old mid → AreMore mid row n new →
    HasGone (rows_between (map f ticks) a (b + n)) old new
gone-on f ticks a b n row old mid new h inside all same gone step =
    let p = old.machine.program in
    let xs = rows_between (map f ticks) a b in
    let ys = replicate n row in
    let o : Outcome = record { state = mid.machine.state; decided = gone.decided } in
    let after : Outcome = record { state = new.machine.state; decided = step.decided } in
    let ran : run_from p mid.machine.state ys ≡ done after 0 =
    ap (λ (q : ProgramData). run_from q mid.machine.state ys) (sym same.program) ∙ step.ran in
    record {
      decided = gone.decided ++ step.decided;
      ran =
          ap (run_from p old.machine.state)
          (sym (between-joins a b (b + n) (map f ticks) h (omega arith))
          ∙ ap (λ (rs : List (List ℕ)). xs ++ rs) (equal-rows f ticks b n row inside all))
          ∙ cuts p old.machine.state xs ys
          ∙ ap (λ (r : Ran Outcome). and_then r (later p ys)) gone.ran
          ∙ ap (λ (r : Ran Outcome). and_then r (joined gone.decided)) ran;
      told = step.told ∙ ap (λ (ds : List Decided). ds ++ step.decided) gone.told
          ∙ append_assoc old.decided.items gone.decided step.decided;
    }

-- a clock is one of many
pub more-one : (old new : Monitor) (row : List ℕ) → IsOneMore old row new → AreMore old row 1 new
more-one old new row h = record {
  same = h.same;
  decided = h.decided;
  ran =
      ap (λ (r : Ran Outcome). and_then r (later old.machine.program [])) h.ran
      ∙ ap (λ (ds : List Decided). done (record { state = new.machine.state; decided = ds }) 0)
      (append-nil h.decided);
  told = h.told;
  now = h.now;
  room = h.room;
}

-- clocks over one row, and then more over it
pub more-joined : (old mid new : Monitor) (row : List ℕ) (a b : ℕ) → AreMore old row a mid → AreMore mid row b new
    → AreMore old row (a + b) new
more-joined old mid new row a b h k =
    let p = old.machine.program in
    let xs = replicate a row in
    let ys = replicate b row in
    let after : Outcome = record { state = new.machine.state; decided = k.decided } in
    let ran : run_from p mid.machine.state ys ≡ done after 0 =
    ap (λ (q : ProgramData). run_from q mid.machine.state ys) (sym h.same.program) ∙ k.ran in
    record {
      same = same-all old mid new h.same k.same;
      decided = h.decided ++ k.decided;
      ran =
          ap (run_from p old.machine.state) (sym (replicate-append-replicate a b row))
          ∙ cuts p old.machine.state xs ys
          ∙ ap (λ (r : Ran Outcome). and_then r (later p ys)) h.ran
          ∙ ap (λ (r : Ran Outcome). and_then r (joined h.decided)) ran;
      told = k.told ∙ ap (λ (ds : List Decided). ds ++ k.decided) h.told
          ∙ append_assoc old.decided.items h.decided k.decided;
      now = omega (arith, h.now, k.now);
      room = omega (arith, h.room, k.room);
    }

-- no clock more
pub more-none : (old new : Monitor) (row : List ℕ) → IsSame old new → new.machine ≡ old.machine
    → new.decided ≡ old.decided → AreMore old row 0 new
more-none old new row same is told = record {
  same = same;
  decided = [];
  ran = ap (λ (m : Running). done (record { state = m.state; decided = [] }) 0) (sym is);
  told = ap (λ (ds : Attempts). ds.items) told ∙ sym (append-nil old.decided.items);
  now = omega (arith, ap (λ (m : Running). m.state.standing.now) is);
  room = omega (
    arith,
    ap (λ (m : Running). length m.state.standing.attempts) is,
    ap (λ (ds : Attempts). ds.room) told,
  );
}

-- what came to the same so many clocks later, as a streak has it
moved-as : (n : ℕ) (v : Verdict) → verdict_moved n v ≡ verdict_later n v
moved-as n (Holds t) = refl
moved-as n (Vacuous t) = refl
moved-as n (Fails t) = refl
moved-as n (Disabled t) = refl
moved-as n Open = refl

nth-as : (first : Decided) (n : ℕ) → nth first n ≡ decided_later n first
nth-as first n = λ j. record { start = first.start + n; verdict = moved-as n first.verdict j }

streak-told : (first : Decided) (n : ℕ) → map (nth first) (range_with_len 0 n) ≡ told_from first n
streak-told first n = ap (λ (f : ℕ → Decided). map f (range_with_len 0 n)) (fun_ext (nth-as first))

clock-at : (now : ℕ) (v : Verdict) → deciding_clock (verdict_at now v) ≤ now
clock-at now (Holds t) = omega arith
clock-at now (Vacuous t) = omega arith
clock-at now (Fails t) = omega arith
clock-at now (Disabled t) = omega arith
clock-at now Open = omega arith

-- what is decided at a clock is decided by then
pub known-by : (now : ℕ) (v : Verdict) → v ≡ verdict_at now v → deciding_clock v ≤ now
known-by now v is = subst (λ (w : Verdict). deciding_clock w ≤ now) (sym is) (clock-at now v)

as-many : {A B : Type 0} (f : A → B) (xs : List A) → length (map f xs) ≡ length xs
as-many f xs = rw length-map refl

-- clocks that a machine passed over
pub passed-over : (old new : Monitor) (row : List ℕ) (clocks : ℕ) (first : Decided) →
    AreAgain old.machine row clocks first new.machine → IsSame old new → 1 ≤ clocks →
    new.decided.items ≡ old.decided.items ++ map (nth first) (range_with_len 0 clocks) →
    old.decided.room ≤ new.decided.room + 1 → AreMore old row clocks new
passed-over old new row clocks first h same some told room =
    record {
      same = same;
      decided = told_from first clocks;
      ran = h.ran;
      told = told ∙ ap (λ (ds : List Decided). old.decided.items ++ ds) (streak-told first clocks);
      now = ap (λ (s : State). s.standing.now) h.state;
      room = omega (
        arith,
        ap (λ (s : State). length s.standing.attempts) h.state,
        as-many (attempt_later clocks) old.machine.state.standing.attempts,
        room,
      );
    }

abbrev some : ProgramData → State → ℕ → List Decided → MonitorState
some p s a xs = record { program = p; state = s; since = a; decided = xs }

some-state : (p q : ProgramData) (s : State) (a b : ℕ) (xs ys : List Decided) → p ≡ q → a ≡ b
    → xs ≡ ys → some p s a xs ≡ some q s b ys
some-state p q s a b xs ys h k l =
    ap (λ (p : ProgramData). some p s a xs) h ∙ ap (λ (a : ℕ). some q s a xs) k ∙ ap (some q s b) l

-- what went on is the checked machine's
pub gone-moved : (rows : List (List ℕ)) (old new : Monitor) → IsSame old new →
    HasGone rows old new →
    monitor_moved (monitor_state old) (run_from old.machine.program old.machine.state rows)
    ≡ monitor_state new
gone-moved rows old new same gone =
    ap (monitor_moved (monitor_state old)) gone.ran
    ∙ some-state old.machine.program new.machine.program new.machine.state old.since new.since
    (old.decided.items ++ gone.decided) new.decided.items
    (sym same.program) (sym same.since) (sym gone.told)

come-same : (p q : ProgramData) (rows others : List (List ℕ)) (a b n : ℕ) (xs ys : List Decided)
    (s : State) → p ≡ q → rows ≡ others → a ≡ b → xs ≡ ys →
    HasCome p rows a n xs s → HasCome q others b n ys s
come-same p q rows others a b n xs ys s h k l e come =
    subst (λ (ds : List Decided). HasCome q others b n ds s) e
    (subst (λ (i : ℕ). HasCome q others i n xs s) l
    (subst (λ (rs : List (List ℕ)). HasCome q rs a n xs s) k
    (subst (λ (r : ProgramData). HasCome r rows a n xs s) h come)))

pub same-part : (xs : List ℕ) (old new : Monitor) → IsSame old new → part new xs ≡ part old xs
same-part xs old new same =
    ap (λ (i : ℕ). slice_range xs i new.to) same.from ∙ ap (slice_range xs old.from) same.to

abbrev Fitting : Window → List ℕ → ProgramData → Type 0
Fitting w vs p =
    ∥ ((c : Contents) × IsOver w c
    × (map (λ v. size_of c.variables v) vs ≡ map (λ s. s.width) p.signals)) ∥₁

same-fits : (w : Window) (vs us : List ℕ) (p q : ProgramData) → vs ≡ us → p ≡ q → Fitting w vs p
    → Fitting w us q
same-fits w vs us p q h k fits =
    subst (λ (us : List ℕ). Fitting w us q) h (subst (Fitting w vs) k fits)

pub over-same : (v w : Window) (c : Contents) → columns_in w ≡ columns_in v → IsOver w c
    → IsOver v c
unfolding IsOver columns_in
over-same v w c is h = subst (λ (cs : Columns). AreColumnsOf cs c) is h

abbrev FittingOf : Columns → List ℕ → ProgramData → Type 0
FittingOf cs vs p =
    ∥ ((c : Contents) × AreColumnsOf cs c
    × (map (λ v. size_of c.variables v) vs ≡ map (λ s. s.width) p.signals)) ∥₁

slid-fits : (v w : Window) (vs us : List ℕ) (p : ProgramData) → columns_in w ≡ columns_in v
    → vs ≡ us → Fitting v vs p → Fitting w us p
unfolding IsOver columns_in
slid-fits v w vs us p is h fits =
    subst (λ (cs : Columns). FittingOf cs us p) (sym is)
    (subst (λ (xs : List ℕ). FittingOf v.columns xs p) h fits)

-- the values of the monitor's variables are its row
pub row-seen : (w : Window) (c : Contents) (old mid : Monitor) (row : List ℕ) (k : ℕ)
    → IsSame old mid → row ≡ row_of c (variables_in w mid) k → row ≡ row_of c (variables_in w old) k
row-seen w c old mid row k same is =
    is ∙ ap (λ (vs : List ℕ). row_of c vs k) (same-part (places_in (columns_in w)) old mid same)

-- the row is of variables that have the widths of the program's signals
pub row-fitting : (w : Window) (old mid : Monitor) (row : List ℕ) (tick : ℕ)
    → ∥ ((c : Contents) × IsOver w c × (map (λ (v : ℕ). size_of c.variables v) (variables_in w old)
    ≡ map (λ s. s.width) old.machine.program.signals)) ∥₁ → IsSame old mid
    → ((c : Contents) → IsOver w c
    → row ≡ row_of c (variables_in w mid) (slice_index (ticks_of c (clock_in (columns_in w))) tick))
    → AreSampled mid.machine.program row
row-fitting w old mid row tick fits same is =
    subst (λ (p : ProgramData). AreSampled p row) (sym same.program)
    (∥∥₁_map fits (λ f.
    let at = slice_index (ticks_of f.0 (clock_in (columns_in w))) tick in (
      f.0,
      variables_in w old,
      at,
      row-seen w f.0 old mid row at same (is f.0 f.1),
      f.2,
    )))

pub row-sampled : (w : Window) (old mid : Monitor) (row : List ℕ) (tick : ℕ) → MonitorStands w old → IsSame old mid
    → ((c : Contents) → IsOver w c
    → row ≡ row_of c (variables_in w mid) (slice_index (ticks_of c (clock_in (columns_in w))) tick))
    → AreSampled mid.machine.program row
row-sampled w old mid row tick h same is = row-fitting w old mid row tick h.fits same is

-- where the part of a row stays, the rows from a clock on are that clock's
pub stays-seen : (w : Window) (c : Contents) (old mid : Monitor) (row : List ℕ) (tick ticks : ℕ) → IsSame old mid
    → RowStays c (clock_in (columns_in w)) (variables_in w mid) tick ticks
    → row ≡ row_of c (variables_in w mid) (slice_index (ticks_of c (clock_in (columns_in w))) tick)
    → (i : ℕ) → i < 1 + ticks
    → row_of c (variables_in w old) (slice_index (ticks_of c (clock_in (columns_in w))) (tick + i)) ≡ row
stays-seen w c old mid row tick ticks same stays is i lt =
    let all = ticks_of c (clock_in (columns_in w)) in
    let parts = same-part (places_in (columns_in w)) old mid same in
    ap (λ (vs : List ℕ). row_of c vs (slice_index all (tick + i))) (sym parts)
    ∙ stays i (omega arith)
    ∙ sym is

-- a monitor that went on stands where it came to
pub stands-on : (w : Window) (old new : Monitor) (to : ℕ) → MonitorStands w old → IsSame old new →
    new.machine.state.standing.now ≡ to → old.machine.state.standing.now ≤ to → to ≤ end_in w →
    ((c : Contents) → IsOver w c →
    HasGone (rows_between (seen w c old) old.machine.state.standing.now to) old new) →
    MonitorStands w new
stands-on w old new to h same at ahead inside gone =
    let vs = places_in (columns_in w) in
    let parts = same-part vs old new same in
    record {
      accepted = subst IsAccepted (sym same.program) h.accepted;
      room = subst (λ (p : ProgramData). p.header.limits.attempts ≤ 1024) (sym same.program) h.room;
      declared = omega (
        arith,
        h.declared,
        same.attempts,
        ap (λ (p : ProgramData). p.header.limits.attempts) same.program,
      );
      parted = omega (arith, h.parted, same.from, same.to);
      inside = omega (arith, h.inside, same.to);
      fits = same-fits w (variables_in w old) (variables_in w new) old.machine.program
          new.machine.program (sym parts) (sym same.program) h.fits;
      lately = omega (arith, h.lately, same.since, at, ahead);
      low = omega (arith, h.low, at, ahead);
      high = omega (arith, at, inside);
      come = λ c over.
          let g = gone c over in
          let rows = seen w c old in
          let ticks = ticks_of c (clock_in (columns_in w)) in
          subst (λ (n : ℕ).
          HasCome new.machine.program (seen w c new) new.since n new.decided.items
          new.machine.state) (sym at)
          (come-same old.machine.program new.machine.program rows (seen w c new) old.since new.since
          to (old.decided.items ++ g.decided) new.decided.items new.machine.state
          (sym same.program) (ap (λ (ps : List ℕ). map (row_of c ps) ticks) (sym parts))
          (sym same.since) (sym g.told)
          (come-on old.machine.program rows old.since old.machine.state.standing.now to
          old.machine.state new.machine.state old.decided.items g.decided h.lately ahead
          (h.come c over) g.ran));
    }

-- a monitor that went on behind so many clocks stands where it came to
pub stands-behind-on : (before : ℕ) (w : Window) (old new : Monitor) (to : ℕ)
    → StandsBehind before w old → IsSame old new → new.machine.state.standing.now ≡ to
    → old.machine.state.standing.now ≤ to → to ≤ before + end_in w → StandsBehind before w new
stands-behind-on before w old new to h same at ahead inside =
    let parts = same-part (places_in (columns_in w)) old new same in
    record {
      accepted = subst IsAccepted (sym same.program) h.accepted;
      room = subst (λ (p : ProgramData). p.header.limits.attempts ≤ 1024) (sym same.program) h.room;
      declared = omega (
        arith,
        h.declared,
        same.attempts,
        ap (λ (p : ProgramData). p.header.limits.attempts) same.program,
      );
      parted = omega (arith, h.parted, same.from, same.to);
      inside = omega (arith, h.inside, same.to);
      fits = same-fits w (variables_in w old) (variables_in w new) old.machine.program
          new.machine.program (sym parts) (sym same.program) h.fits;
      low = omega (arith, h.low, at, ahead);
      high = omega (arith, at, inside);
    }

pub unmoved-same : (old new : Monitor) → IsUnmoved old new → IsSame old new
unmoved-same old new u =
    record {
      program = ap (λ (m : Running). m.program) u.machine;
      from = u.from;
      to = u.to;
      attempts = u.attempts;
      since = u.since;
    }

unmoved-gone : (rows : List (List ℕ)) (old new : Monitor) → IsUnmoved old new
    → HasGone (rows_between rows old.machine.state.standing.now old.machine.state.standing.now) old
    new
unmoved-gone rows old new u =
    let now = old.machine.state.standing.now in
    record {
      decided = [];
      ran = ap (run_from old.machine.program old.machine.state) (none-between now rows)
          ∙ ap (λ (m : Running). done (record { state = m.state; decided = [] }) 0) (sym u.machine);
      told = u.decided ∙ sym (append-nil old.decided.items);
    }

-- few attempts are live
pub few-live : (w : Window) (m : Monitor) → MonitorStands w m
    → length m.machine.state.standing.attempts ≤ m.machine.program.header.limits.attempts
few-live w m h =
    ∥∥₁_elim h.fits le_prop (λ f.
    let p = m.machine.program in
    let rows = seen w f.0 m in
    let now = m.machine.state.standing.now in
    let n =
    subst (Meets (λ (s : State) left.
    (length s.standing.attempts + 1 ≤ least_attempts p)
    × (length s.standing.obligations + 1 ≤ least_obligations p)))
    (ends-in p rows m.since now m.machine.state m.decided.items h.lately (h.come f.0 f.1))
    (never-count p h.accepted (take now rows)) in
    omega (arith, n.0, h.accepted.attempts))

-- room for more changes nothing else
pub stands-unmoved : (w : Window) (old new : Monitor) → MonitorStands w old → IsUnmoved old new
    → MonitorStands w new
stands-unmoved w old new h u =
    let same : IsSame old new = unmoved-same old new u in
    let now = old.machine.state.standing.now in
    stands-on w old new now h same (ap (λ (m : Running). m.state.standing.now) u.machine)
    (omega arith) h.high
    (λ c over. unmoved-gone (seen w c old) old new u)

pub same-seen : (v w : Window) (c : Contents) (m : Monitor) → columns_in w ≡ columns_in v
    → seen v c m ≡ seen w c m
same-seen v w c m is =
    ap (λ (cs : Columns). map (row_of c (part m (places_in cs))) (ticks_of c (clock_in cs)))
    (sym is)

-- a monitor at the end of a window stands at the first clock of the next
pub stands-slid : (v w : Window) (m : Monitor) → columns_in w ≡ columns_in v → first_in w ≡ end_in v
    → end_in v ≤ end_in w → m.machine.state.standing.now ≡ end_in v → MonitorStands v m → MonitorStands w m
stands-slid v w m is first longer at h =
    let parts : variables_in v m ≡ variables_in w m =
    ap (λ (cs : Columns). part m (places_in cs)) (sym is) in
    let long : length (places_in (columns_in v)) ≡ length (places_in (columns_in w)) =
    ap (λ (cs : Columns). length (places_in cs)) (sym is) in
    record {
      accepted = h.accepted;
      room = h.room;
      declared = h.declared;
      parted = h.parted;
      inside = omega (arith, h.inside, long);
      fits = slid-fits v w (variables_in v m) (variables_in w m) m.machine.program is parts h.fits;
      lately = h.lately;
      low = omega (arith, first, at);
      high = omega (arith, at, longer);
      come = λ c over.
          subst (λ (rows : List (List ℕ)).
          HasCome m.machine.program rows m.since m.machine.state.standing.now m.decided.items
          m.machine.state) (same-seen v w c m is)
          (h.come c (over-same v w c is over));
    }

pub right-slid : (v w : Window) (m : Monitor) (b : Batch) → columns_in w ≡ columns_in v
    → end_in v ≤ end_in w → IsRight v m b → IsRight w m b
right-slid v w m b is longer h = record {
  order = h.order;
  inside = omega (arith, h.inside, longer);
  decided = λ c over.
      h.decided c (over-same v w c is over)
      ∙ ap (λ (rows : List (List ℕ)). batch_of m.machine.program rows b.first b.end)
      (same-seen v w c m is);
}

pub right-same : (w : Window) (old new : Monitor) (b : Batch) → IsSame old new → IsRight w old b
    → IsRight w new b
right-same w old new b same h = record {
  order = h.order;
  inside = h.inside;
  decided = λ c over.
      let ticks = ticks_of c (clock_in (columns_in w)) in
      h.decided c over
      ∙ ap (λ (p : ProgramData). batch_of p (seen w c old) b.first b.end) (sym same.program)
      ∙ ap (λ (ps : List ℕ). batch_of new.machine.program (map (row_of c ps) ticks) b.first b.end)
      (sym (same-part (places_in (columns_in w)) old new same));
}
