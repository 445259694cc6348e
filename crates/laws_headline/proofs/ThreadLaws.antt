-- A round by threads, as a round of the core.
use Rattle.std.proofs.Common.{◌≡◌, ◌∙◌, ℕ, zero, suc, ◌+◌, ◌<◌, List, [], ◌∷◌, ◌++◌, Some}
use Rattle.std.proofs.Common.{length, map, take, refl, sym, ap, subst, arith}
use Rattle.std.specs.Prelude.{slice_get}
use Rattle.std.specs.List.{range_with_len}
use Rattle.std.proofs.lemmas.List.{length-map}
use Rattle.signals.specs.declared.verdict.Decided.{Decided}
use Rattle.bytecode_programs.specs.Values.{ProgramData}
use Rattle.crossbeam_queue.specs.Passes.{Pass, view}
use Rattle.vcd_reader.specs.Dump.{Contents}
use Rattle.cycle_window.specs.declared.window.Window.{Window}
use Rattle.cycle_window.specs.Held.{first_in, end_in}
use Rattle.machine_checked.specs.Outcomes.{Ran, done, trapped}
use Rattle.machine_checked.specs.Machine.{State, Outcome, opening, clocks}
use Rattle.machine_batches.specs.declared.batch.Batch.{Batch}
use Rattle.machine_batches.specs.Batches.{batch_of}
use Rattle.workers_core.specs.declared.job.Job.{Job}
use Rattle.workers_core.specs.Parts.{batch_state}
use Rattle.workers_core.specs.States.{CoreState, MonitorState, BatchState, Setting, batch}
use Rattle.workers_core.specs.States.{monitor_moved, monitor_cleared}
use Rattle.workers_core.specs.Values.{job_value, rows_over}
use Rattle.workers_core.proofs.CorePartLaws.{get-mapped}
use Rattle.verdicts.specs.declared.board.Board.{Board}
use Rattle.workers_bench.specs.declared.numbered.Numbered.{Numbered}
use Rattle.workers_bench.specs.declared.passes.Hand.{Hand}
use Rattle.workers_bench.specs.Hands.{numbers, NumbersRise, NumbersRiseFrom}
use Rattle.workers_bench.specs.Hands as hands
use Rattle.workers_bench.specs.Monitors.{IsMonitorAt}
use Rattle.workers_bench.specs.Passes.{taken_of}
use Rattle.verdicts.specs.Receipts.{shown_by}
use Rattle.workers.specs.declared.worker.Published.{Published}
use Rattle.workers.specs.Works.{IsPublished}
use Rattle.workers.specs.Runs.{upto}
use Rattle.workers.specs.ThreadRounds.{taken_by, IsThreadRound}
use Rattle.workers.proofs.Telling.{program-of, placed-number, length-published, all-at, some-is}
use Rattle.laws_headline.specs.Steps.{owned_lists}
use Rattle.laws_headline.specs.Rounds.{IsWaiting, AreOwners, next_end, next_clocks, further}
use Rattle.laws_headline.specs.Rounds.{all_further, batches_from}
use Rattle.laws_headline.specs.Owners.{AreRisingFrom, total}
use Rattle.laws_headline.specs.RoundTheorems.{IsRound}
use Rattle.laws_headline.specs.ThreadRounds.{batch_told, monitor_told, programs_of, in_order}
use Rattle.laws_headline.specs.ThreadRounds.{run_lists, setting_over, IsNextWindow, IsSameRound}
use Rattle.laws_headline.proofs.OwnedLaws.{dealt-have-owners}
use Rattle.laws_headline.proofs.RoundLaws.{is-round}
use Rattle.laws_headline.proofs.SourceOrder.{in-order-keeps, dealt-in-order}

-- rising, as the bench and as the core's owners have it
rises-as : (low : ℕ) (xs : List ℕ) → NumbersRiseFrom low xs → AreRisingFrom low xs
rises-as low [] h = tt
rises-as low (x ∷ xs) h = (h.0, rises-as (x + 1) xs h.1)

pub taken-in-order : (xs : List ℕ) → NumbersRise xs → in_order xs ≡ xs
taken-in-order xs h = in-order-keeps xs (rises-as 0 xs h)

-- what lists weigh, as the bench and as the core's owners have it
same-total : {X : Type 0} (f : X → ℕ) (xs : List X) → hands.total f xs ≡ total f xs
same-total f [] = refl
same-total f (x ∷ xs) = ap (λ (n : ℕ). f x + n) (same-total f xs)

total-append : (h : ℕ → ℕ) (xs ys : List ℕ) → total h (xs ++ ys) ≡ total h xs + total h ys
total-append h [] ys = omega arith
total-append h (x ∷ xs) ys = omega (arith, total-append h xs ys)

taken-weigh : (h : ℕ → ℕ) (passes : List (Pass Numbered Hand))
    → total (total h) (map taken_by passes) ≡ hands.total (taken_of h) passes
taken-weigh h [] = refl
taken-weigh h (p ∷ passes) = omega (arith, same-total h (taken_by p), taken-weigh h passes)

run-weighs : (h : ℕ → ℕ) (passes : List (Pass Numbered Hand)) (rest : List ℕ) → 0 < length passes
    → total (total h) (run_lists passes rest) ≡ hands.total (taken_of h) passes + hands.total h rest
run-weighs h [] rest some = absurd (omega (arith, some))
run-weighs h (p ∷ passes) rest some =
    omega (
      arith,
      total-append h (taken_by p) rest,
      same-total h (taken_by p),
      same-total h rest,
      taken-weigh h passes,
    )

upto-range : (a n : ℕ) → upto a n ≡ range_with_len a n
upto-range a zero = refl
upto-range a (suc n) =
    let next : suc a ≡ a + 1 = omega arith in
    ap (λ (xs : List ℕ). a ∷ xs) (upto-range (suc a) n ∙ ap (λ (m : ℕ). range_with_len m n) next)

length-run : (passes : List (Pass Numbered Hand)) (rest : List ℕ) → length (run_lists passes rest) ≡ length passes
length-run [] rest = refl
length-run (p ∷ passes) rest = ap suc (length-map passes taken_by)

-- lists that are the same place by place
same-mapped : {A B C : Type 0} (f : A → C) (h : B → C) (xs : List A) (ys : List B) → length xs ≡ length ys →
    ((i : ℕ) (x : A) (y : B) → slice_get xs i ≡ Some x → slice_get ys i ≡ Some y → f x ≡ h y) → map f xs ≡ map h ys
same-mapped f h [] [] long same = refl
same-mapped f h [] (y ∷ ys) long same = absurd (omega (arith, long))
same-mapped f h (x ∷ xs) [] long same = absurd (omega (arith, long))
same-mapped f h (x ∷ xs) (y ∷ ys) long same =
    ap (λ z. z ∷ map f xs) (same 0 x y refl refl)
    ∙ ap (λ zs. h y ∷ zs)
    (same-mapped f h xs ys (omega (arith, long)) (λ i u v at to. same (suc i) u v at to))

same-batches : (g : Setting) (k low : ℕ) (ms : List MonitorState) (ps : List Published) → length ms ≡ length ps →
    ((i : ℕ) (m : MonitorState) (p : Published) → slice_get ms i ≡ Some m → slice_get ps i ≡ Some p
    → batch (low + i) (further g k m) ≡ batch_told p) → batches_from g k low ms ≡ map batch_told ps
same-batches g k low [] [] long same = refl
same-batches g k low [] (p ∷ ps) long same = absurd (omega (arith, long))
same-batches g k low (m ∷ ms) [] long same = absurd (omega (arith, long))
same-batches g k low (m ∷ ms) (p ∷ ps) long same =
    let here : low ≡ low + 0 = omega arith in
    let first : batch low (further g k m) ≡ batch_told p =
    ap (λ (n : ℕ). batch n (further g k m)) here ∙ same 0 m p refl refl in
    let others : (i : ℕ) (n : MonitorState) (q : Published) → slice_get ms i ≡ Some n → slice_get ps i ≡ Some q
    → batch ((low + 1) + i) (further g k n) ≡ batch_told q = λ i n q at to.
    let next : (low + 1) + i ≡ low + suc i = omega arith in
    ap (λ (l : ℕ). batch l (further g k n)) next ∙ same (suc i) n q at to in
    ap (λ (b : BatchState). b ∷ batches_from g k (low + 1) ms) first
    ∙ ap (λ (bs : List BatchState). batch_told p ∷ bs)
    (same-batches g k (low + 1) ms ps (omega (arith, long)) others)

-- a monitor keeps its program
moved-program : (m : MonitorState) (r : Ran Outcome) → (monitor_moved m r).program ≡ m.program
moved-program m (done o left) = refl
moved-program m (trapped t) = refl

further-programs : (g : Setting) (k : ℕ) (ms : List MonitorState)
    → programs_of (all_further g k ms) ≡ programs_of ms
further-programs g k [] = refl
further-programs g k (m ∷ ms) =
    ap (λ (q : ProgramData). q ∷ programs_of (all_further g k ms)) (moved-program m _)
    ∙ ap (λ (qs : List ProgramData). m.program ∷ qs) (further-programs g k ms)

done-is : (s t : State) → done s 0 ≡ done t 0 → s ≡ t
done-is s t h = cc

-- by their fields
abbrev told_as : ℕ → ℕ → ℕ → List Decided → BatchState
told_as i first end decided = record { monitor = i; first = first; end = end; decided = decided }

same-batch : (x : Batch) (i a b : ℕ) (ds : List Decided) → x.monitor ≡ i → x.first ≡ a → x.end ≡ b
    → x.decided.items ≡ ds → told_as i a b ds ≡ batch_state x
same-batch x i a b ds monitor first end decided =
    sym (ap (λ (n : ℕ). told_as n x.first x.end x.decided.items) monitor
    ∙ ap (λ (n : ℕ). told_as i n x.end x.decided.items) first
    ∙ ap (λ (n : ℕ). told_as i a n x.decided.items) end
    ∙ ap (λ (xs : List Decided). told_as i a b xs) decided)

abbrev monitor_as : ProgramData → State → ℕ → List Decided → MonitorState
monitor_as p state since decided =
    record { program = p; state = state; since = since; decided = decided }

same-monitor : (x y : MonitorState) → x.program ≡ y.program → x.state ≡ y.state → x.since ≡ y.since
    → x.decided ≡ y.decided → x ≡ y
same-monitor x y program state since decided =
    ap (λ (p : ProgramData). monitor_as p x.state x.since x.decided) program
    ∙ ap (λ (s : State). monitor_as y.program s x.since x.decided) state
    ∙ ap (λ (n : ℕ). monitor_as y.program y.state n x.decided) since
    ∙ ap (λ (ds : List Decided). monitor_as y.program y.state y.since ds) decided

module _ (j : Job) (c : Contents) (size : ℕ) (s : CoreState) (w : Window) (board : Board)
    (crew : ℕ) (ps : List Published) (before : IsNextWindow j c size crew s w)
    (h : IsThreadRound j w board crew ps) where
  abbrev passes : List (Pass Numbered Hand)
  passes = h.passes

  abbrev rest : List Numbered
  rest = h.rest

  abbrev g : Setting
  g = setting_over j c size s

  abbrev k : ℕ
  k = next_clocks g s

  many : length s.monitors ≡ length j.programs.items
  many = sym (length-map s.monitors (λ (m : MonitorState). m.program)) ∙ ap length before.programs

  -- what the workers ran is all monitors, each once
  abbrev ran : List (List ℕ)
  ran = run_lists passes (numbers rest)

  some-pass : 0 < length passes
  some-pass = omega (arith, before.sizes.1, h.each)

  all-ran : (f : ℕ → ℕ) → total (total f) ran ≡ total f (range_with_len 0 (length s.monitors))
  all-ran f =
      let none : taken_of f h.putting ≡ 0 = ap (hands.total f) h.none in
      let put : hands.total f (view h.putting).put ≡ total f (range_with_len 0 (length s.monitors)) =
      ap (hands.total f) (h.put ∙ ap (upto 0) (sym many) ∙ upto-range 0 (length s.monitors))
      ∙ same-total f (range_with_len 0 (length s.monitors)) in
      omega (arith, run-weighs f passes (numbers rest) some-pass, h.taken f, none, put)

  counted : length (map in_order ran) ≡ crew
  counted = length-map ran in_order ∙ length-run passes (numbers rest) ∙ h.each

  owned : (owners : List ℕ) × AreOwners (length s.monitors) (length (map in_order ran)) owners
      × (owned_lists owners (length (map in_order ran)) ≡ map in_order ran)
  owned =
      dealt-have-owners (length s.monitors) (map in_order ran)
      (dealt-in-order (length s.monitors) ran all-ran)

  abbrev owners : List ℕ
  owners = owned.0

  known : AreOwners (length s.monitors) crew owners
  known = subst (λ (n : ℕ). AreOwners (length s.monitors) n owners) counted owned.1

  round : IsRound g crew owners s
  round = is-round g crew owners s before.rests known before.more before.sizes.0

  -- one monitor, and what was published of it
  module _ (i : ℕ) (m : MonitorState) (p : Published) (at : slice_get s.monitors i ≡ Some m)
      (to : slice_get ps i ≡ Some p) where
    number : p.monitor.number ≡ i
    number = placed-number ps (length j.programs.items) i p h.order to

    is : IsPublished j w board p
    is = all-at (IsPublished j w board) ps i p h.published to

    abbrev own : ProgramData
    own = p.monitor.monitor.value.machine.program

    program : m.program ≡ own
    program =
        some-is m.program own
        (sym (get-mapped (λ (x : MonitorState). x.program) s.monitors i m at)
        ∙ ap (λ (qs : List ProgramData). slice_get qs i) before.programs
        ∙ program-of j w board i p number is)

    abbrev decides : ProgramData → ℕ → ℕ → List Decided
    decides q a b = batch_of q (rows_over (job_value j) c q) a b

    same-told : batch i (further g k m) ≡ batch_told p
    same-told =
        let decided : (shown_by p.receipt).decided.items ≡ decides m.program s.end (next_end g s) =
        is.on.batch.decided c before.says
        ∙ ap (λ (q : ProgramData). decides q (first_in w) (end_in w)) (sym program)
        ∙ ap (λ (a : ℕ). decides m.program a (end_in w)) before.first
        ∙ ap (λ (b : ℕ). decides m.program s.end b) before.end in
        round.batches i m at
        ∙ same-batch (shown_by p.receipt) i s.end (next_end g s) (decides m.program s.end (next_end g s))
        (is.on.batch.monitor ∙ number) (is.on.batch.first ∙ before.first) (is.on.batch.end ∙ before.end) decided

    abbrev after : MonitorState
    after = monitor_cleared (further g k m)

    same-after : after ≡ monitor_told p
    same-after =
        let waits : IsWaiting g (next_end g s) after =
        round.rests.monitors i after
        (get-mapped (λ (x : MonitorState). monitor_cleared (further g k x)) s.monitors i m at) in
        let own-program : after.program ≡ own = moved-program m _ ∙ program in
        let ends : IsMonitorAt j (next_end g s) p.monitor =
        subst (λ (n : ℕ). IsMonitorAt j n p.monitor) before.end is.on.at_end in
        let ran-to : (q : ProgramData) → Ran State = λ q.
        clocks q (opening q) (take (next_end g s) (rows_over (job_value j) c q)) in
        let state : after.state ≡ p.monitor.monitor.value.machine.state =
        done-is _ _ (sym waits.state ∙ ap ran-to own-program ∙ ends.state c before.says) in
        same-monitor after (monitor_told p) own-program state (waits.since ∙ sym ends.since)
        (waits.told ∙ sym ends.told)

  same-count : length s.monitors ≡ length ps
  same-count = many ∙ sym (length-published ps (length j.programs.items) h.order)

  pub same-round : IsSameRound g crew s ran ps
  same-round =
      record {
        owners = owners;
        known = known;
        done = ap (owned_lists owners) (sym counted) ∙ owned.2;
        round = round;
        board = ap (λ (bs : List BatchState). s.board ++ bs)
            (same-batches g k 0 s.monitors ps same-count (λ i m p at to.
            let here : 0 + i ≡ i = omega arith in
            ap (λ (n : ℕ). batch n (further g k m)) here ∙ same-told i m p at to));
        monitors = same-mapped (λ (x : MonitorState). monitor_cleared (further g k x)) monitor_told s.monitors ps
            same-count same-after;
        programs = further-programs g k s.monitors;
      }
