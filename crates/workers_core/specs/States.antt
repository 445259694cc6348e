-- The states of a core, and the next one.
use Rattle.std.specs.Prelude.{◌≡◌, ℕ, ◌+◌, ◌-◌, ◌==◌, ◌&&◌, nat_le, nat_lt, min, Bool, true, false}
use Rattle.std.specs.Prelude.{if◌then◌else◌, List, [], ◌∷◌, ◌++◌, Option, Some, None, is_some, map}
use Rattle.std.specs.Prelude.{◌<◌, ◌≤◌, length, count_by, slice_get, slice_set, drop}
use Rattle.std.specs.List.{list_all, flat_map}
use Rattle.std.specs.Option.{option_to_list}
use Rattle.signals.specs.declared.verdict.Decided.{Decided}
use Rattle.bytecode_programs.specs.Values.{ProgramData}
use Rattle.machine_checked.specs.Outcomes.{Ran, done, trapped}
use Rattle.machine_checked.specs.Machine.{State, Outcome}
use Rattle.machine_checked.specs.Runs.{run_from}
use Rattle.machine_batches.specs.Batches.{rows_between}
use Rattle.workers_core.specs.declared.step.Step.{Step}
use Rattle.workers_core.specs.declared.step.Step.TheVariants as steps
use Rattle.workers_core.specs.declared.step.Reply.{Reply}
use Rattle.workers_core.specs.declared.step.Reply.TheVariants as replies

-- A monitor: its program, the state of the checked machine, and what was decided since a clock.
pub record MonitorState : Type 0 where
  pub program : ProgramData
  pub state : State
  pub since : ℕ
  pub decided : List Decided

-- how many clocks it has run
abbrev pub monitor_clock : MonitorState → ℕ
monitor_clock m = m.state.standing.now

-- the monitor after further clocks; a trap, which an accepted program never meets, moves nothing
abbrev pub monitor_moved : MonitorState → Ran Outcome → MonitorState
monitor_moved m (done o left) = record {
  program = m.program;
  state = o.state;
  since = m.since;
  decided = m.decided ++ o.decided;
}
monitor_moved m (trapped t) = m

-- so many clocks of the checked machine more, over the trace's rows from its place on
abbrev pub advanced : List (List ℕ) → ℕ → MonitorState → MonitorState
advanced rows k m =
    monitor_moved m (run_from m.program m.state
    (rows_between rows (monitor_clock m) (monitor_clock m + k)))

-- A worker: the monitor in its hand, by its number, and its done list.
pub record WorkerState : Type 0 where
  pub hand : Option ℕ
  pub done : List ℕ

-- A published batch: its monitor, its clocks from the first up to the end, what was decided there.
pub record BatchState : Type 0 where
  pub monitor : ℕ
  pub first : ℕ
  pub end : ℕ
  pub decided : List Decided

-- A state: the window from the first clock up to the end, the job's monitors in source order, the
-- list of those that wait, front first, each worker's hand and done list, and the published
-- batches. The lists name monitors by their numbers.
pub record CoreState : Type 0 where
  pub first : ℕ
  pub end : ℕ
  pub monitors : List MonitorState
  pub waiting : List ℕ
  pub workers : List WorkerState
  pub board : List BatchState

-- what a monitor has published, in the order in which it did
abbrev pub published_by : List BatchState → ℕ → List Decided
published_by board number =
    flat_map (λ b. if b.monitor == number then b.decided else []) board

-- the numbers of a worker's monitors: that of the one in its hand, and those of its done list
abbrev pub numbers_of : WorkerState → List ℕ
numbers_of w = option_to_list w.hand ++ w.done

-- the numbers of all monitors, where they stand: those that wait, then those of the workers
abbrev pub monitor_numbers : CoreState → List ℕ
monitor_numbers s = s.waiting ++ flat_map numbers_of s.workers

-- how often a number stands in a list
abbrev pub times_in : ℕ → List ℕ → ℕ
times_in number numbers = count_by (λ x. x == number) numbers

-- The number of each monitor stands once among those that wait, in the workers' hands and in their
-- done lists, and no other number does.
pub record EachStandsOnce (s : CoreState) : Type 0 where
  pub once : (i : ℕ) → i < length s.monitors → times_in i (monitor_numbers s) ≡ 1
  pub other : (i : ℕ) → length s.monitors ≤ i → times_in i (monitor_numbers s) ≡ 0

-- What doesn't change: the number of the trace's clocks, the core's window size, and the trace's
-- rows of a program's signals.
pub record Setting : Type 0 where
  pub clocks : ℕ
  pub size : ℕ
  pub rows : ProgramData → List (List ℕ)

abbrev pub holds_none : Option ℕ → Bool
holds_none None = true
holds_none (Some i) = false

abbrev pub is_none : List ℕ → Bool
is_none [] = true
is_none (i ∷ is) = false

-- its hand is empty
abbrev pub is_free : WorkerState → Bool
is_free w = holds_none w.hand

-- it has no monitor
abbrev pub is_idle : WorkerState → Bool
is_idle w = holds_none w.hand && is_none w.done

abbrev pub is_at : ℕ → MonitorState → Bool
is_at t m = monitor_clock m == t

-- all monitors wait at the window's end, and clocks remain
abbrev pub may_slide : Setting → CoreState → Bool
may_slide g s =
    list_all is_idle s.workers && list_all (is_at s.end) s.monitors && nat_lt s.end g.clocks

abbrev pub next_slide : Setting → CoreState → Option CoreState
next_slide g s = if may_slide g s then Some (record {
  first = s.end;
  end = min g.clocks (s.end + g.size);
  monitors = s.monitors;
  waiting = s.waiting;
  workers = s.workers;
  board = s.board;
}) else None

-- what a worker holds, if it is there
abbrev pub hand_of : Option WorkerState → Option ℕ
hand_of None = None
hand_of (Some w) = w.hand

abbrev pub held : List WorkerState → ℕ → Option ℕ
held ws w = hand_of (slice_get ws w)

-- the monitor of a number stands below a clock
abbrev pub is_below : ℕ → Option MonitorState → Bool
is_below t None = false
is_below t (Some m) = nat_lt (monitor_clock m) t

abbrev pub front_below : ℕ → List MonitorState → List ℕ → Bool
front_below t ms [] = false
front_below t ms (i ∷ rest) = is_below t (slice_get ms i)

abbrev pub is_free_one : Option WorkerState → Bool
is_free_one None = false
is_free_one (Some w) = is_free w

abbrev pub done_of : Option WorkerState → List ℕ
done_of None = []
done_of (Some w) = w.done

-- w's hand is empty, and the front one waits below the window's end
abbrev pub may_claim : CoreState → ℕ → Bool
may_claim s w =
    is_free_one (slice_get s.workers w) && front_below s.end s.monitors s.waiting

-- the front one goes into w's hand
abbrev pub next_claim : CoreState → ℕ → Option CoreState
next_claim s w = if may_claim s w then Some (record {
  first = s.first;
  end = s.end;
  monitors = s.monitors;
  waiting = drop 1 s.waiting;
  workers = slice_set s.workers w
      (record { hand = slice_get s.waiting 0; done = done_of (slice_get s.workers w) });
  board = s.board;
}) else None

-- another state of a monitor
abbrev pub with_monitor : CoreState → ℕ → MonitorState → CoreState
with_monitor s i m = record {
  first = s.first;
  end = s.end;
  monitors = slice_set s.monitors i m;
  waiting = s.waiting;
  workers = s.workers;
  board = s.board;
}

-- w holds one, k is at least 1, and k clocks are left in the window: k clocks
abbrev pub advance_one : Setting → CoreState → ℕ → ℕ → Option MonitorState → Option CoreState
advance_one g s k i None = None
advance_one g s k i (Some m) =
    if nat_le 1 k && nat_le k (s.end - monitor_clock m)
    then Some (with_monitor s i (advanced (g.rows m.program) k m)) else None

abbrev pub advance_by : Setting → CoreState → ℕ → Option ℕ → Option CoreState
advance_by g s k None = None
advance_by g s k (Some i) = advance_one g s k i (slice_get s.monitors i)

abbrev pub next_advance : Setting → CoreState → ℕ → ℕ → Option CoreState
next_advance g s w k = advance_by g s k (held s.workers w)

-- the monitor with nothing decided since its place
abbrev pub monitor_cleared : MonitorState → MonitorState
monitor_cleared m = record {
  program = m.program;
  state = m.state;
  since = monitor_clock m;
  decided = [];
}

-- what was decided since its last batch
abbrev pub batch : ℕ → MonitorState → BatchState
batch i m = record { monitor = i; first = m.since; end = monitor_clock m; decided = m.decided }

-- w's monitor is at the window's end: its batch goes onto the board, it into w's done list
abbrev pub publish_one : CoreState → ℕ → ℕ → Option MonitorState → Option CoreState
publish_one s w i None = None
publish_one s w i (Some m) = if monitor_clock m == s.end then Some (record {
  first = s.first;
  end = s.end;
  monitors = slice_set s.monitors i (monitor_cleared m);
  waiting = s.waiting;
  workers = slice_set s.workers w
      (record { hand = None; done = done_of (slice_get s.workers w) ++ i ∷ [] });
  board = s.board ++ batch i m ∷ [];
}) else None

abbrev pub publish_by : CoreState → ℕ → Option ℕ → Option CoreState
publish_by s w None = None
publish_by s w (Some i) = publish_one s w i (slice_get s.monitors i)

abbrev pub next_publish : CoreState → ℕ → Option CoreState
next_publish s w = publish_by s w (held s.workers w)

-- a number at its place among numbers in order
abbrev pub put : ℕ → List ℕ → List ℕ
put i [] = i ∷ []
put i (x ∷ xs) = if nat_lt i x then i ∷ x ∷ xs else x ∷ put i xs

abbrev pub put_each : List ℕ → List ℕ → List ℕ
put_each [] xs = xs
put_each (i ∷ is) xs = put_each is (put i xs)

-- the numbers of all done lists, in source order
abbrev pub put_done : List WorkerState → List ℕ → List ℕ
put_done [] xs = xs
put_done (w ∷ ws) xs = put_done ws (put_each w.done xs)

abbrev pub emptied : WorkerState → WorkerState
emptied w = record { hand = w.hand; done = [] }

-- nothing waits, all hands are empty: done lists back to waiting, in source order
abbrev pub next_gather : CoreState → Option CoreState
next_gather s = if is_none s.waiting && list_all is_free s.workers then Some (record {
  first = s.first;
  end = s.end;
  monitors = s.monitors;
  waiting = put_done s.workers [];
  workers = map emptied s.workers;
  board = s.board;
}) else None

-- the state after a step, where the step is allowed
abbrev pub next : Setting → CoreState → Step → Option CoreState
next g s steps.Slide = next_slide g s
next g s (steps.Claim w) = next_claim s w
next g s (steps.Advance w k) = next_advance g s w k
next g s (steps.Publish w) = next_publish s w
next g s steps.Gather = next_gather s

-- What a reply says of the state, which has this next one: done, it is the next; refused, there was
-- none, and for want of memory there was one, and nothing changed.
abbrev pub Replies : CoreState → Option CoreState → CoreState → Reply → Type 0
Replies old after new replies.Done = after ≡ Some new
Replies old after new replies.Refused = (after ≡ None) × (new ≡ old)
Replies old after new replies.Memory = (is_some after ≡ true) × (new ≡ old)
