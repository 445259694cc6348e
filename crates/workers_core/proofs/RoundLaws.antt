-- The steps of a round of a core of one worker.
use Rattle.std.proofs.Common.{
  ◌≡◌,
  ℕ,
  zero,
  suc,
  ◌+◌,
  ◌-◌,
  ◌<◌,
  ◌≤◌,
  List,
  [],
  ◌∷◌,
  ◌++◌,
  length,
  map,
  Option,
  Some,
  None,
  Bool,
  true,
  false,
  cond,
  refl,
  sym,
  ap,
  ◌∙◌,
  subst,
  arith,
}
use Rattle.std.specs.Prelude.{slice_get, slice_set, ◌&&◌, ◌==◌, nat_lt, min, is_some}
use Rattle.std.specs.List.{list_all, range_with_len}
use Rattle.std.proofs.lemmas.List.{length-set, length-map}
use Rattle.std.proofs.lemmas.Option.{slice_get_within}
use Rattle.vcd_reader.specs.Dump.{Contents}
use Rattle.cycle_window.specs.Ticks.{ticks_of, row_of}
use Rattle.machine_checked.specs.Outcomes.{Ran, done}
use Rattle.machine_checked.specs.Machine.{Outcome}
use Rattle.machine_checked.specs.Runs.{run_from}
use Rattle.machine_batches.specs.Batches.{rows_between}
use Rattle.bytecode_programs.specs.Values.{ProgramData}
use Rattle.workers_core.specs.States.{
  CoreState,
  WorkerState,
  MonitorState,
  Setting,
  monitor_clock,
  is_at,
  is_idle,
  is_free,
  is_free_one,
  is_none,
  is_below,
  held,
  done_of,
  monitor_cleared,
  batch,
  advanced,
  monitor_moved,
  with_monitor,
  put,
  put_each,
  put_done,
  emptied,
  next_slide,
  next_claim,
  next_advance,
  next_publish,
  next_gather,
}
use Rattle.workers_core.proofs.CorePartLaws.{claimed, advancing, publishing}
use Rattle.workers_core.specs.Jobs.{sampled}
use Rattle.workers_core.specs.Values.{JobValue, CoreValue, rows_over, setting_of}
use Rattle.workers_core.specs.Following.{FollowsMachine}
use Rattle.workers_core.proofs.RoundRunLaws.{accepted-on, length-between}
use Rattle.workers_core.specs.Rounds.{one_worker, StandsAtClock, IsResting, IsAmid, IsSameWindow}

-- there is a next state, and this holds of it
pub record Comes (after : Option CoreState) (P : CoreState → Type 0) : Type 0 where
  pub next : CoreState
  pub is : after ≡ Some next
  pub holds : P next

pub allowed : {P : CoreState → Type 0} (after : Option CoreState) → Comes after P
    → is_some after ≡ true
allowed after h = ap is_some h.is

pub reached : {P : CoreState → Type 0} (after : Option CoreState) (s : CoreState) → Comes after P
    → after ≡ Some s → P s
reached {P = P} after s h is =
    let same : h.next ≡ s = cc (h.is, is) in
    subst P same h.holds

-- numbers in order
range-front : (j n : ℕ) → j < n
    → range_with_len j (n - j) ≡ j ∷ range_with_len (j + 1) (n - (j + 1))
range-front j n lt =
    let e : n - j ≡ suc (n - (j + 1)) = omega arith in
    ap (range_with_len j) e

range-none : (n : ℕ) → range_with_len n (n - n) ≡ []
range-none n =
    let e : n - n ≡ 0 = omega arith in
    ap (range_with_len n) e

range-more : (a n : ℕ) → range_with_len a (suc n) ≡ range_with_len a n ++ (a + n) ∷ []
range-more a zero =
    let e : a ≡ a + 0 = omega arith in
    ap (λ (k : ℕ). k ∷ []) e
range-more a (suc n) =
    let e : (a + 1) + n ≡ a + suc n = omega arith in
    ap (λ (xs : List ℕ). a ∷ xs)
    (range-more (a + 1) n ∙ ap (λ (k : ℕ). range_with_len (a + 1) n ++ k ∷ []) e)

range-next : (j : ℕ) → range_with_len 0 j ++ j ∷ [] ≡ range_with_len 0 (j + 1)
range-next j =
    let e : 0 + j ≡ j = omega arith in
    let f : suc j ≡ j + 1 = omega arith in
    ap (λ (k : ℕ). range_with_len 0 j ++ k ∷ []) (sym e) ∙ sym (range-more 0 j)
    ∙ ap (range_with_len 0) f

-- a number after smaller ones
put-behind : (a n i : ℕ) → a + n ≤ i → put i (range_with_len a n) ≡ range_with_len a n ++ i ∷ []
put-behind a zero i le = refl
put-behind a (suc n) i le =
    let no : nat_lt i a ≡ false = grind (arith, le) in
    ap (λ (b : Bool).
    cond b (i ∷ a ∷ range_with_len (a + 1) n) (a ∷ put i (range_with_len (a + 1) n))) no
    ∙ ap (λ (xs : List ℕ). a ∷ xs) (put-behind (a + 1) n i (omega (arith, le)))

puts-range : (n k : ℕ)
    → put_each (range_with_len n k) (range_with_len 0 n) ≡ range_with_len 0 (n + k)
puts-range n zero =
    let e : n ≡ n + 0 = omega arith in
    ap (range_with_len 0) e
puts-range n (suc k) =
    let e : (n + 1) + k ≡ n + suc k = omega arith in
    ap (put_each (range_with_len (n + 1) k)) (put-behind 0 n n (omega arith) ∙ range-next n)
    ∙ puts-range (n + 1) k ∙ ap (range_with_len 0) e

puts-all : (n : ℕ) → put_each (range_with_len 0 n) [] ≡ range_with_len 0 n
puts-all n =
    let e : 0 + n ≡ n = omega arith in
    puts-range 0 n ∙ ap (range_with_len 0) e

-- all monitors stand at a clock
all-at : (t : ℕ) (ms : List MonitorState)
    → ((i : ℕ) (m : MonitorState) → slice_get ms i ≡ Some m → StandsAtClock t m)
    → list_all (is_at t) ms ≡ true
all-at t [] h = refl
all-at t (m ∷ ms) h =
    let here : monitor_clock m ≡ t = (h 0 m refl).at in
    let one : (monitor_clock m == t) ≡ true = grind (arith, here) in
    ap (λ (b : Bool). b && list_all (is_at t) ms) one ∙ all-at t ms (λ i x is. h (suc i) x is)

-- something stands below the length
pub record There (ms : List MonitorState) (i : ℕ) : Type 0 where
  pub monitor : MonitorState
  pub is : slice_get ms i ≡ Some monitor

pub there : (ms : List MonitorState) (i : ℕ) → i < length ms → There ms i
there [] i lt = absurd (omega (arith, lt))
there (m ∷ ms) zero lt = record { monitor = m; is = refl }
there (m ∷ ms) (suc i) lt =
    let r = there ms i (omega (arith, lt)) in record { monitor = r.monitor; is = r.is }

-- what holds of the others, and of what is written, holds after a write
each-other : (Q : ℕ → MonitorState → Type 0) (ms : List MonitorState) (i : ℕ) (y : MonitorState) →
    ((n : ℕ) (m : MonitorState) → (n ≡ i → ⊥) → slice_get ms n ≡ Some m → Q n m) → Q i y →
    (n : ℕ) (m : MonitorState) → slice_get (slice_set ms i y) n ≡ Some m → Q n m
each-other Q [] i y h k n m e = absurd cc
each-other Q (x ∷ ms) zero y h k zero m e = let same : y ≡ m = cc in subst (Q 0) same k
each-other Q (x ∷ ms) zero y h k (suc n) m e = h (suc n) m (λ no. absurd (omega (arith, no))) e
each-other Q (x ∷ ms) (suc i) y h k zero m e = h 0 m (λ no. absurd (omega (arith, no))) e
each-other Q (x ∷ ms) (suc i) y h k (suc n) m e =
    each-other (λ j. Q (suc j)) ms i y (λ j x ne. h (suc j) x (λ is. ne (omega (arith, is)))) k n m
    e

written : (ms : List MonitorState) (i : ℕ) (m y : MonitorState) → slice_get ms i ≡ Some m
    → slice_get (slice_set ms i y) i ≡ Some y
written [] i m y is = absurd cc
written (x ∷ ms) zero m y is = refl
written (x ∷ ms) (suc i) m y is = written ms i m y is

-- The next monitor is in the worker's hand.
pub record IsClaimed (count clocks behind : ℕ) (s : CoreState) : Type 0 where
  pub many : length s.monitors ≡ count
  pub some : s.first < s.end
  pub inside : s.end ≤ clocks
  pub few : behind < count
  pub waiting : s.waiting ≡ range_with_len (behind + 1) (count - (behind + 1))
  pub workers : s.workers ≡ one_worker (Some behind) (range_with_len 0 behind)
  pub front : (i : ℕ) (m : MonitorState) → slice_get s.monitors i ≡ Some m → i < behind
      → StandsAtClock s.end m
  pub rest : (i : ℕ) (m : MonitorState) → slice_get s.monitors i ≡ Some m → behind ≤ i
      → StandsAtClock s.first m

-- It is in the worker's hand, and stands at the window's end.
pub record IsThrough (count clocks behind : ℕ) (s : CoreState) : Type 0 where
  pub many : length s.monitors ≡ count
  pub some : s.first < s.end
  pub inside : s.end ≤ clocks
  pub few : behind < count
  pub waiting : s.waiting ≡ range_with_len (behind + 1) (count - (behind + 1))
  pub workers : s.workers ≡ one_worker (Some behind) (range_with_len 0 behind)
  pub monitor : MonitorState
  pub held : slice_get s.monitors behind ≡ Some monitor
  pub at : monitor_clock monitor ≡ s.end
  pub front : (i : ℕ) (m : MonitorState) → slice_get s.monitors i ≡ Some m → i < behind
      → StandsAtClock s.end m
  pub rest : (i : ℕ) (m : MonitorState) → slice_get s.monitors i ≡ Some m → behind < i
      → StandsAtClock s.first m

module _ (g : Setting) (count : ℕ) where
  -- a round opens
  pub slides : (s : CoreState) → IsResting count g.clocks s → s.end < g.clocks → 1 ≤ g.size →
      Comes (next_slide g s) (λ t. IsAmid count g.clocks 0 t × (s.end < t.end))
  slides s h more some =
      let idle : list_all is_idle s.workers ≡ true = ap (list_all is_idle) h.workers in
      let at : list_all (is_at s.end) s.monitors ≡ true = all-at s.end s.monitors h.monitors in
      let left : nat_lt s.end g.clocks ≡ true = grind (arith, more) in
      let next : CoreState =
      record {
        first = s.end;
        end = min g.clocks (s.end + g.size);
        monitors = s.monitors;
        waiting = s.waiting;
        workers = s.workers;
        board = s.board;
      } in
      let further : s.end < min g.clocks (s.end + g.size) = omega arith in
      let e : count - 0 ≡ count = omega arith in
      record {
        next = next;
        is =
            ap (λ (b : Bool).
            cond (b && list_all (is_at s.end) s.monitors && nat_lt s.end g.clocks) (Some next)
            None) idle
            ∙ ap (λ (b : Bool). cond (b && nat_lt s.end g.clocks) (Some next) None) at
            ∙ ap (λ (b : Bool). cond b (Some next) None) left;
        holds = (
          record {
            many = h.many;
            some = further;
            inside = omega arith;
            few = omega arith;
            waiting = h.waiting ∙ ap (range_with_len 0) (sym e);
            workers = h.workers;
            front = λ i m is lt. absurd (omega (arith, lt));
            rest = λ i m is le. h.monitors i m is;
          },
          further,
        );
      }

  -- the round ends
  pub gathers : (s : CoreState) → IsAmid count g.clocks count s
      → Comes (next_gather s) (λ t. IsResting count g.clocks t × IsSameWindow s t)
  gathers s h =
      let nothing : s.waiting ≡ [] = h.waiting ∙ range-none count in
      let empty : is_none s.waiting ≡ true = ap is_none nothing in
      let free : list_all is_free s.workers ≡ true = ap (list_all is_free) h.workers in
      let next : CoreState =
      record {
        first = s.first;
        end = s.end;
        monitors = s.monitors;
        waiting = put_done s.workers [];
        workers = map emptied s.workers;
        board = s.board;
      } in
      record {
        next = next;
        is = ap (λ (b : Bool). cond (b && list_all is_free s.workers) (Some next) None) empty
            ∙ ap (λ (b : Bool). cond b (Some next) None) free;
        holds = (
          record {
            many = h.many;
            inside = h.inside;
            waiting = ap (λ (ws : List WorkerState). put_done ws []) h.workers ∙ puts-all count;
            workers = ap (map emptied) h.workers;
            monitors = λ i m is.
                h.front i m is (omega (arith, slice_get_within s.monitors i m is, h.many));
          },
          record { first = refl; end = refl },
        );
      }

  -- the next monitor goes into the worker's hand
  pub claims : (s : CoreState) (behind : ℕ) → behind < count → IsAmid count g.clocks behind s →
      Comes (next_claim s 0) (λ t. IsClaimed count g.clocks behind t × IsSameWindow s t)
  claims s behind lt h =
      let one = there s.monitors behind (omega (arith, h.many, lt)) in
      let here : monitor_clock one.monitor ≡ s.first =
      (h.rest behind one.monitor one.is (omega arith)).at in
      let less : nat_lt (monitor_clock one.monitor) s.end ≡ true = grind (arith, here, h.some) in
      let below : is_below s.end (slice_get s.monitors behind) ≡ true =
      ap (is_below s.end) one.is ∙ less in
      let free : is_free_one (slice_get s.workers 0) ≡ true =
      ap (λ (ws : List WorkerState). is_free_one (slice_get ws 0)) h.workers in
      let taken : List WorkerState → List WorkerState = λ ws.
      slice_set ws 0 (record { hand = Some behind; done = done_of (slice_get ws 0) }) in
      let rest = range_with_len (behind + 1) (count - (behind + 1)) in
      record {
        next =
            record {
              first = s.first;
              end = s.end;
              monitors = s.monitors;
              waiting = rest;
              workers = taken s.workers;
              board = s.board;
            };
        is = claimed s 0 behind rest (taken s.workers) (h.waiting ∙ range-front behind count lt)
            free below refl;
        holds = (
          record {
            many = h.many;
            some = h.some;
            inside = h.inside;
            few = lt;
            waiting = refl;
            workers = ap taken h.workers;
            front = h.front;
            rest = h.rest;
          },
          record { first = refl; end = refl },
        );
      }

  -- its batch is published, and it goes into the done list
  pub publishes : (s : CoreState) (behind : ℕ) → IsThrough count g.clocks behind s →
      Comes (next_publish s 0) (λ t. IsAmid count g.clocks (behind + 1) t × IsSameWindow s t)
  publishes s behind h =
      let m = h.monitor in
      let down : List WorkerState → List WorkerState = λ ws.
      slice_set ws 0 (record { hand = None; done = done_of (slice_get ws 0) ++ behind ∷ [] }) in
      let hand : held s.workers 0 ≡ Some behind =
      ap (λ (ws : List WorkerState). held ws 0) h.workers in
      let quiet : StandsAtClock s.end (monitor_cleared m) = record { at = h.at; told = refl } in
      record {
        next =
            record {
              first = s.first;
              end = s.end;
              monitors = slice_set s.monitors behind (monitor_cleared m);
              waiting = s.waiting;
              workers = down s.workers;
              board = s.board ++ batch behind m ∷ [];
            };
        is = publishing s 0 behind m hand h.held h.at;
        holds = (
          record {
            many = length-set s.monitors behind (monitor_cleared m) ∙ h.many;
            some = h.some;
            inside = h.inside;
            few = omega (arith, h.few);
            waiting = h.waiting;
            workers = ap down h.workers ∙ ap (one_worker None) (range-next behind);
            front = λ i x is lt.
                each-other (λ n y. n < behind + 1 → StandsAtClock s.end y) s.monitors behind (monitor_cleared m)
                (λ n y ne e le. h.front n y e (omega (arith, ne, le))) (λ le. quiet) i x is lt;
            rest = λ i x is le.
                each-other (λ n y. behind + 1 ≤ n → StandsAtClock s.first y) s.monitors behind (monitor_cleared m)
                (λ n y ne e more. h.rest n y e (omega (arith, more)))
                (λ more. absurd (omega (arith, more))) i x is le;
          },
          record { first = refl; end = refl },
        );
      }

-- there is a row for each tick
pub many-rows : (j : JobValue) (c : Contents) (p : ProgramData) → j.ticks ≡ ticks_of c j.code
    → length (rows_over j c p) ≡ length j.ticks
many-rows j c p ticks =
    length-map (ticks_of c j.code) (row_of c (sampled c.variables p)) ∙ sym (ap length ticks)

-- a monitor after a run without a trap
moved-to : (m : MonitorState) (r : Ran Outcome) (o : Outcome) (to : ℕ) → r ≡ done o 0
    → o.state.standing.now ≡ to → monitor_clock (monitor_moved m r) ≡ to
moved-to m r o to is at = ap (λ (x : Ran Outcome). monitor_clock (monitor_moved m x)) is ∙ at

-- the monitor in the hand runs to the window's end
pub advances : (v : CoreValue) (c : Contents) (count behind k : ℕ) →
    v.job.ticks ≡ ticks_of c v.job.code → FollowsMachine v c →
    IsClaimed count (length v.job.ticks) behind v.state → v.state.first + k ≡ v.state.end →
    Comes (next_advance (setting_of v c) v.state 0 k)
    (λ t. IsThrough count (length v.job.ticks) behind t × IsSameWindow v.state t)
advances v c count behind k ticks f h all =
    let s = v.state in
    let one = there s.monitors behind (omega (arith, h.many, h.few)) in
    let m = one.monitor in
    let rows = rows_over v.job c m.program in
    let here : monitor_clock m ≡ s.first = (h.rest behind m one.is (omega arith)).at in
    let long : length rows ≡ length v.job.ticks = many-rows v.job c m.program ticks in
    let r =
    accepted-on m.program (f.accepted behind m one.is) rows (monitor_clock m) (monitor_clock m + k) m.state
    (omega arith) (f.monitors behind m one.is) in
    let between : length (rows_between rows (monitor_clock m) (monitor_clock m + k))
    ≡ (monitor_clock m + k) - monitor_clock m =
    length-between rows (monitor_clock m) (monitor_clock m + k) (omega arith)
    (omega (arith, here, all, h.inside, long)) in
    let new : MonitorState = advanced rows k m in
    let at : monitor_clock new ≡ s.end =
    moved-to m (run_from m.program m.state (rows_between rows (monitor_clock m) (monitor_clock m + k))) r.outcome
    s.end r.ran (omega (arith, r.now, between, here, all)) in
    let hand : held s.workers 0 ≡ Some behind =
    ap (λ (ws : List WorkerState). held ws 0) h.workers in
    record {
      next = with_monitor s behind new;
      is = advancing (setting_of v c) s 0 k behind m hand one.is (omega (arith, all, h.some))
          (omega (arith, all, here));
      holds = (
        record {
          many = length-set s.monitors behind new ∙ h.many;
          some = h.some;
          inside = h.inside;
          few = h.few;
          waiting = h.waiting;
          workers = h.workers;
          monitor = new;
          held = written s.monitors behind m new one.is;
          at = at;
          front = λ i x is lt.
              each-other (λ n y. n < behind → StandsAtClock s.end y) s.monitors behind new
              (λ n y ne e less. h.front n y e less) (λ less. absurd (omega (arith, less))) i x is
              lt;
          rest = λ i x is lt.
              each-other (λ n y. behind < n → StandsAtClock s.first y) s.monitors behind new
              (λ n y ne e more. h.rest n y e (omega (arith, more)))
              (λ more. absurd (omega (arith, more))) i x is lt;
        },
        record { first = refl; end = refl },
      );
    }
