-- States of a core by its parts.
use Rattle.std.proofs.Common.{
  ◌≡◌,
  ℕ,
  zero,
  suc,
  ◌+◌,
  ◌<◌,
  ◌≤◌,
  List,
  [],
  ◌∷◌,
  ◌++◌,
  length,
  drop,
  take,
  map,
  Option,
  Some,
  None,
  Bool,
  true,
  false,
  cond,
  refl,
  sym,
  ap,
  ◌∙◌,
  subst,
  arith,
}
use Rattle.std.specs.Prelude.{
  slice_get,
  slice_set,
  slice_index_or,
  ◌&&◌,
  ◌==◌,
  nat_le,
  Result,
  Ok,
  Err,
  OnOk,
  OnErr,
}
use Rattle.std.specs.Result.{is_err}
use Rattle.std.proofs.Common.{◌-◌}
use Rattle.std.specs.List.{list_all}
use Rattle.workers_core.specs.Standing.{monitor_state}
use Rattle.std.proofs.Math.Seq.{take-append_seam}
use Rattle.std.proofs.lemmas.List.{map-set, length-map}
use Rattle.std.proofs.Math.ListN.{get_or-map}
use Rattle.workers_core.specs.declared.monitor.Monitor.{Monitor}
use Rattle.workers_core.specs.declared.worker.Worker.{Worker}
use Rattle.workers_core.specs.States.{
  CoreState,
  WorkerState,
  MonitorState,
  Setting,
  is_free_one,
  is_below,
  front_below,
  done_of,
  next_claim,
  held,
  is_at,
  monitor_clock,
  emptied,
  advanced,
  with_monitor,
  advance_by,
  advance_one,
  next_advance,
  BatchState,
  monitor_cleared,
  batch,
  publish_by,
  publish_one,
  next_publish,
}
use Rattle.machine.specs.Running.{Running}
use Rattle.signals.specs.declared.verdict.Decided.{Decided}
use Rattle.vcd_reader.specs.Dump.{Contents}
use Rattle.cycle_window.specs.declared.window.Window.{Window}
use Rattle.cycle_window.specs.Ticks.{ticks_of, row_of}
use Rattle.cycle_window.specs.Held.{columns_in, places_in, clock_in}
use Rattle.machine_batches.specs.declared.batch.Batch.{Batch}
use Rattle.workers_core.specs.Standing.{seen, MonitorStands, IsSame, IsUnmoved, IsCleared}
use Rattle.workers_core.specs.Parts.{
  worker_state,
  batch_state,
  EachStands,
  EachIsRight,
  EachIsKnown,
  IsRight,
}
use Rattle.workers_core.specs.Opening.{MonitorPart, monitor_part}
use Rattle.bytecode_programs.specs.Values.{ProgramData}
use Rattle.std.proofs.lemmas.List.{length-set}
use Rattle.workers_core.proofs.PlaceLaws.{same-part, unmoved-same, right-same, stands-unmoved}
use Rattle.machine_batches.specs.Batches.{HasCome, batch_of, decided_in}
use Rattle.machine_batches.proofs.JoinLaws.{come-anew}

-- what holds of each place of a list holds after a write
pub each-set : {A : Type 0} (Q : ℕ → A → Type 0) (xs : List A) (i : ℕ) (y : A) →
    ((j : ℕ) (x : A) → slice_get xs j ≡ Some x → Q j x) → Q i y →
    (j : ℕ) (x : A) → slice_get (slice_set xs i y) j ≡ Some x → Q j x
each-set Q [] i y h k j x e = h j x e
each-set Q (z ∷ xs) zero y h k zero x e = let same : y ≡ x = cc in subst (Q 0) same k
each-set Q (z ∷ xs) zero y h k (suc j) x e = h (suc j) x e
each-set Q (z ∷ xs) (suc i) y h k zero x e = h 0 x e
each-set Q (z ∷ xs) (suc i) y h k (suc j) x e =
    each-set (λ n. Q (suc n)) xs i y (λ n. h (suc n)) k j x e

pub head-first : {A : Type 0} (xs : List A) (d : A) → 0 < length xs
    → xs ≡ slice_index_or xs 0 d ∷ drop 1 xs
head-first [] d h = absurd (omega (arith, h))
head-first (x ∷ xs) d h = refl

-- a worker with an empty hand
pub done-is : (ws : List Worker) (w : ℕ) (d : Worker)
    → is_free_one (slice_get (map worker_state ws) w) ≡ true
    → (slice_index_or ws w d).done.items ≡ done_of (slice_get (map worker_state ws) w)
done-is [] w d h = absurd cc
done-is (x ∷ ws) zero d h = refl
done-is (x ∷ ws) (suc w) d h = done-is ws w d h

pub claimed : (s : CoreState) (w i : ℕ) (rest : List ℕ) (ws : List WorkerState) →
    s.waiting ≡ i ∷ rest → is_free_one (slice_get s.workers w) ≡ true →
    is_below s.end (slice_get s.monitors i) ≡ true →
    ws ≡ slice_set s.workers w
    (record { hand = Some i; done = done_of (slice_get s.workers w) }) →
    next_claim s w
    ≡ Some (record {
      first = s.first;
      end = s.end;
      monitors = s.monitors;
      waiting = rest;
      workers = ws;
      board = s.board;
    })
claimed s w i rest ws wait free below is =
    let front : front_below s.end s.monitors s.waiting ≡ true =
    ap (front_below s.end s.monitors) wait ∙ below in
    let may : (is_free_one (slice_get s.workers w) && front_below s.end s.monitors s.waiting)
    ≡ true =
    ap (λ (b : Bool). b && front_below s.end s.monitors s.waiting) free ∙ front in
    let some : List ℕ → Option CoreState = λ waiting. Some (record {
      first = s.first;
      end = s.end;
      monitors = s.monitors;
      waiting = drop 1 waiting;
      workers = slice_set s.workers w
          (record { hand = slice_get waiting 0; done = done_of (slice_get s.workers w) });
      board = s.board;
    }) in
    let last : List WorkerState → Option CoreState = λ ws.
    Some (record {
      first = s.first;
      end = s.end;
      monitors = s.monitors;
      waiting = rest;
      workers = ws;
      board = s.board;
    }) in
    ap (λ (b : Bool). cond b (some s.waiting) None) may ∙ ap some wait ∙ ap last (sym is)

first-true : (a b : Bool) → (a && b) ≡ true → a ≡ true
first-true true b h = refl
first-true false b h = absurd cc

second-true : (a b : Bool) → (a && b) ≡ true → b ≡ true
second-true true b h = h
second-true false b h = absurd cc

pub at-each : (t : ℕ) (ms : List Monitor) (i : ℕ) (m : Monitor)
    → list_all (is_at t) (map monitor_state ms) ≡ true → slice_get ms i ≡ Some m
    → m.machine.state.standing.now ≡ t
at-each t [] i m h is = absurd cc
at-each t (x ∷ ms) zero m h is =
    let same : x ≡ m = cc in
    let here : (x.machine.state.standing.now == t) ≡ true =
    first-true (x.machine.state.standing.now == t) (list_all (is_at t) (map monitor_state ms))
    h in
    subst (λ (y : Monitor). y.machine.state.standing.now ≡ t) same (grind (arith, here))
at-each t (x ∷ ms) (suc i) m h is =
    at-each t ms i m
    (second-true (x.machine.state.standing.now == t) (list_all (is_at t) (map monitor_state ms))
    h) is

-- one more is emptied
pub empty-step : (e : WorkerState → WorkerState) (S : List WorkerState) (i : ℕ) (d : WorkerState) →
    i < length S →
    slice_set (map e (take i S) ++ drop i S) i
    (e (slice_index_or (map e (take i S) ++ drop i S) i d))
    ≡ map e (take (i + 1) S) ++ drop (i + 1) S
empty-step e [] i d h = absurd (omega (arith, h))
empty-step e (x ∷ S) zero d h = refl
empty-step e (x ∷ S) (suc i) d h =
    let next : suc (i + 1) ≡ suc i + 1 = omega arith in
    ap (λ (ws : List WorkerState). e x ∷ ws) (empty-step e S i d (omega (arith, h)))
    ∙ ap (λ (n : ℕ). map e (take n (x ∷ S)) ++ drop n (x ∷ S)) next

empty-one : (a b : WorkerState) → a.hand ≡ b.hand → a.done ≡ [] → a ≡ emptied b
empty-one a b h k =
    ap (λ (o : Option ℕ). record { hand = o; done = a.done }) h
    ∙ ap (λ (ds : List ℕ). record { hand = b.hand; done = ds }) k

pub emptied-more : (ws old : List Worker) (i : ℕ) (d r : Worker) →
    map worker_state ws
    ≡ map emptied (take i (map worker_state old)) ++ drop i (map worker_state old) →
    i < length old → r.hand ≡ (slice_index_or ws i d).hand → r.done.items ≡ [] →
    map worker_state (slice_set ws i r)
    ≡ map emptied (take (i + 1) (map worker_state old)) ++ drop (i + 1) (map worker_state old)
emptied-more ws old i d r same below hand none =
    let S = map worker_state old in
    let long : length S ≡ length old = length-map old worker_state in
    let one = empty-one (worker_state r) (worker_state (slice_index_or ws i d)) hand none in
    map-set worker_state ws i r
    ∙ ap (slice_set (map worker_state ws) i)
    (one ∙ ap emptied (sym (get_or-map worker_state ws i d)))
    ∙ ap (λ (M : List WorkerState). slice_set M i (emptied (slice_index_or M i (worker_state d))))
    same
    ∙ empty-step emptied S i (worker_state d) (omega (arith, below, long))

pub get-some : {A : Type 0} (xs : List A) (i : ℕ) (d : A) → i < length xs
    → slice_get xs i ≡ Some (slice_index_or xs i d)
get-some [] i d h = absurd (omega (arith, h))
get-some (x ∷ xs) zero d h = refl
get-some (x ∷ xs) (suc i) d h = get-some xs i d (omega (arith, h))

pub get-mapped : {A : Type 0} {B : Type 0} (f : A → B) (xs : List A) (i : ℕ) (x : A)
    → slice_get xs i ≡ Some x → slice_get (map f xs) i ≡ Some (f x)
get-mapped f [] i x h = absurd cc
get-mapped f (y ∷ xs) zero x h = let same : y ≡ x = cc in ap (λ z. Some (f z)) same
get-mapped f (y ∷ xs) (suc i) x h = get-mapped f xs i x h

pub set-same : {A : Type 0} {B : Type 0} (f : A → B) (xs : List A) (i : ℕ) (x y : A)
    → slice_get xs i ≡ Some x → f y ≡ f x → map f (slice_set xs i y) ≡ map f xs
set-same f [] i x y h k = refl
set-same f (z ∷ xs) zero x y h k =
    let same : z ≡ x = cc in ap (λ b. b ∷ map f xs) (k ∙ ap f (sym same))
set-same f (z ∷ xs) (suc i) x y h k = ap (λ bs. f z ∷ bs) (set-same f xs i x y h k)

-- a step of a monitor in a hand
pub advancing : (g : Setting) (s : CoreState) (w k i : ℕ) (m : MonitorState) →
    held s.workers w ≡ Some i → slice_get s.monitors i ≡ Some m → 1 ≤ k → k ≤ s.end - monitor_clock m →
    next_advance g s w k ≡ Some (with_monitor s i (advanced (g.rows m.program) k m))
advancing g s w k i m hand at some left =
    let one : nat_le 1 k ≡ true = grind (arith, some) in
    let enough : nat_le k (s.end - monitor_clock m) ≡ true = grind (arith, left) in
    let go = Some (with_monitor s i (advanced (g.rows m.program) k m)) in
    ap (advance_by g s k) hand ∙ ap (advance_one g s k i) at
    ∙ ap (λ (b : Bool). cond (b && nat_le k (s.end - monitor_clock m)) go None) one
    ∙ ap (λ (b : Bool). cond b go None) enough

pub get-any : {A : Type 0} (xs : List A) (i : ℕ) (d e : A) → i < length xs
    → slice_index_or xs i d ≡ slice_index_or xs i e
get-any [] i d e h = absurd (omega (arith, h))
get-any (x ∷ xs) zero d e h = refl
get-any (x ∷ xs) (suc i) d e h = get-any xs i d e (omega (arith, h))

unmoved-state : (m r : Monitor) → IsUnmoved m r → monitor_state r ≡ monitor_state m
unmoved-state m r u =
    let of : Running → ℕ → List Decided → MonitorState = λ machine since decided.
    record {
      program = machine.program;
      state = machine.state;
      since = since;
      decided = decided;
    } in
    ap (λ (x : Running). of x r.since r.decided.items) u.machine
    ∙ ap (λ (n : ℕ). of m.machine n r.decided.items) u.since
    ∙ ap (of m.machine m.since) u.decided

pub advanced-is : (w : Window) (c : Contents) (g : Setting) (m r new : Monitor) (k n : ℕ) →
    IsUnmoved m r → g.rows m.machine.program ≡ seen w c m → n ≡ k →
    advanced (seen w c r) n (monitor_state r) ≡ monitor_state new →
    advanced (g.rows m.machine.program) k (monitor_state m) ≡ monitor_state new
advanced-is w c g m r new k n u see is h =
    let vs = places_in (columns_in w) in
    let rows : seen w c m ≡ seen w c r =
    ap (λ (ps : List ℕ). map (row_of c ps) (ticks_of c (clock_in (columns_in w))))
    (sym (same-part vs m r (unmoved-same m r u))) in
    ap (λ (rs : List (List ℕ)). advanced rs k (monitor_state m)) (see ∙ rows)
    ∙ ap (λ (j : ℕ). advanced (seen w c r) j (monitor_state m)) (sym is)
    ∙ ap (advanced (seen w c r) n) (sym (unmoved-state m r u)) ∙ h

pub stands-set : (w : Window) (ms : List Monitor) (i : ℕ) (new : Monitor) → EachStands w ms
    → MonitorStands w new → EachStands w (slice_set ms i new)
stands-set w ms i new all one = each-set (λ j x. MonitorStands w x) ms i new all one

pub right-set : (w : Window) (ms : List Monitor) (bs : List Batch) (i : ℕ) (old new : Monitor)
    → slice_get ms i ≡ Some old → IsSame old new → EachIsRight w ms bs
    → EachIsRight w (slice_set ms i new) bs
right-set w ms bs i old new at same all n b m is here =
    each-set (λ j x. j ≡ b.monitor → IsRight w x b) ms i new
    (λ j x e je. all n b x is (subst (λ (k : ℕ). slice_get ms k ≡ Some x) je e))
    (λ je. right-same w old new b same
    (all n b old is (subst (λ (k : ℕ). slice_get ms k ≡ Some old) je at)))
    b.monitor m here refl

pub went-on : (s : CoreState) (ms : List Monitor) (i : ℕ) (x : MonitorState) (new : Monitor) →
    s.monitors ≡ map monitor_state ms → x ≡ monitor_state new →
    with_monitor s i x
    ≡ record {
      first = s.first;
      end = s.end;
      monitors = map monitor_state (slice_set ms i new);
      waiting = s.waiting;
      workers = s.workers;
      board = s.board;
    }
went-on s ms i x new are is =
    let of : List MonitorState → CoreState = λ xs.
    record {
      first = s.first;
      end = s.end;
      monitors = xs;
      waiting = s.waiting;
      workers = s.workers;
      board = s.board;
    } in
    ap of (ap (slice_set s.monitors i) is
    ∙ ap (λ (ys : List MonitorState). slice_set ys i (monitor_state new)) are
    ∙ sym (map-set monitor_state ms i new))

pub stayed : (s : CoreState) (ms : List Monitor) (i : ℕ) (m r : Monitor) →
    s.monitors ≡ map monitor_state ms → slice_get ms i ≡ Some m → IsUnmoved m r →
    record {
      first = s.first;
      end = s.end;
      monitors = map monitor_state (slice_set ms i r);
      waiting = s.waiting;
      workers = s.workers;
      board = s.board;
    } ≡ s
stayed s ms i m r are at u =
    let of : List MonitorState → CoreState = λ xs.
    record {
      first = s.first;
      end = s.end;
      monitors = xs;
      waiting = s.waiting;
      workers = s.workers;
      board = s.board;
    } in
    ap of (set-same monitor_state ms i m r at (unmoved-state m r u) ∙ sym are)

pub of-ok : {A E P : Type 0} (r : Result A E) → is_err r ≡ false → OnOk r P → P
of-ok (Ok a) h k = k
of-ok (Err e) h k = absurd cc

pub of-err : {A E P : Type 0} (r : Result A E) → is_err r ≡ true → OnErr r P → P
of-err (Ok a) h k = absurd cc
of-err (Err e) h k = k

pub on-err : {A E P : Type 0} (r : Result A E) → P → OnErr r P
on-err (Ok a) k = tt
on-err (Err e) k = k

-- a publication
abbrev published : CoreState → ℕ → ℕ → MonitorState → CoreState
published s w i m = record {
  first = s.first;
  end = s.end;
  monitors = slice_set s.monitors i (monitor_cleared m);
  waiting = s.waiting;
  workers = slice_set s.workers w
      (record { hand = None; done = done_of (slice_get s.workers w) ++ i ∷ [] });
  board = s.board ++ batch i m ∷ [];
}

pub publishing : (s : CoreState) (w i : ℕ) (m : MonitorState) → held s.workers w ≡ Some i →
    slice_get s.monitors i ≡ Some m → monitor_clock m ≡ s.end →
    next_publish s w ≡ Some (published s w i m)
publishing s w i m hand at here =
    let end : (monitor_clock m == s.end) ≡ true = grind (arith, here) in
    ap (publish_by s w) hand ∙ ap (publish_one s w i) at
    ∙ ap (λ (b : Bool). cond b (Some (published s w i m)) None) end

abbrev parts : CoreState → List MonitorState → List WorkerState → List BatchState → CoreState
parts s ms ws bs =
    record {
      first = s.first;
      end = s.end;
      monitors = ms;
      waiting = s.waiting;
      workers = ws;
      board = bs;
    }

pub same-parts :
    (s : CoreState) (ms ns : List MonitorState) (ws vs : List WorkerState) (bs cs : List BatchState)
    → ms ≡ ns → ws ≡ vs → bs ≡ cs → parts s ms ws bs ≡ parts s ns vs cs
same-parts s ms ns ws vs bs cs h k l =
    ap (λ (x : List MonitorState). parts s x ws bs) h
    ∙ ap (λ (x : List WorkerState). parts s ns x bs) k ∙ ap (parts s ns vs) l

pub cleared-state : (m r : Monitor) → IsCleared m r → monitor_state r ≡ monitor_cleared (monitor_state m)
cleared-state m r u =
    let of : Running → ℕ → List Decided → MonitorState = λ machine since decided.
    record {
      program = machine.program;
      state = machine.state;
      since = since;
      decided = decided;
    } in
    ap (λ (x : Running). of x r.since r.decided.items) u.machine
    ∙ ap (λ (n : ℕ). of m.machine n r.decided.items) u.since
    ∙ ap (of m.machine m.machine.state.standing.now) u.decided

pub cleared-set : (ms : List Monitor) (i : ℕ) (m new : Monitor) → IsCleared m new
    → slice_set (map monitor_state ms) i (monitor_cleared (monitor_state m))
    ≡ map monitor_state (slice_set ms i new)
cleared-set ms i m new u =
    ap (slice_set (map monitor_state ms) i) (sym (cleared-state m new u))
    ∙ sym (map-set monitor_state ms i new)

-- what holds of each place of a list and of one more holds of both
pub each-push : {A : Type 0} (Q : A → Type 0) (xs : List A) (y : A) →
    ((n : ℕ) (x : A) → slice_get xs n ≡ Some x → Q x) → Q y →
    (n : ℕ) (x : A) → slice_get (xs ++ y ∷ []) n ≡ Some x → Q x
each-push Q [] y h k zero x e = let same : y ≡ x = cc in subst Q same k
each-push Q [] y h k (suc n) x e = h n x e
each-push Q (z ∷ xs) y h k zero x e = h 0 x e
each-push Q (z ∷ xs) y h k (suc n) x e = each-push Q xs y (λ m. h (suc m)) k n x e

-- a batch that was taken is right
pub right-taken : (w : Window) (m : Monitor) (i : ℕ) (b : Batch) → MonitorStands w m
    → batch_state b ≡ batch i (monitor_state m) → IsRight w m b
right-taken w m i b h is =
    let first : b.first ≡ m.since = ap (λ (x : BatchState). x.first) is in
    let end : b.end ≡ m.machine.state.standing.now = ap (λ (x : BatchState). x.end) is in
    let decided : b.decided.items ≡ m.decided.items = ap (λ (x : BatchState). x.decided) is in
    record {
      order = omega (arith, first, end, h.lately);
      inside = omega (arith, end, h.high);
      decided = λ c over.
          decided
          ∙ sym (ap decided_in (h.come c over).ran)
          ∙ ap (λ (n : ℕ). batch_of m.machine.program (seen w c m) n m.machine.state.standing.now)
          (sym first)
          ∙ ap (batch_of m.machine.program (seen w c m) b.first) (sym end);
    }

-- with its batch taken, a monitor stands where it stood
pub stands-cleared : (w : Window) (m new : Monitor) → MonitorStands w m → IsCleared m new → MonitorStands w new
stands-cleared w m new h u =
    let vs = places_in (columns_in w) in
    let now = m.machine.state.standing.now in
    let bare : Monitor =
    record {
      machine = m.machine;
      from = m.from;
      to = m.to;
      row = m.row;
      attempts = m.attempts;
      since = now;
      decided = new.decided;
      spare = m.spare;
      wide = m.wide;
    } in
    let same : IsUnmoved bare new =
    record {
      machine = u.machine;
      from = u.from;
      to = u.to;
      attempts = u.attempts;
      since = u.since;
      decided = refl;
    } in
    let stands : MonitorStands w bare = record {
      accepted = h.accepted;
      room = h.room;
      declared = h.declared;
      parted = h.parted;
      inside = h.inside;
      fits = h.fits;
      lately = omega arith;
      low = h.low;
      high = h.high;
      come = λ c over.
          subst (λ (ds : List Decided).
          HasCome m.machine.program (seen w c m) now now ds m.machine.state) (sym u.decided)
          (come-anew m.machine.program (seen w c m) m.since now m.machine.state m.decided.items
          h.lately (h.come c over));
    } in
    stands-unmoved w bare new stands same

some-same : (x y : Monitor) → Some x ≡ Some y → x ≡ y
some-same x y h = cc

-- a list that was lent whole
pub whole : {A : Type 0} (new old : List A) (n : ℕ) → length new ≡ length old → n ≡ length old
    → take n (new ++ drop (length new) old) ≡ new
whole new old n h k =
    ap (λ (i : ℕ). take i (new ++ drop (length new) old)) (k ∙ sym h)
    ∙ take-append_seam new (drop (length new) old)

right-cleared : (w : Window) (m new : Monitor) (b : Batch) → IsCleared m new → IsRight w m b
    → IsRight w new b
right-cleared w m new b u h =
    let like : Monitor =
    record {
      machine = new.machine;
      from = new.from;
      to = new.to;
      row = new.row;
      attempts = new.attempts;
      since = m.since;
      decided = new.decided;
      spare = new.spare;
      wide = new.wide;
    } in
    let same : IsSame m like =
    record {
      program = ap (λ (x : Running). x.program) u.machine;
      from = u.from;
      to = u.to;
      attempts = u.attempts;
      since = refl;
    } in
    let r = right-same w m like b same h in
    record { order = r.order; inside = r.inside; decided = r.decided }

pub right-more :
    (w : Window) (ms : List Monitor) (bs : List Batch) (i : ℕ) (m new : Monitor) (b : Batch) →
    slice_get ms i ≡ Some m → MonitorStands w m → IsCleared m new →
    batch_state b ≡ batch i (monitor_state m) → EachIsRight w ms bs →
    EachIsRight w (slice_set ms i new) (bs ++ b ∷ [])
right-more w ms bs i m new b at stands u is all =
    let number : b.monitor ≡ i = ap (λ (x : BatchState). x.monitor) is in
    let right = right-taken w m i b stands is in
    let old : (x : Monitor) → slice_get (slice_set ms i new) b.monitor ≡ Some x → IsRight w x b =
    λ x here. each-set (λ j y. j ≡ b.monitor → IsRight w y b) ms i new
    (λ j y e je. let same : m ≡ y =
    some-same m y (sym at ∙ ap (slice_get ms) (sym (je ∙ number)) ∙ e) in
    subst (λ (z : Monitor). IsRight w z b) same right)
    (λ je. right-cleared w m new b u right) b.monitor x here refl in
    let each =
    each-push (λ (a : Batch). (x : Monitor) → slice_get (slice_set ms i new) a.monitor ≡ Some x
    → IsRight w x a) bs b
    (λ n a e x here. each-set (λ j y. j ≡ a.monitor → IsRight w y a) ms i new
    (λ j y f je. all n a y e (subst (λ (k : ℕ). slice_get ms k ≡ Some y) je f))
    (λ je. right-cleared w m new a u
    (all n a m e (subst (λ (k : ℕ). slice_get ms k ≡ Some m) je at))) a.monitor x here refl)
    old in
    λ n a x e here. each n a e x here

-- a write keeps each batch's monitor there
pub known-set : (ms : List Monitor) (bs : List Batch) (i : ℕ) (new : Monitor) → EachIsKnown ms bs
    → EachIsKnown (slice_set ms i new) bs
known-set ms bs i new all n b is = omega (arith, all n b is, length-set ms i new)

pub known-more : (ms : List Monitor) (bs : List Batch) (i : ℕ) (new : Monitor) (b : Batch)
    → i < length ms → b.monitor ≡ i → EachIsKnown ms bs
    → EachIsKnown (slice_set ms i new) (bs ++ b ∷ [])
known-more ms bs i new b below is all =
    each-push (λ (a : Batch). a.monitor < length (slice_set ms i new)) bs b
    (known-set ms bs i new all) (omega (arith, below, is, length-set ms i new))

abbrev part : ProgramData → ℕ → ℕ → MonitorPart
part p a b = record { program = p; from = a; to = b }

-- a monitor that goes on keeps its part of a row
part-same : (old new : Monitor) → IsSame old new → monitor_part new ≡ monitor_part old
part-same old new same =
    ap (λ (p : ProgramData). part p new.from new.to) same.program
    ∙ ap (λ (n : ℕ). part old.machine.program n new.to) same.from
    ∙ ap (part old.machine.program old.from) same.to

pub parts-set : (ms : List Monitor) (i : ℕ) (old new : Monitor) → slice_get ms i ≡ Some old
    → IsSame old new → map monitor_part (slice_set ms i new) ≡ map monitor_part ms
parts-set ms i old new at same = set-same monitor_part ms i old new at (part-same old new same)

pub parts-cleared : (ms : List Monitor) (i : ℕ) (old new : Monitor) → slice_get ms i ≡ Some old
    → IsCleared old new → map monitor_part (slice_set ms i new) ≡ map monitor_part ms
parts-cleared ms i old new at u =
    set-same monitor_part ms i old new at
    (ap (λ (r : Running). part r.program new.from new.to) u.machine
    ∙ ap (λ (n : ℕ). part old.machine.program n new.to) u.from
    ∙ ap (part old.machine.program old.from) u.to)
