-- What monitors have published.
use Rattle.std.proofs.Common.{◌≡◌, ℕ, zero, suc, List, [], ◌∷◌, ◌++◌, map, Some, cond, Bool, true, false, sym, ap, ◌∙◌}
use Rattle.std.proofs.Common.{subst, arith}
use Rattle.std.specs.Prelude.{slice_get, slice_set, ◌==◌, if◌then◌else◌}
use Rattle.std.specs.List.{flat_map}
use Rattle.std.proofs.lemmas.Bool.{eq-eqb, ne_eqb}
use Rattle.std.proofs.lemmas.Grind.{flat_map-append}
use Rattle.std.proofs.lemmas.List.{map-append, append-nil}
use Rattle.signals.specs.declared.verdict.Decided.{Decided}
use Rattle.bytecode_programs.specs.Values.{ProgramData}
use Rattle.vcd_reader.specs.Dump.{Contents}
use Rattle.cycle_window.specs.declared.window.Window.{Window}
use Rattle.cycle_window.specs.Ticks.{ticks_of, row_of}
use Rattle.cycle_window.specs.Held.{columns_in, places_in, clock_in}
use Rattle.machine.specs.Running.{Running}
use Rattle.machine_batches.specs.declared.batch.Batch.{Batch}
use Rattle.machine_batches.specs.Batches.{batch_of, decided_in}
use Rattle.machine_batches.proofs.JoinLaws.{come-first}
use Rattle.workers_core.specs.declared.monitor.Monitor.{Monitor}
use Rattle.workers_core.specs.States.{BatchState, batch, published_by}
use Rattle.workers_core.specs.Standing.{monitor_state, seen, IsSame, MonitorStands, IsCleared}
use Rattle.workers_core.specs.Parts.{batch_state, AreAllBefore, EachIsTold}
use Rattle.workers_core.specs.Opening.{IsNew}
use Rattle.workers_core.proofs.PlaceLaws.{same-part, over-same, same-seen}
use Rattle.workers_core.proofs.CorePartLaws.{each-set}
use Rattle.workers_core.proofs.RunLaws.{all-up-to}

-- what holds of each place but one, and of what is written there, holds of each after the write
each-but : {A : Type 0} (Q : ℕ → A → Type 0) (xs : List A) (i : ℕ) (y : A) →
    ((j : ℕ) (x : A) → (j ≡ i → ⊥) → slice_get xs j ≡ Some x → Q j x) → Q i y →
    (j : ℕ) (x : A) → slice_get (slice_set xs i y) j ≡ Some x → Q j x
each-but Q [] i y h k j x e = absurd cc
each-but Q (z ∷ xs) zero y h k zero x e = let same : y ≡ x = cc in subst (Q 0) same k
each-but Q (z ∷ xs) zero y h k (suc j) x e = h (suc j) x (λ n. omega (arith, n)) e
each-but Q (z ∷ xs) (suc i) y h k zero x e = h 0 x (λ n. omega (arith, n)) e
each-but Q (z ∷ xs) (suc i) y h k (suc j) x e =
    each-but (λ n. Q (suc n)) xs i y
    (λ n v other at. h (suc n) v (λ same. other (omega (arith, same))) at) k j x e

same-all : (w : Window) (c : Contents) (old new : Monitor) → IsSame old new
    → batch_of old.machine.program (seen w c old) 0 old.since
    ≡ batch_of new.machine.program (seen w c new) 0 new.since
same-all w c old new same =
    let ticks = ticks_of c (clock_in (columns_in w)) in
    ap (λ (p : ProgramData). batch_of p (seen w c old) 0 old.since) (sym same.program)
    ∙ ap (λ (ps : List ℕ). batch_of new.machine.program (map (row_of c ps) ticks) 0 old.since)
    (sym (same-part (places_in (columns_in w)) old new same))
    ∙ ap (batch_of new.machine.program (seen w c new) 0) (sym same.since)

-- a monitor that goes on has published what it had
pub told-set : (w : Window) (ms : List Monitor) (bs : List Batch) (i : ℕ) (old new : Monitor)
    → slice_get ms i ≡ Some old → IsSame old new → EachIsTold w ms bs
    → EachIsTold w (slice_set ms i new) bs
told-set w ms bs i old new at same all =
    each-set (λ j x. AreAllBefore w x (published_by (map batch_state bs) j)) ms i new all
    (λ c over. all i old at c over ∙ same-all w c old new same)

-- in the next window, too
pub slid : (v w : Window) (m : Monitor) (ds : List Decided) → columns_in w ≡ columns_in v
    → AreAllBefore v m ds → AreAllBefore w m ds
slid v w m ds is h = λ c over.
    h c (over-same v w c is over)
    ∙ ap (λ (rows : List (List ℕ)). batch_of m.machine.program rows 0 m.since)
    (same-seen v w c m is)

-- one batch more
more : (bs : List Batch) (b : Batch) (i : ℕ)
    → published_by (map batch_state (bs ++ b ∷ [])) i
    ≡ published_by (map batch_state bs) i ++ (if b.monitor == i then b.decided.items else [])
more bs b i =
    let own : BatchState → List Decided = λ x. if x.monitor == i then x.decided else [] in
    ap (flat_map own) (map-append batch_state bs (b ∷ []))
    ∙ flat_map-append own (map batch_state bs) (batch_state b ∷ [])
    ∙ ap (λ (ds : List Decided). flat_map own (map batch_state bs) ++ ds)
    (append-nil (own (batch_state b)))

-- a batch of another monitor
more-other : (bs : List Batch) (b : Batch) (i j : ℕ) → b.monitor ≡ i → (j ≡ i → ⊥)
    → published_by (map batch_state (bs ++ b ∷ [])) j ≡ published_by (map batch_state bs) j
more-other bs b i j is other =
    let no : (b.monitor == j) ≡ false = ne_eqb b.monitor j (λ e. other (sym e ∙ is)) in
    more bs b j ∙ ap
    (λ (t : Bool). published_by (map batch_state bs) j ++ cond t b.decided.items []) no
    ∙ append-nil (published_by (map batch_state bs) j)

-- its own
more-own : (bs : List Batch) (b : Batch) (i : ℕ) → b.monitor ≡ i
    → published_by (map batch_state (bs ++ b ∷ [])) i
    ≡ published_by (map batch_state bs) i ++ b.decided.items
more-own bs b i is =
    let yes : (b.monitor == i) ≡ true = eq-eqb b.monitor i is in
    more bs b i ∙ ap
    (λ (t : Bool). published_by (map batch_state bs) i ++ cond t b.decided.items []) yes

-- with its batch, a monitor has published all up to its place
told-taken : (w : Window) (m new : Monitor) (ds : List Decided) → MonitorStands w m → IsCleared m new
    → AreAllBefore w m ds → AreAllBefore w new (ds ++ m.decided.items)
told-taken w m new ds stands u h = λ c over.
    let now = m.machine.state.standing.now in
    let bare : Monitor =
    record {
      machine = m.machine;
      from = m.from;
      to = m.to;
      row = m.row;
      attempts = m.attempts;
      since = now;
      decided = new.decided;
      spare = m.spare;
      wide = m.wide;
    } in
    let same : IsSame bare new =
    record {
      program = ap (λ (x : Running). x.program) u.machine;
      from = u.from;
      to = u.to;
      attempts = u.attempts;
      since = u.since;
    } in
    ap (λ (xs : List Decided). xs ++ m.decided.items) (h c over)
    ∙ all-up-to m.machine.program (seen w c m) m.since now m.machine.state m.decided.items
    stands.lately (stands.come c over)
    ∙ same-all w c bare new same

pub told-more :
    (w : Window) (ms : List Monitor) (bs : List Batch) (i : ℕ) (m new : Monitor) (b : Batch) →
    slice_get ms i ≡ Some m → MonitorStands w m → IsCleared m new →
    batch_state b ≡ batch i (monitor_state m) → EachIsTold w ms bs →
    EachIsTold w (slice_set ms i new) (bs ++ b ∷ [])
told-more w ms bs i m new b at stands u is all =
    let number : b.monitor ≡ i = ap (λ (x : BatchState). x.monitor) is in
    let decided : b.decided.items ≡ m.decided.items = ap (λ (x : BatchState). x.decided) is in
    let before = published_by (map batch_state bs) in
    each-but (λ j x. AreAllBefore w x (published_by (map batch_state (bs ++ b ∷ [])) j)) ms i new
    (λ j x other e. subst (AreAllBefore w x) (sym (more-other bs b i j number other)) (all j x e))
    (subst (AreAllBefore w new)
    (sym (more-own bs b i number ∙ ap (λ (ds : List Decided). before i ++ ds) decided))
    (told-taken w m new (before i) stands u (all i m at)))

-- before the first clock there is nothing to publish
pub none-told : (w : Window) (m : Monitor) → IsNew m → AreAllBefore w m []
none-told w m new = λ c over.
    sym (ap decided_in (come-first m.machine.program (seen w c m)).ran)
    ∙ ap (batch_of m.machine.program (seen w c m) 0) (sym new.since)
