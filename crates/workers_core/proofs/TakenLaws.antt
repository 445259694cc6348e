-- What lines take in of the batches of a board.
use Rattle.std.proofs.Common.{
  ◌≡◌,
  ℕ,
  zero,
  suc,
  ◌+◌,
  ◌<◌,
  ◌≤◌,
  List,
  [],
  ◌∷◌,
  ◌++◌,
  length,
  take,
  drop,
  get_or,
  map,
  Some,
  cond,
  Bool,
  refl,
  sym,
  ap,
  ◌∙◌,
  subst,
  arith,
  length-append,
}
use Rattle.std.specs.Prelude.{slice_get, slice_set, ◌==◌, Result, Ok, Err, OnOk}
use Rattle.std.specs.List.{flat_map}
use Rattle.std.proofs.lemmas.Bool.{eq-eqb, ne_eqb}
use Rattle.std.proofs.lemmas.Grind.{flat_map-append}
use Rattle.std.proofs.lemmas.List.{map-append, append-nil, take_more, take-append-drop}
use Rattle.signals.specs.declared.verdict.Decided.{Decided}
use Rattle.machine_batches.specs.declared.batch.Batch.{Batch}
use Rattle.workers_core.specs.States.{BatchState, published_by}
use Rattle.workers_core.specs.Parts.{batch_state}
use Rattle.workers_core.specs.declared.growing_line.GrowingLine.{GrowingLine}
use Rattle.workers_core.proofs.CorePartLaws.{whole}
use Rattle.workers_core.specs.Taken.{TookIn, of_monitor}

-- what holds of each place but one, and of what is written there, holds of each after the write
pub each-but : {A : Type 0} (Q : ℕ → A → Type 0) (xs : List A) (i : ℕ) (y : A) →
    ((j : ℕ) (x : A) → (j ≡ i → ⊥) → slice_get xs j ≡ Some x → Q j x) → Q i y →
    (j : ℕ) (x : A) → slice_get (slice_set xs i y) j ≡ Some x → Q j x
each-but Q [] i y h k j x e = absurd cc
each-but Q (z ∷ xs) zero y h k zero x e = let same : y ≡ x = cc in subst (Q 0) same k
each-but Q (z ∷ xs) zero y h k (suc j) x e = h (suc j) x (λ n. omega (arith, n)) e
each-but Q (z ∷ xs) (suc i) y h k zero x e = h 0 x (λ n. omega (arith, n)) e
each-but Q (z ∷ xs) (suc i) y h k (suc j) x e =
    each-but (λ n. Q (suc n)) xs i y
    (λ n v other at. h (suc n) v (λ same. other (omega (arith, same))) at) k j x e

-- what holds of each place of a list and of one more holds of both
pub each-more : {A : Type 0} (Q : ℕ → A → Type 0) (xs : List A) (y : A) →
    ((n : ℕ) (x : A) → slice_get xs n ≡ Some x → Q n x) → Q (length xs) y →
    (n : ℕ) (x : A) → slice_get (xs ++ y ∷ []) n ≡ Some x → Q n x
each-more Q [] y h k zero x e = let same : y ≡ x = cc in subst (Q 0) same k
each-more Q [] y h k (suc n) x e = absurd cc
each-more Q (z ∷ xs) y h k zero x e = h 0 x e
each-more Q (z ∷ xs) y h k (suc n) x e =
    each-more (λ m. Q (suc m)) xs y (λ m v at. h (suc m) v at) k n x e

pub own-of : (b : Batch) (i : ℕ) → b.monitor ≡ i → of_monitor b i ≡ b.decided.items
own-of b i is = ap (λ (t : Bool). cond t b.decided.items []) (eq-eqb b.monitor i is)

none-of : (b : Batch) (i : ℕ) → (i ≡ b.monitor → ⊥) → of_monitor b i ≡ []
none-of b i other =
    ap (λ (t : Bool). cond t b.decided.items []) (ne_eqb b.monitor i (λ e. other (sym e)))

-- a batch in the line of its monitor
pub taken-set : (ls : List GrowingLine) (b : Batch) (new : GrowingLine) (before : ℕ → List Decided) →
    ((i : ℕ) (l : GrowingLine) → slice_get ls i ≡ Some l → TookIn l (before i)) →
    TookIn new (before b.monitor ++ b.decided.items) →
    (i : ℕ) (l : GrowingLine) → slice_get (slice_set ls b.monitor new) i ≡ Some l →
    TookIn l (before i ++ of_monitor b i)
taken-set ls b new before all one =
    each-but (λ i l. TookIn l (before i ++ of_monitor b i)) ls b.monitor new
    (λ i l other at.
    subst (TookIn l)
    (sym (ap (λ (ds : List Decided). before i ++ ds) (none-of b i other)
    ∙ append-nil (before i))) (all i l at))
    (subst (TookIn new)
    (ap (λ (ds : List Decided). before b.monitor ++ ds) (sym (own-of b b.monitor refl))) one)

pub within : {A : Type 0} (xs : List A) (i : ℕ) (x : A) → slice_get xs i ≡ Some x → i < length xs
within [] i x h = absurd cc
within (y ∷ xs) zero x h = omega arith
within (y ∷ xs) (suc i) x h = omega (arith, within xs i x h)

-- a batch of no line
pub taken-none : (ls : List GrowingLine) (b : Batch) (before : ℕ → List Decided) →
    length ls ≤ b.monitor →
    ((i : ℕ) (l : GrowingLine) → slice_get ls i ≡ Some l → TookIn l (before i)) →
    (i : ℕ) (l : GrowingLine) → slice_get ls i ≡ Some l → TookIn l (before i ++ of_monitor b i)
taken-none ls b before past all i l at =
    let below = within ls i l at in
    subst (TookIn l)
    (sym (ap (λ (ds : List Decided). before i ++ ds)
    (none-of b i (λ e. omega (arith, e, past, below))) ∙ append-nil (before i)))
    (all i l at)

-- one batch more
pub published-more : (bs : List Batch) (k : ℕ) (b : Batch) (i : ℕ) → k < length bs →
    b ≡ get_or bs k b →
    published_by (map batch_state (take k bs)) i ++ of_monitor b i
    ≡ published_by (map batch_state (take (k + 1) bs)) i
published-more bs k b i below is =
    let own : BatchState → List Decided = λ x. cond (x.monitor == i) x.decided [] in
    sym (ap (λ (xs : List Batch). flat_map own (map batch_state xs))
    (take_more bs k b below ∙ ap (λ (x : Batch). take k bs ++ x ∷ []) (sym is))
    ∙ ap (flat_map own) (map-append batch_state (take k bs) (b ∷ []))
    ∙ flat_map-append own (map batch_state (take k bs)) (batch_state b ∷ [])
    ∙ ap (λ (ds : List Decided). flat_map own (map batch_state (take k bs)) ++ ds)
    (append-nil (own (batch_state b))))

-- the first batches have no more than all
pub published-few : (bs : List Batch) (k i : ℕ)
    → length (published_by (map batch_state (take k bs)) i)
    ≤ length (published_by (map batch_state bs) i)
published-few bs k i =
    let own : BatchState → List Decided = λ x. cond (x.monitor == i) x.decided [] in
    let split =
    ap (λ (xs : List Batch). length (flat_map own (map batch_state xs)))
    (sym (take-append-drop k bs))
    ∙ ap (λ (xs : List BatchState). length (flat_map own xs))
    (map-append batch_state (take k bs) (drop k bs))
    ∙ ap (λ (ds : List Decided). length ds)
    (flat_map-append own (map batch_state (take k bs)) (map batch_state (drop k bs)))
    ∙ length-append (flat_map own (map batch_state (take k bs)))
    (flat_map own (map batch_state (drop k bs))) in
    omega (arith, split)

-- what a success says, as another fact
pub ok-map : {A E P Q : Type 0} (r : Result A E) → (P → Q) → OnOk r P → OnOk r Q
ok-map (Ok x) f h = f h
ok-map (Err e) f h = h

pub some-at : {A : Type 0} (xs : List A) (i : ℕ) → i < length xs
    → (x : A) × (slice_get xs i ≡ Some x)
some-at [] i h = absurd (omega (arith, h))
some-at (x ∷ xs) zero h = (x, refl)
some-at (x ∷ xs) (suc i) h = some-at xs i (omega (arith, h))

-- the lines of a slice that was lent whole
pub lent : (new old : List GrowingLine) (n : ℕ) → length new ≡ length old → n ≡ length old
    → take n (new ++ drop (length new) old) ≡ new
lent new old n h k = whole new old n h k
