-- The sample code of a program, in order.
use Rattle.std.proofs.Common.{◌≡◌, ◌∙◌, ℕ, ◌+◌, ◌^◌, ◌<◌, ◌≤◌, max, Bool, true, false, List, []}
use Rattle.std.proofs.Common.{◌∷◌, ◌++◌, length, map, Option, Some, None, refl, sym, ap, subst}
use Rattle.std.proofs.Common.{arith}
use Rattle.std.proofs.Common.{append_assoc, length-append}
use Rattle.std.specs.Prelude.{slice_get, ◌==◌, not, replicate}
use Rattle.std.specs.List.{AllByRecursion, flat_map}
use Rattle.std.proofs.lemmas.Bool.{lt-ltb, eq-eqb}
use Rattle.std.proofs.lemmas.List.{length-map, length-replicate}
use Rattle.std.proofs.lemmas.Option.{slice_get_within}
use Rattle.std.proofs.Math.Seq.{set-append_seam}
use Rattle.signals.specs.Tests.{one_if}
use Rattle.expressions.specs.Terms.{Term, Samples, is_true}
use Rattle.expressions.specs.Counters.{next_count}
use Rattle.bytecode_programs.specs.declared.limits.Limits.{Limits}
use Rattle.bytecode_programs.specs.declared.sample_instr.SampleInstr.{SampleInstr}
use Rattle.bytecode_programs.specs.declared.sample_instr.SampleInstr.TheVariants.{SetAtom, Store}
use Rattle.bytecode_programs.specs.Instructions.{FrameData}
use Rattle.machine_checked.specs.Samples.{operand, Made, nothing_made}
use Rattle.compiler.specs.Codes.{Slots, need, reach}
use Rattle.compiler.specs.Samples.{Held, held_slot, truth_code, next_code, next_need}
use Rattle.compiler.specs.Samples.{atoms_code, stores_code, largest, counter_terms}
use Rattle.compiler.specs.Samples.{sample_need, sample_reach}
use Rattle.compiler.specs.Laws.{TellsTicks, IsCount, IsFrame}
use Rattle.compiler.specs.Laws.{AreTold}
use Rattle.compiler.proofs.Lists.{all-front, all-back, all-flat}
use Rattle.compiler.proofs.NarrowLaws.{all-placed}
use Rattle.compiler.proofs.Steps.{State, state, steps, steps-append, step-some}
use Rattle.compiler.proofs.CounterLaws.{IsServed, truth-puts, next-puts, served}

get-seam :
    {A : Type 0} (before after : List A) (x : A) →
    slice_get (before ++ x ∷ after) (length before) ≡ Some x
get-seam [] after x = refl
get-seam (y ∷ before) after x = get-seam before after x

not-zero : (b : Bool) → not (one_if b == 0) ≡ b
not-zero true = refl
not-zero false = refl

abbrev pub made_of : List Bool → List (Option ℕ) → State
made_of atoms stores = state [] (record { atoms = atoms; stores = stores })

module _ (f : FrameData) (d : Limits) (t : Samples) (at : Slots) (s : ℕ → ℕ → ℕ) (k : ℕ) (one :
    slice_get f.slots 0 ≡ Some 1) (ticks : TellsTicks s k) where
  abbrev Here : Term → Type 0
  Here e = IsServed f d t at s k e

  abbrev truth : Term → Bool
  truth e = is_true t e k

  then-steps :
      (a b : List SampleInstr) (r q to : State) → steps f d s a r ≡ Some q →
      steps f d s b q ≡ Some to → steps f d s (a ++ b) r ≡ Some to
  then-steps a b r q to g h = steps-append f d s a b r q g ∙ h

  set-steps :
      (e : Term) (before after : List Bool) (old : Bool) (stores : List (Option ℕ)) → Here e →
      need e ≤ d.stack → length before < f.atoms →
      steps f d s (truth_code at e ++ SetAtom (length before) ∷ [])
      (made_of (before ++ old ∷ after) stores)
      ≡ Some (made_of (before ++ truth e ∷ after) stores)
  set-steps e before after old stores h fits room =
      let bit : ℕ = one_if (truth e) in
      let made : Made = record { atoms = before ++ old ∷ after; stores = stores } in
      let on : State = state (operand 1 bit ∷ []) made in
      let i : SampleInstr = SetAtom (length before) in
      then-steps (truth_code at e) (i ∷ []) (state [] made) on
      (made_of (before ++ truth e ∷ after) stores)
      (truth-puts f d t at s k one ticks e h [] made (omega (arith, fits)))
      (step-some f d s i on [] (lt-ltb (length before) f.atoms room) refl (omega arith) refl refl
      ∙ ap (λ atoms. Some (made_of atoms stores))
      (rw (not-zero (truth e)) (set-append_seam before old after (truth e))))

  atoms-steps :
      (es : List Term) (i : ℕ) (before olds : List Bool) (stores : List (Option ℕ)) →
      AllByRecursion Here es → largest need es ≤ d.stack → length before ≡ i →
      length olds ≡ length es → i + length es ≤ f.atoms →
      steps f d s (atoms_code at i es) (made_of (before ++ olds) stores)
      ≡ Some (made_of (before ++ map truth es) stores)
  atoms-steps [] i before [] stores h fits long same room = refl
  atoms-steps [] i before (old ∷ olds) stores h fits long same room = absurd (omega (arith, same))
  atoms-steps (e ∷ es) i before [] stores h fits long same room = absurd (omega (arith, same))
  atoms-steps (e ∷ es) i before (old ∷ olds) stores h fits long same room =
      let code : List SampleInstr = truth_code at e ++ SetAtom i ∷ [] in
      let rest : List SampleInstr = atoms_code at (i + 1) es in
      let now : List Bool = before ++ truth e ∷ [] in
      let from : State = made_of (before ++ old ∷ olds) stores in
      let mid : State = made_of (before ++ truth e ∷ olds) stores in
      let first : steps f d s code from ≡ Some mid =
      subst (λ n. steps f d s (truth_code at e ++ SetAtom n ∷ []) from ≡ Some mid) long
      (set-steps e before olds old stores h.0 (omega (arith, fits)) (omega (arith, long, room))) in
      let others :
      steps f d s rest (made_of (now ++ olds) stores)
      ≡ Some (made_of (now ++ map truth es) stores) =
      atoms-steps es (i + 1) now olds stores h.1 (omega (arith, fits))
      (omega (arith, length-append before (truth e ∷ []), long)) (omega (arith, same))
      (omega (arith, room)) in
      then-steps code rest from mid (made_of (before ++ (truth e ∷ map truth es)) stores) first
      (ap (λ atoms. steps f d s rest (made_of atoms stores)) (sym (append_assoc before (truth e ∷
      []) olds))
      ∙ (others
      ∙ ap (λ atoms. Some (made_of atoms stores)) (append_assoc before (truth e ∷ []) (map truth
      es))))

  abbrev next : Held → ℕ
  next h = next_count t h.counter (t.counter_at h.place k) k

  store-steps :
      (h : Held) (before after : List (Option ℕ)) (old : Option ℕ) (atoms : List Bool) →
      IsCount f t at s k h → AllByRecursion Here (counter_terms h.counter) →
      next_need h.counter ≤ d.stack →
      slice_get f.counters (length before) ≡ Some h.counter.width →
      steps f d s (next_code at h ++ Store (length before) ∷ [])
      (made_of atoms (before ++ old ∷ after))
      ≡ Some (made_of atoms (before ++ Some (next h) ∷ after))
  store-steps h before after old atoms count terms fits there =
      let w : ℕ = h.counter.width in
      let made : Made = record { atoms = atoms; stores = before ++ old ∷ after } in
      let on : State = state (operand w (next h) ∷ []) made in
      let i : SampleInstr = Store (length before) in
      let place : length before < length f.counters =
      slice_get_within f.counters (length before) w there in
      then-steps (next_code at h) (i ∷ []) (state [] made) on
      (made_of atoms (before ++ Some (next h) ∷ after))
      (next-puts f d t at s k one ticks h count terms [] made (omega (arith, fits)))
      (step-some f d s i on [] (lt-ltb (length before) (length f.counters) place)
      (rw there (rw (eq-eqb w w refl) refl)) (omega arith) refl refl
      ∙ ap (λ stores. Some (made_of atoms stores))
      (set-append_seam before old after (Some (next h))))

  -- the counters from the i-th on
  stores-steps :
      (hs : List Held) (i : ℕ) (widths : List ℕ) (before olds : List (Option ℕ)) (atoms : List Bool)
      →
      AllByRecursion (IsCount f t at s k) hs →
      AllByRecursion (λ h. AllByRecursion Here (counter_terms h.counter)) hs →
      largest (λ h. next_need h.counter) hs ≤ d.stack →
      f.counters ≡ widths ++ map (λ h. h.counter.width) hs → length widths ≡ i →
      length before ≡ i → length olds ≡ length hs →
      steps f d s (stores_code at i hs) (made_of atoms (before ++ olds))
      ≡ Some (made_of atoms (before ++ map (λ h. Some (next h)) hs))
  stores-steps [] i widths before [] atoms counts terms fits there wide long same = refl
  stores-steps [] i widths before (old ∷ olds) atoms counts terms fits there wide long same =
      absurd (omega (arith, same))
  stores-steps (h ∷ hs) i widths before [] atoms counts terms fits there wide long same =
      absurd (omega (arith, same))
  stores-steps (h ∷ hs) i widths before (old ∷ olds) atoms counts terms fits there wide long same =
      let w : ℕ = h.counter.width in
      let code : List SampleInstr = next_code at h ++ Store i ∷ [] in
      let rest : List SampleInstr = stores_code at (i + 1) hs in
      let now : List (Option ℕ) = before ++ Some (next h) ∷ [] in
      let later : List (Option ℕ) = map (λ h. Some (next h)) hs in
      let from : State = made_of atoms (before ++ old ∷ olds) in
      let mid : State = made_of atoms (before ++ Some (next h) ∷ olds) in
      let others : List ℕ = map (λ h. h.counter.width) hs in
      let place : slice_get f.counters (length before) ≡ Some w =
      ap (λ n. slice_get f.counters n) (long ∙ sym wide)
      ∙ (ap (λ ws. slice_get ws (length widths)) there ∙ get-seam widths others w) in
      let first : steps f d s code from ≡ Some mid =
      subst (λ n. steps f d s (next_code at h ++ Store n ∷ []) from ≡ Some mid) long
      (store-steps h before olds old atoms counts.0 terms.0 (omega (arith, fits)) place) in
      let after :
      steps f d s rest (made_of atoms (now ++ olds)) ≡ Some (made_of atoms (now ++ later)) =
      stores-steps hs (i + 1) (widths ++ w ∷ []) now olds atoms counts.1 terms.1
      (omega (arith, fits)) (there ∙ sym (append_assoc widths (w ∷ []) others))
      (omega (arith, length-append widths (w ∷ []), wide))
      (omega (arith, length-append before (Some (next h) ∷ []), long)) (omega (arith, same)) in
      then-steps code rest from mid (made_of atoms (before ++ (Some (next h) ∷ later))) first
      (ap (λ stores. steps f d s rest (made_of atoms stores))
      (sym (append_assoc before (Some (next h) ∷ []) olds))
      ∙ (after
      ∙ ap (λ stores. Some (made_of atoms stores)) (append_assoc before (Some (next h) ∷ [])
      later)))

-- what the code of a program makes
abbrev pub made_by : Samples → ℕ → List Term → List Held → Made
made_by t k es hs = record {
  atoms = map (λ e. is_true t e k) es;
  stores = map (λ h. Some (next_count t h.counter (t.counter_at h.place k) k)) hs;
}

pub largest-append :
    (f : Term → ℕ) (es ds : List Term) → largest f (es ++ ds) ≡ max (largest f es) (largest f ds)
largest-append f [] ds = omega arith
largest-append f (e ∷ es) ds = omega (arith, largest-append f es ds)

pub largest-flat :
    (f : Term → ℕ) (hs : List Held) →
    largest f (flat_map (λ h. counter_terms h.counter) hs)
    ≡ largest (λ h. largest f (counter_terms h.counter)) hs
largest-flat f [] = refl
largest-flat f (h ∷ hs) =
    largest-append f (counter_terms h.counter) (flat_map (λ h. counter_terms h.counter) hs)
    ∙ ap (max (largest f (counter_terms h.counter))) (largest-flat f hs)

-- all but the Halt
abbrev pub body : Slots → List Term → List Held → List SampleInstr
body at es hs = atoms_code at 0 es ++ stores_code at 0 hs

module _ (f : FrameData) (d : Limits) (t : Samples) (at : Slots) (s : ℕ → ℕ → ℕ) (k : ℕ) where
  counts-of :
      (hs : List Held) →
      AllByRecursion (λ h. slice_get f.slots (held_slot at h) ≡ Some h.counter.width) hs →
      AllByRecursion (λ h. s 0 (held_slot at h) ≡ t.counter_at h.place k) hs →
      AllByRecursion (λ h. t.counter_at h.place k < 2 ^ h.counter.width) hs →
      AllByRecursion (IsCount f t at s k) hs
  counts-of [] slots nows fit = tt
  counts-of (h ∷ hs) slots nows fit =
      (record { slot = slots.0; now = nows.0; fits = fit.0 }, counts-of hs slots.1 nows.1 fit.1)

  pub body-steps :
      (es : List Term) (hs : List Held) → IsFrame f at es hs → AreTold t at s k es hs →
      sample_need es hs ≤ d.stack → sample_reach es hs ≤ d.history →
      steps f d s (body at es hs) (state [] (nothing_made f))
      ≡ Some (state [] (made_by t k es hs))
  body-steps es hs frame told high far =
      let Here : Term → Type 0 = IsServed f d t at s k in
      let others : List Term = flat_map (λ h. counter_terms h.counter) hs in
      let terms : AllByRecursion Here (es ++ others) =
      served f d t at s k frame.one told.ticks (es ++ others)
      (all-placed f at (es ++ others) frame.slots frame.narrow) told.names
      (omega (arith, far, largest-append reach es others, largest-flat reach hs)) in
      let none : Option ℕ = None in
      let olds : List (Option ℕ) = replicate (length f.counters) none in
      let atoms : List Bool = map (λ e. is_true t e k) es in
      then-steps f d t at s k frame.one told.ticks (atoms_code at 0 es) (stores_code at 0 hs)
      (state [] (nothing_made f)) (made_of atoms olds) (state [] (made_by t k es hs))
      (atoms-steps f d t at s k frame.one told.ticks es 0 [] (replicate f.atoms false) olds
      (all-front Here es others terms) (omega (arith, high)) refl
      (length-replicate f.atoms false ∙ frame.atoms) (omega (arith, frame.atoms)))
      (stores-steps f d t at s k frame.one told.ticks hs 0 [] [] olds atoms
      (counts-of hs frame.held told.counts told.fit)
      (all-flat Here (λ h. counter_terms h.counter) hs (all-back Here es others terms))
      (omega (arith, high)) frame.counters refl refl
      (length-replicate (length f.counters) none
      ∙ (ap (λ (ws : List ℕ). length ws) frame.counters ∙ length-map hs (λ h. h.counter.width))))
