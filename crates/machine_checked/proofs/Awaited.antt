-- The two views of what an attempt awaits agree.
use Rattle.std.proofs.Common.{◌≡◌, ◌≢◌, inl, inr, ℕ, ◌+◌, ◌-◌, ◌^◌, ◌<◌, ◌≤◌, Bool, true, false, not, ◌&&◌, ◌||◌}
use Rattle.std.proofs.Common.{if◌then◌else◌, List, [], ◌∷◌, ◌++◌, map, refl, sym, ap, ◌∙◌, subst, arith, bit_or}
use Rattle.std.proofs.Common.{pow_pos}
use Rattle.std.specs.Prelude.{◌==◌, nat_le, filter, cond}
use Rattle.std.specs.Int.{bit_at}
use Rattle.std.specs.List.{AllByRecursion}
use Rattle.std.proofs.lemmas.Bool.{cases_Bool, cases_lt, le-leb, lt-leb, eq-eqb}
use Rattle.std.proofs.lemmas.List.Elements.{filter-append}
use Rattle.std.proofs.lemmas.Nat.Bits.{bit_at_or, bit_at-pow_same, bit_at-pow_other, bit_at-zero}
use Rattle.machine_checked.specs.Blocks.{Visit}
use Rattle.machine_checked.specs.Clocks.{Attempt, Fate, awaits, visited, is_broken, is_ended, staying}
use Rattle.machine_checked.specs.Clocks.{some_broken, some_open}
use Rattle.machine_checked.specs.Awaited.{accepted_of, awaited_ticks, fate_ticks, is_some}

-- the ticks of those that are broken
abbrev pub broken_ticks : List Fate → List ℕ
broken_ticks fates = fate_ticks (filter is_broken fates)

-- The list of open awaited ticks as a clock changes it, and what is decided by it.
pub record KeepsAwaitedTicks : Type 0 where
  -- where an attempt accepts, the tick now joins its list; else that stays as it is
  pub at_visit : (now : ℕ) (a : Attempt) (v : Visit) (ticks : List ℕ) → a.start ≤ now →
      awaits a now ≡ false → AllByRecursion (λ t. t < now) ticks →
      accepted_of (visited now a v) (ticks ++ now ∷ [])
      ≡ accepted_of a ticks ++ (if v.accepted then now ∷ [] else [])
  -- an attempt that accepted has a set that isn't empty, and it has one only so
  pub ever : (now : ℕ) (a : Attempt) (v : Visit) → (visited now a v).awaited ≡ 0 →
      (a.awaited ≡ 0) × (v.accepted ≡ false)
  pub never : (now : ℕ) (a : Attempt) (v : Visit) → a.awaited ≡ 0 → v.accepted ≡ false →
      (visited now a v).awaited ≡ 0
  -- it fails where one of its list is broken
  pub fails : (a : Attempt) (fates : List Fate) →
      some_broken a fates ≡ is_some (accepted_of a (broken_ticks fates))
  -- it waits where one of its list stays open
  pub waits : (a : Attempt) (fates : List Fate) →
      some_open a fates ≡ is_some (awaited_ticks a (staying fates))

module _ (now : ℕ) (a : Attempt) (entered : ℕ) (started : a.start ≤ now) where
  abbrev grown : ℕ
  grown = bit_or a.awaited (2 ^ (now - a.start))

  abbrev after : Bool → Attempt
  after b =
      record {
        start = a.start;
        positions = entered;
        awaited = if b then bit_or a.awaited (2 ^ (now - a.start)) else a.awaited;
      }

  -- a former tick
  older : (t : ℕ) → t < now → (bit_at grown (t - a.start) == 1) ≡ (bit_at a.awaited (t - a.start) == 1)
      → awaits (after true) t ≡ awaits a t
  older t before same = ap (λ b. nat_le a.start t && b) same

  unborn : (t : ℕ) → t < a.start → (b : Bool) → (nat_le a.start t && b) ≡ false
  unborn t lt b = ap (λ x. x && b) (lt-leb a.start t lt)

  former : (t : ℕ) → t < now → (b : Bool) → awaits (after b) t ≡ awaits a t
  former t before false = refl
  former t before true = elim (cases_lt t a.start) [
    | inl lt ↦ unborn t lt (bit_at grown (t - a.start) == 1) ∙ sym (unborn t lt (bit_at a.awaited (t - a.start) == 1))
    | inr ge ↦
        let other : bit_at grown (t - a.start) ≡ bit_at a.awaited (t - a.start) =
        omega (
          arith,
          bit_at_or a.awaited (2 ^ (now - a.start)) (t - a.start),
          bit_at-pow_other (now - a.start) (t - a.start) (λ e. omega (arith, e, ge, before)),
        ) in
        older t before (ap (λ n. n == 1) other)
  ]

  -- the tick now
  present : awaits a now ≡ false → (b : Bool) → awaits (after b) now ≡ b
  present new false = new
  present new true =
      let set : bit_at grown (now - a.start) ≡ 1 =
      omega (arith, bit_at_or a.awaited (2 ^ (now - a.start)) (now - a.start), bit_at-pow_same (now - a.start)) in
      ap (λ x. x && (bit_at grown (now - a.start) == 1)) (le-leb a.start now started)
      ∙ eq-eqb (bit_at grown (now - a.start)) 1 set

  formers : (b : Bool) (ticks : List ℕ) → AllByRecursion (λ t. t < now) ticks → accepted_of (after b) ticks
      ≡ accepted_of a ticks
  formers b [] h = refl
  formers b (t ∷ ts) h =
      ap (λ x. cond x (t ∷ accepted_of (after b) ts) (accepted_of (after b) ts)) (former t h.0 b)
      ∙ ap (λ l. cond (awaits a t) (t ∷ l) l) (formers b ts h.1)

  last : awaits a now ≡ false → (b : Bool) → accepted_of (after b) (now ∷ []) ≡ (if b then now ∷ [] else [])
  last new b = ap (λ x. cond x (now ∷ []) []) (present new b)

  joins : awaits a now ≡ false → (b : Bool) (ticks : List ℕ) → AllByRecursion (λ t. t < now) ticks
      → accepted_of (after b) (ticks ++ now ∷ []) ≡ accepted_of a ticks ++ (if b then now ∷ [] else [])
  joins new b ticks h =
      filter-append (awaits (after b)) ticks (now ∷ [])
      ∙ ap (λ l. l ++ accepted_of (after b) (now ∷ [])) (formers b ticks h)
      ∙ ap (λ l. accepted_of a ticks ++ l) (last new b)

-- the set is empty where it never accepted
empty-set : (now : ℕ) (a : Attempt) (b : Bool) → (if b then bit_or a.awaited (2 ^ (now - a.start)) else a.awaited) ≡ 0
    → (a.awaited ≡ 0) × (b ≡ false)
empty-set now a false h = (h, refl)
empty-set now a true h =
    let one : 1 ≤ bit_at (bit_or a.awaited (2 ^ (now - a.start))) (now - a.start) =
    omega (arith, bit_at_or a.awaited (2 ^ (now - a.start)) (now - a.start), bit_at-pow_same (now - a.start)) in
    absurd (omega (arith, one, ap (λ n. bit_at n (now - a.start)) h, bit_at-zero (now - a.start)))

still-empty : (now : ℕ) (a : Attempt) (b : Bool) → a.awaited ≡ 0 → b ≡ false
    → (if b then bit_or a.awaited (2 ^ (now - a.start)) else a.awaited) ≡ 0
still-empty now a b none off = ap (λ x. if x then bit_or a.awaited (2 ^ (now - a.start)) else a.awaited) off ∙ none

-- one of the list
broken-one : (a : Attempt) (f : Fate) (b : Bool) (rest : List Fate)
    → (b && awaits a f.tick || is_some (accepted_of a (map (λ f. f.tick) rest)))
    ≡ is_some (accepted_of a (map (λ f. f.tick) (cond b (f ∷ rest) rest)))
broken-one a f false rest = refl
broken-one a f true rest = one (awaits a f.tick)
  where
    one : (x : Bool) → (x || is_some (accepted_of a (map (λ f. f.tick) rest)))
        ≡ is_some (cond x (f.tick ∷ accepted_of a (map (λ f. f.tick) rest)) (accepted_of a (map (λ f. f.tick) rest)))
    one true = refl
    one false = refl

fails-by : (a : Attempt) (fates : List Fate) → some_broken a fates ≡ is_some (accepted_of a (broken_ticks fates))
fails-by a [] = refl
fails-by a (f ∷ fs) =
    ap (λ x. is_broken f && awaits a f.tick || x) (fails-by a fs) ∙ broken-one a f (is_broken f) (filter is_broken fs)

open-one : (a : Attempt) (f : Fate) (b : Bool) (x : Bool) (tail : List ℕ) → x ≡ is_some tail
    → (not b && awaits a f.tick || x)
    ≡ (if b then is_some tail else is_some (cond (awaits a f.tick) (f.tick ∷ tail) tail))
open-one a f true x tail h = h
open-one a f false x tail h = one (awaits a f.tick)
  where
    one : (y : Bool) → (y || x) ≡ is_some (cond y (f.tick ∷ tail) tail)
    one true = refl
    one false = h

stay-one : (a : Attempt) (f : Fate) (fs : List Fate) (b : Bool)
    → (if b then is_some (awaited_ticks a (staying fs)) else is_some
    (cond (awaits a f.tick) (f.tick ∷ awaited_ticks a (staying fs)) (awaited_ticks a (staying fs))))
    ≡ is_some
    (awaited_ticks a (if b then staying fs else record { tick = f.tick; positions = f.positions } ∷ staying fs))
stay-one a f fs true = refl
stay-one a f fs false = refl

waits-for : (a : Attempt) (fates : List Fate) → some_open a fates ≡ is_some (awaited_ticks a (staying fates))
waits-for a [] = refl
waits-for a (f ∷ fs) =
    open-one a f (is_ended f) (some_open a fs) (awaited_ticks a (staying fs)) (waits-for a fs)
    ∙ stay-one a f fs (is_ended f)

pub keeps : KeepsAwaitedTicks
keeps = record {
  at_visit = λ now a v ticks started new before. joins now a v.entered started new v.accepted ticks before;
  ever = λ now a v h. empty-set now a v.accepted h;
  never = λ now a v none off. still-empty now a v.accepted none off;
  fails = fails-by;
  waits = waits-for;
}
