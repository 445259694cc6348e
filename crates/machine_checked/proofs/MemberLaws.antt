-- What an attempt awaits, by the list of its open awaited ticks.
use Rattle.std.proofs.Common.{◌≡◌, ℕ, ◌+◌, ◌<◌, Bool, true, false, not, ◌&&◌, ◌||◌, List, [], ◌∷◌, ◌++◌, map}
use Rattle.std.proofs.Common.{inl, inr, refl, sym, ap, ◌∙◌, subst, arith}
use Rattle.std.specs.Prelude.{◌==◌, filter, cond, Contains}
use Rattle.std.specs.List.{AllByRecursion, list_any}
use Rattle.std.proofs.lemmas.Bool.{cases_Bool, eq-eqb}
use Rattle.std.proofs.lemmas.Map.Views.{any-filter_same}
use Rattle.machine_checked.specs.Clocks.{Attempt, Fate, awaits, is_broken, is_ended, staying, some_broken}
use Rattle.machine_checked.specs.Clocks.{some_open}
use Rattle.machine_checked.specs.Awaited.{accepted_of, fate_ticks}
use Rattle.machine_checked.specs.OpenTicks.{OpenAttempt, is_awaited, is_open_broken}

-- the attempt with those of these ticks at which it accepted
abbrev pub open_at : List ℕ → Attempt → OpenAttempt
open_at ticks a = record {
  start = a.start;
  positions = a.positions;
  awaited = accepted_of a ticks;
  accepted = not (a.awaited == 0);
}

-- the tick stands in the list
abbrev pub is_tick_in : List ℕ → ℕ → Bool
is_tick_in ticks t = list_any (λ u. u == t) ticks

same_tick : (u t : ℕ) → (u == t) ≡ true → u ≡ t
same_tick u t h = grind (arith, h)

-- of a tick that is listed, it awaits what it accepted at
pub is_awaited-at : (ticks : List ℕ) (a : Attempt) (t : ℕ) → is_tick_in ticks t ≡ true →
    is_awaited (open_at ticks a) t ≡ awaits a t
is_awaited-at ticks a t there =
    any-filter_same (λ u. u == t) (awaits a) (awaits a t) (λ u same. ap (awaits a) (same_tick u t same)) ticks
    ∙ ap (λ b. awaits a t && b) there ∙ and_true (awaits a t)
  where
    and_true : (b : Bool) → (b && true) ≡ b
    and_true true = refl
    and_true false = refl

-- all of one list stand in another
abbrev pub AreTicksIn : List ℕ → List ℕ → Type 0
AreTicksIn ticks = AllByRecursion (λ t. is_tick_in ticks t ≡ true)

pub failed-at : (ticks : List ℕ) (a : Attempt) (fates : List Fate) → AreTicksIn ticks (fate_ticks fates) →
    is_open_broken (open_at ticks a) fates ≡ some_broken a fates
failed-at ticks a [] h = refl
failed-at ticks a (f ∷ fs) h =
    ap (λ b. (is_broken f && b) || is_open_broken (open_at ticks a) fs) (is_awaited-at ticks a f.tick h.0)
    ∙ ap (λ b. (is_broken f && awaits a f.tick) || b) (failed-at ticks a fs h.1)

-- of ticks that are listed, those that it awaits are those at which it accepted
pub filtered-at : (ticks : List ℕ) (a : Attempt) (some : List ℕ) → AreTicksIn ticks some →
    filter (is_awaited (open_at ticks a)) some ≡ accepted_of a some
filtered-at ticks a [] h = refl
filtered-at ticks a (t ∷ ts) h =
    ap (λ b. cond b (t ∷ filter (is_awaited (open_at ticks a)) ts) (filter (is_awaited (open_at ticks a)) ts))
    (is_awaited-at ticks a t h.0)
    ∙ ap (λ l. cond (awaits a t) (t ∷ l) l) (filtered-at ticks a ts h.1)

-- those that stay are listed
pub staying-in : (ticks : List ℕ) (fates : List Fate) → AreTicksIn ticks (fate_ticks fates) →
    AreTicksIn ticks (map (λ o. o.tick) (staying fates))
staying-in ticks [] h = tt
staying-in ticks (f ∷ fs) h = elim (cases_Bool (is_ended f)) [
  | inl on ↦ rw on (staying-in ticks fs h.1)
  | inr off ↦ rw off (h.0, staying-in ticks fs h.1)
]

-- a list stands in itself, and in a longer one
or_true : (b : Bool) → (b || true) ≡ true
or_true true = refl
or_true false = refl

more-in : (u : ℕ) (ticks some : List ℕ) → AreTicksIn ticks some → AreTicksIn (u ∷ ticks) some
more-in u ticks [] h = tt
more-in u ticks (t ∷ ts) h =
    (ap (λ b. (u == t) || b) h.0 ∙ or_true (u == t), more-in u ticks ts h.1)

pub in-itself : (ticks : List ℕ) → AreTicksIn ticks ticks
in-itself [] = tt
in-itself (t ∷ ts) = (ap (λ b. b || is_tick_in ts t) (eq-eqb t t refl), more-in t ts ts (in-itself ts))

in-longer : (ticks : List ℕ) (last t : ℕ) → is_tick_in ticks t ≡ true → is_tick_in (ticks ++ last ∷ []) t ≡ true
in-longer [] last t h = absurd cc
in-longer (u ∷ us) last t h = elim (cases_Bool (u == t)) [
  | inl on ↦ rw on refl
  | inr off ↦ rw off (in-longer us last t (rw off at h))
]

pub all-in-longer : (ticks : List ℕ) (last : ℕ) (some : List ℕ) → AreTicksIn ticks some →
    AreTicksIn (ticks ++ last ∷ []) some
all-in-longer ticks last [] h = tt
all-in-longer ticks last (t ∷ ts) h = (in-longer ticks last t h.0, all-in-longer ticks last ts h.1)
