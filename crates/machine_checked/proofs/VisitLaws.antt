-- Visits of attempts by their open awaited ticks, and of obligations.
use Rattle.std.proofs.Common.{◌≡◌, ℕ, zero, suc, ◌+◌, ◌-◌, ◌<◌, ◌≤◌, ◌^◌, Bool, true, false, not, ◌&&◌, ◌||◌}
use Rattle.std.proofs.Common.{if◌then◌else◌, List, [], ◌∷◌, ◌++◌, map, inl, inr}
use Rattle.std.proofs.Common.{refl, sym, ap, ◌∙◌, subst, arith, bit_or, append-nil}
use Rattle.std.specs.Prelude.{◌==◌, nat_le, slice_index}
use Rattle.std.specs.Int.{bit_at}
use Rattle.std.specs.List.{AllByRecursion}
use Rattle.std.proofs.lemmas.Bool.{cases_Bool, le-leb, eq-eqb}
use Rattle.std.proofs.lemmas.Nat.Bits.{bit_at_or, bit_at-pow_same, bit_at-pow_other}
use Rattle.bytecode_programs.specs.Values.{SectionData}
use Rattle.machine_checked.specs.Outcomes.{Ran, done, trapped, and_then}
use Rattle.machine_checked.specs.Blocks.{Visit, visit}
use Rattle.machine_checked.specs.Clocks.{Attempt, Obligation, Fate, Visits, visited, visit_attempts}
use Rattle.machine_checked.specs.Clocks.{visit_obligations}
use Rattle.machine_checked.specs.Clocks.{awaits, is_ended, staying}
use Rattle.machine_checked.specs.Bounds.{EachIn}
use Rattle.machine_checked.specs.Awaited.{accepted_of, fate_ticks}
use Rattle.machine_checked.proofs.Awaited.{keeps}
use Rattle.machine_checked.specs.OpenTicks.{OpenAttempt, OpenVisits, visited_open, visit_each}
use Rattle.machine_checked.proofs.MemberLaws.{open_at}
use Rattle.machine_checked.proofs.RanLaws.{ran_map, IfDone, done_any}

-- It began by now, and accepted at ticks before now alone.
pub record IsYoung (now : ℕ) (a : Attempt) : Type 0 where
  pub started : a.start ≤ now
  pub accepted : EachIn (λ k. a.start + k < now) a.awaited

abbrev pub IsPast : ℕ → Obligation → Type 0
IsPast now o = o.tick < now

-- it didn't accept now
pub not-yet : (now : ℕ) (a : Attempt) → IsYoung now a → awaits a now ≡ false
not-yet now a h = elim (cases_Bool (bit_at a.awaited (now - a.start) == 1)) [
  | inl on ↦
      let set : bit_at a.awaited (now - a.start) ≡ 1 = grind (arith, on) in
      absurd (omega (arith, h.started, h.accepted (now - a.start) set))
  | inr off ↦ ap (λ b. nat_le a.start now && b) off ∙ and_false (nat_le a.start now)
]
  where
    and_false : (b : Bool) → (b && false) ≡ false
    and_false true = refl
    and_false false = refl

-- a visited attempt began by the next clock, and accepted before it
grown-before : (now : ℕ) (a : Attempt) (b : Bool) → IsYoung now a →
    EachIn (λ k. a.start + k < now + 1) (if b then bit_or a.awaited (2 ^ (now - a.start)) else a.awaited)
grown-before now a false h = λ k on. omega (arith, h.accepted k on)
grown-before now a true h = λ k on. elim (cases_Bool (k == now - a.start)) [
  | inl same ↦ let e : k ≡ now - a.start = grind (arith, same) in omega (arith, e, h.started)
  | inr other ↦
      let differs : (k ≡ now - a.start) → ⊥ = λ e. absurd (grind (arith, other, e)) in
      let former : bit_at a.awaited k ≡ 1 =
      omega (arith, on, bit_at_or a.awaited (2 ^ (now - a.start)) k, bit_at-pow_other (now - a.start) k differs) in
      omega (arith, h.accepted k former)
]

pub visited-young : (now : ℕ) (a : Attempt) (v : Visit) → IsYoung now a → IsYoung (now + 1) (visited now a v)
visited-young now a v h =
    record { started = omega (arith, h.started); accepted = grown-before now a v.accepted h }

-- one visited attempt, with the ticks and now
joined : (ticks : List ℕ) (now : ℕ) (b : Bool) →
    ticks ++ (if b then now ∷ [] else []) ≡ (if b then ticks ++ now ∷ [] else ticks)
joined ticks now true = refl
joined ticks now false = append-nil ticks

ever : (now : ℕ) (a : Attempt) (v : Visit) (b : Bool) → v.accepted ≡ b →
    not ((visited now a v).awaited == 0) ≡ (not (a.awaited == 0) || b)
ever now a v true e = elim (cases_Bool ((visited now a v).awaited == 0)) [
  | inl none ↦
      let zeroed : (visited now a v).awaited ≡ 0 = grind (arith, none) in
      let off : v.accepted ≡ false = (keeps.ever now a v zeroed).1 in
      absurd cc
  | inr some ↦ ap not some ∙ sym (or_true (not (a.awaited == 0)))
]
  where
    or_true : (b : Bool) → (b || true) ≡ true
    or_true true = refl
    or_true false = refl
ever now a v false e =
    let same : (visited now a v).awaited ≡ a.awaited =
    ap (λ b. if b then bit_or a.awaited (2 ^ (now - a.start)) else a.awaited) e in
    ap (λ n. not (n == 0)) same ∙ sym (or_false (not (a.awaited == 0)))
  where
    or_false : (b : Bool) → (b || false) ≡ b
    or_false true = refl
    or_false false = refl

pub visited-same : (now : ℕ) (ticks : List ℕ) (a : Attempt) (v : Visit) → IsYoung now a →
    AllByRecursion (λ t. t < now) ticks →
    open_at (ticks ++ now ∷ []) (visited now a v) ≡ visited_open now (open_at ticks a) v
visited-same now ticks a v h before =
    let awaited = keeps.at_visit now a v ticks h.started (not-yet now a h) before
    ∙ joined (accepted_of a ticks) now v.accepted in
    ap (λ l. record {
      start = a.start;
      positions = v.entered;
      awaited = l;
      accepted = not ((visited now a v).awaited == 0);
    }) awaited
    ∙ ap (λ b. record {
      start = a.start;
      positions = v.entered;
      awaited = (visited_open now (open_at ticks a) v).awaited;
      accepted = b;
    }) (ever now a v v.accepted refl)

abbrev pub open_visits : List ℕ → Visits → OpenVisits
open_visits ticks vs = record { attempts = map (open_at ticks) vs.attempts; accepted = vs.accepted }

-- an attempt joins the visits of those after it
abbrev pub and_visited : ℕ → Attempt → Visit → Visits → Visits
and_visited now a v vs =
    record { attempts = visited now a v ∷ vs.attempts; accepted = v.accepted || vs.accepted }

abbrev pub and_open : ℕ → OpenAttempt → Visit → OpenVisits → OpenVisits
and_open now a v vs =
    record { attempts = visited_open now a v ∷ vs.attempts; accepted = v.accepted || vs.accepted }

module _ (s : SectionData) (atoms : List Bool) (now : ℕ) (ticks : List ℕ)
    (before : AllByRecursion (λ t. t < now) ticks) where
  one-more : (a : Attempt) (v : Visit) (x : Visits) → IsYoung now a →
      open_visits (ticks ++ now ∷ []) (and_visited now a v x)
      ≡ and_open now (open_at ticks a) v (open_visits (ticks ++ now ∷ []) x)
  one-more a v x h =
      let again : OpenAttempt → OpenVisits =
      λ b. record {
        attempts = b ∷ map (open_at (ticks ++ now ∷ [])) x.attempts;
        accepted = v.accepted || x.accepted;
      } in
      ap again (visited-same now ticks a v h before)

  next : (a : Attempt) (v : Visit) (r : Ran Visits) (q : Ran OpenVisits) → IsYoung now a →
      ran_map (open_visits (ticks ++ now ∷ [])) r ≡ q →
      ran_map (open_visits (ticks ++ now ∷ [])) (and_then r (λ vs left. done (and_visited now a v vs) left))
      ≡ and_then q (λ vs left. done (and_open now (open_at ticks a) v vs) left)
  next a v (done x left) q h e =
      subst (λ (y : Ran OpenVisits).
      done (open_visits (ticks ++ now ∷ []) (and_visited now a v x)) left
      ≡ and_then y (λ vs left. done (and_open now (open_at ticks a) v vs) left)) e
      (ap (λ (y : OpenVisits). done y left) (one-more a v x h))
  next a v (trapped t) q h e =
      subst (λ (y : Ran OpenVisits).
      trapped t ≡ and_then y (λ vs left. done (and_open now (open_at ticks a) v vs) left)) e refl

  after : (a : Attempt) (others : List Attempt) (v : Ran Visit) → IsYoung now a →
      ((left : ℕ) → ran_map (open_visits (ticks ++ now ∷ [])) (visit_attempts s atoms now others left)
      ≡ visit_each s atoms now (map (open_at ticks) others) left) →
      ran_map (open_visits (ticks ++ now ∷ []))
      (and_then v (λ v left.
      and_then (visit_attempts s atoms now others left) (λ vs left. done (and_visited now a v vs) left)))
      ≡ and_then v (λ v left.
      and_then (visit_each s atoms now (map (open_at ticks) others) left)
      (λ vs left. done (and_open now (open_at ticks a) v vs) left))
  after a others (trapped t) h k = refl
  after a others (done v left) h k =
      next a v (visit_attempts s atoms now others left) (visit_each s atoms now (map (open_at ticks) others) left) h
      (k left)

  pub visits-same : (live : List Attempt) (left : ℕ) → AllByRecursion (IsYoung now) live →
      ran_map (open_visits (ticks ++ now ∷ [])) (visit_attempts s atoms now live left)
      ≡ visit_each s atoms now (map (open_at ticks) live) left
  visits-same [] left h = refl
  visits-same (a ∷ others) zero h = refl
  visits-same (a ∷ others) (suc left) h =
      after a others (visit s atoms a.positions left) h.0 (λ left. visits-same others left h.1)

-- after their visits they are young at the next clock
abbrev pub AreYoung : ℕ → Visits → Type 0
AreYoung now vs = AllByRecursion (IsYoung now) vs.attempts

more-young : (now : ℕ) (a : Attempt) (v : Visit) (r : Ran Visits) → IsYoung now a → IfDone (AreYoung (now + 1)) r →
    IfDone (AreYoung (now + 1)) (and_then r (λ vs left. done (and_visited now a v vs) left))
more-young now a v (done vs left) h k = (visited-young now a v h, k)
more-young now a v (trapped t) h k = tt

pub visits-young : (s : SectionData) (atoms : List Bool) (now : ℕ) (live : List Attempt) (left : ℕ) →
    AllByRecursion (IsYoung now) live → IfDone (AreYoung (now + 1)) (visit_attempts s atoms now live left)
visits-young s atoms now [] left h = tt
visits-young s atoms now (a ∷ others) zero h = tt
visits-young s atoms now (a ∷ others) (suc left) h =
    done_any (AreYoung (now + 1)) (visit s atoms a.positions left)
    (λ v left. and_then (visit_attempts s atoms now others left) (λ vs left. done (and_visited now a v vs) left))
    (λ v left. more-young now a v (visit_attempts s atoms now others left) h.0
    (visits-young s atoms now others left h.1))

-- the fates of obligations have their ticks
pub fates-ticks : (s : SectionData) (atoms : List Bool) (os : List Obligation) (left : ℕ) →
    IfDone (λ (fates : List Fate). fate_ticks fates ≡ map (λ o. o.tick) os) (visit_obligations s atoms os left)
fates-ticks s atoms [] left = refl
fates-ticks s atoms (o ∷ os) zero = tt
fates-ticks s atoms (o ∷ os) (suc left) =
    done_any (λ (fates : List Fate). fate_ticks fates ≡ map (λ o. o.tick) (o ∷ os)) (visit s atoms o.positions left)
    (λ v left. and_then (visit_obligations s atoms os left) (λ fs left. done
    (record { tick = o.tick; positions = v.entered; kept = v.accepted } ∷ fs) left))
    (λ v left. more v (visit_obligations s atoms os left) (fates-ticks s atoms os left))
  where
    more : (v : Visit) (r : Ran (List Fate))
        → IfDone (λ (fates : List Fate). fate_ticks fates ≡ map (λ o. o.tick) os) r →
        IfDone (λ (fates : List Fate). fate_ticks fates ≡ map (λ o. o.tick) (o ∷ os))
        (and_then r (λ fs left. done
        (record { tick = o.tick; positions = v.entered; kept = v.accepted } ∷ fs) left))
    more v (done fs left) k = ap (λ ts. o.tick ∷ ts) k
    more v (trapped t) k = tt

-- those that stay are past where all are
pub staying-past : (now : ℕ) (fates : List Fate) → AllByRecursion (λ t. t < now) (fate_ticks fates) →
    AllByRecursion (IsPast now) (staying fates)
staying-past now [] h = tt
staying-past now (f ∷ fs) h = elim (cases_Bool (is_ended f)) [
  | inl on ↦ rw on (staying-past now fs h.1)
  | inr off ↦ rw off (h.0, staying-past now fs h.1)
]
