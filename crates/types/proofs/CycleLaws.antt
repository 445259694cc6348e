-- One declaration more.
use Rattle.std.proofs.Common.{◌≡◌, inl, inr, ℕ, ◌+◌, ◌≤◌, List, Option, Some, None, get_or, sym, subst, arith}
use Rattle.std.proofs.lemmas.Bool.{cases_eq, cases_lt}
use Rattle.types.specs.Drafts.{Draft, IsCyclic}
use Rattle.types.specs.CycleStages.{IsFirstCycle, IsAtMost}

-- it doesn't reach itself
pub cycle_none : {B : Type 0} (bodies : List (Draft B)) (bytes : List ℕ) (place : ℕ) (fault : Option ℕ)
    → (IsCyclic bodies place → ⊥) → IsFirstCycle bodies bytes place fault
    → IsFirstCycle bodies bytes (place + 1) fault
cycle_none bodies bytes place None n h = λ p lt c.
    elim (cases_eq p place) [
      | inl e ↦ n (subst (λ (x : ℕ). IsCyclic bodies x) e c)
      | inr d ↦ h p (omega (arith, lt, d)) c
    ]
cycle_none bodies bytes place (Some at) n h =
    record {
      place = h.place;
      inside = omega (arith, h.inside);
      cyclic = h.cyclic;
      byte = h.byte;
      lowest = λ p lt c.
          elim (cases_eq p place) [
            | inl e ↦ absurd (n (subst (λ (x : ℕ). IsCyclic bodies x) e c))
            | inr d ↦ h.lowest p (omega (arith, lt, d)) c
          ];
    }

-- a lower one was found
pub cycle_above : {B : Type 0} (bodies : List (Draft B)) (bytes : List ℕ) (place : ℕ) (fault : Option ℕ)
    → IsAtMost fault (get_or bytes place 0) → IsFirstCycle bodies bytes place fault
    → IsFirstCycle bodies bytes (place + 1) fault
cycle_above bodies bytes place None n h = elim n [ ]
cycle_above bodies bytes place (Some at) n h =
    record {
      place = h.place;
      inside = omega (arith, h.inside);
      cyclic = h.cyclic;
      byte = h.byte;
      lowest = λ p lt c.
          elim (cases_eq p place) [
            | inl e ↦ subst (λ (x : ℕ). at ≤ get_or bytes x 0) (sym e) n
            | inr d ↦ h.lowest p (omega (arith, lt, d)) c
          ];
    }

-- it reaches itself, and stands lower than what was found
pub cycle_found : {B : Type 0} (bodies : List (Draft B)) (bytes : List ℕ) (place byte : ℕ) (fault : Option ℕ)
    → byte ≡ get_or bytes place 0 → (IsAtMost fault byte → ⊥) → IsCyclic bodies place
    → IsFirstCycle bodies bytes place fault → IsFirstCycle bodies bytes (place + 1) (Some byte)
cycle_found bodies bytes place byte None is n c h =
    record {
      place = place;
      inside = omega arith;
      cyclic = c;
      byte = is;
      lowest = λ p lt d.
          elim (cases_eq p place) [
            | inl e ↦ subst (λ (x : ℕ). byte ≤ get_or bytes x 0) (sym e) (omega (arith, is))
            | inr ne ↦ absurd (h p (omega (arith, lt, ne)) d)
          ];
    }
cycle_found bodies bytes place byte (Some at) is n c h =
    record {
      place = place;
      inside = omega arith;
      cyclic = c;
      byte = is;
      lowest = λ p lt d.
          elim (cases_eq p place) [
            | inl e ↦ subst (λ (x : ℕ). byte ≤ get_or bytes x 0) (sym e) (omega (arith, is))
            | inr ne ↦ below (h.lowest p (omega (arith, lt, ne)) d)
          ];
    }
  where
    below : {x : ℕ} → at ≤ x → byte ≤ x
    below le = elim (cases_lt byte at) [ inl lt ↦ omega (arith, lt, le) | inr ge ↦ absurd (n ge) ]
