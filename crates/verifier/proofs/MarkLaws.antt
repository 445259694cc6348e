-- Marks of a block, and the earlier of two faults.
use Rattle.std.proofs.Common.{◌≡◌, inl, inr, ℕ, zero, suc, ◌+◌, ◌≤◌, ◌==◌, ◌&&◌, Bool, true, false}
use Rattle.std.proofs.Common.{cond, List, [], ◌∷◌, ◌++◌, set, replicate, Some, refl, sym, ap, ◌∙◌}
use Rattle.std.proofs.Common.{subst, arith}
use Rattle.std.specs.Prelude.{slice_get, nat_lt, nat_le}
use Rattle.std.proofs.lemmas.List.{length-set}
use Rattle.std.proofs.lemmas.Option.{slice_get_within, slice_get-get_or}
use Rattle.std.proofs.lemmas.Bool.{cases_eq, eq-eqb, ne_eqb, or_cases, or_parts, and_parts}
use Rattle.std.proofs.lemmas.Bool.{and_cases, ltb-true, ltb-false, leb-true, leb-false, eqb-true}
use Rattle.std.proofs.lemmas.Bool.{eqb-false}
use Rattle.verifier.specs.declared.fault.Fault.{Fault}
use Rattle.verifier.specs.Inference.{Message, agreed, merge, arrival_at, entry, Found, found}
use Rattle.verifier.specs.Order.{number_of, fault_part, IsUpTo, found_place, IsIn, IsFirstFound}
use Rattle.verifier.specs.Scans.{IsFirstOf}
use Rattle.verifier.specs.Marks.{marked, MarksReached, is_up_to}
use Rattle.verifier.proofs.ArrivalLaws.{set_same, set_other}
use Rattle.verifier.proofs.OrderLaws.{in_append, in_left, in_right}

merge_mark : (m : Bool) → merge [] (marked m) ≡ agreed []
merge_mark true = refl
merge_mark false = refl

pub marked_set : (base at to : ℕ) (marks : List Bool) (ms : List Message) → base + at ≡ to → MarksReached base marks ms
    → MarksReached base (set marks at true) (record { to = to; list = [] } ∷ ms)
marked_set base at to marks ms e reached k mark h =
    elim (cases_eq k at) [
      | inl same ↦
          let is : mark ≡ true =
          set_same marks at true mark (subst (λ (n : ℕ). slice_get (set marks at true) n ≡ Some mark) same h) in
          let inside =
          slice_get-get_or marks k false
          (omega (arith, slice_get_within (set marks at true) k mark h, length-set marks at true)) in
          let test : (to == (base + k)) ≡ true = eq-eqb to (base + k) (omega (arith, e, same)) in
          ap marked is ∙ sym (merge_mark _) ∙ ap (merge []) (reached k _ inside)
          ∙ ap (λ b. cond b (merge [] (arrival_at (base + k) ms)) (arrival_at (base + k) ms)) (sym test)
      | inr other ↦
          let test : (to == (base + k)) ≡ false = ne_eqb to (base + k) (λ s. other (omega (arith, e, s))) in
          reached k mark (sym (set_other marks k at true other) ∙ h)
          ∙ ap (λ b. cond b (merge [] (arrival_at (base + k) ms)) (arrival_at (base + k) ms)) (sym test)
    ]

unmarked : (n k : ℕ) (mark : Bool) → slice_get (replicate n false) k ≡ Some mark → mark ≡ false
unmarked zero k mark h = cc
unmarked (suc n) zero mark h = cc
unmarked (suc n) (suc k) mark h = unmarked n k mark h

pub first_mark : (base n : ℕ) → MarksReached base (set (replicate n false) 0 true) (entry base)
first_mark base n =
    marked_set base 0 base (replicate n false) [] (omega arith) (λ k mark h. ap marked (unmarked n k mark h))

-- the order of places
up_to_trans : (a b c : List ℕ) → IsUpTo a b → IsUpTo b c → IsUpTo a c
up_to_trans [] b c h k = tt
up_to_trans (x ∷ xs) [] c h k = absurd h
up_to_trans (x ∷ xs) (y ∷ ys) [] h k = absurd k
up_to_trans (x ∷ xs) (y ∷ ys) (z ∷ zs) (inl l) (inl m) = inl (omega (arith, l, m))
up_to_trans (x ∷ xs) (y ∷ ys) (z ∷ zs) (inl l) (inr m) = inl (omega (arith, l, m.0))
up_to_trans (x ∷ xs) (y ∷ ys) (z ∷ zs) (inr l) (inl m) = inl (omega (arith, l.0, m))
up_to_trans (x ∷ xs) (y ∷ ys) (z ∷ zs) (inr l) (inr m) = inr (l.0 ∙ m.0, up_to_trans xs ys zs l.1 m.1)

pub first_left : (x y : Found) (xs ys : List Found) → IsFirstFound x xs → IsFirstFound y ys
    → IsUpTo (found_place x) (found_place y)
    → IsFirstFound x (xs ++ ys)
first_left x y xs ys f g up =
    record {
      stands = in_left x xs ys f.stands;
      first = λ z h. elim (in_append z xs ys h) [
        | inl i ↦ f.first z i
        | inr i ↦ up_to_trans (found_place x) (found_place y) (found_place z) up (g.first z i)
      ];
    }

pub first_right : (x y : Found) (xs ys : List Found) → IsFirstFound x xs → IsFirstFound y ys
    → IsUpTo (found_place y) (found_place x)
    → IsFirstFound y (xs ++ ys)
first_right x y xs ys f g up =
    record {
      stands = in_right y xs ys g.stands;
      first = λ z h. elim (in_append z xs ys h) [
        | inl i ↦ up_to_trans (found_place y) (found_place x) (found_place z) up (f.first z i)
        | inr i ↦ g.first z i
      ];
    }

pub first_with_none : (x : Found) (xs ys : List Found) → ys ≡ [] → IsFirstFound x xs → IsFirstFound x (xs ++ ys)
first_with_none x xs ys none f =
    record {
      stands = in_left x xs ys f.stands;
      first = λ z h. elim (in_append z xs ys h) [
        | inl i ↦ f.first z i
        | inr i ↦ absurd (subst (IsIn z) none i)
      ];
    }

by_numbers : (section pc m n a b : ℕ) → m ≤ n → a ≡ 0 → b ≡ 0
    → IsUpTo (section ∷ pc ∷ m ∷ a ∷ []) (section ∷ pc ∷ n ∷ b ∷ [])
by_numbers section pc m n a b le za zb =
    elim (cases_eq m n) [
      | inl same ↦ inr (refl, inr (refl, inr (same, inr (za ∙ sym zb, tt))))
      | inr other ↦ inr (refl, inr (refl, inl (omega (arith, le, other))))
    ]

up_to_true : (section : ℕ) (f g : Fault) → fault_part f.refusal ≡ 0 → fault_part g.refusal ≡ 0 → is_up_to f g ≡ true
    → IsUpTo (found_place (found section f.pc f.refusal)) (found_place (found section g.pc g.refusal))
up_to_true section f g a b h =
    elim (or_cases (nat_lt f.pc g.pc) (f.pc == g.pc && nat_le (number_of f.refusal) (number_of g.refusal)) h) [
      | inl l ↦ inr (refl, inl (ltb-true f.pc g.pc l))
      | inr e ↦
          let parts = and_parts (f.pc == g.pc) (nat_le (number_of f.refusal) (number_of g.refusal)) e in
          let same = eqb-true f.pc g.pc parts.0 in
          subst (λ (n : ℕ). IsUpTo (found_place (found section f.pc f.refusal))
          (found_place (found section n g.refusal)))
          same
          (by_numbers section f.pc (number_of f.refusal) (number_of g.refusal) (fault_part f.refusal)
          (fault_part g.refusal)
          (leb-true _ _ parts.1) a b)
    ]

up_to_false : (section : ℕ) (f g : Fault) → fault_part f.refusal ≡ 0 → fault_part g.refusal ≡ 0 → is_up_to f g ≡ false
    → IsUpTo (found_place (found section g.pc g.refusal)) (found_place (found section f.pc f.refusal))
up_to_false section f g a b h =
    let parts = or_parts (nat_lt f.pc g.pc) (f.pc == g.pc && nat_le (number_of f.refusal) (number_of g.refusal)) h in
    let low = ltb-false f.pc g.pc parts.0 in
    elim (and_cases (f.pc == g.pc) (nat_le (number_of f.refusal) (number_of g.refusal)) parts.1) [
      | inl other ↦ inr (refl, inl (omega (arith, low, eqb-false f.pc g.pc other)))
      | inr above ↦
          elim (cases_eq g.pc f.pc) [
            | inl same ↦
                subst (λ (n : ℕ). IsUpTo (found_place (found section g.pc g.refusal))
                (found_place (found section n f.refusal))) same
                (by_numbers section g.pc (number_of g.refusal) (number_of f.refusal) (fault_part g.refusal)
                (fault_part f.refusal) (let l = leb-false (number_of f.refusal) (number_of g.refusal) above in
                omega (arith, l)) b a)
            | inr other ↦ inr (refl, inl (omega (arith, low, other)))
          ]
    ]

pub join_true : (section : ℕ) (f g : Fault) (xs ys : List Found) → is_up_to f g ≡ true
    → IsFirstOf xs (Some (found section f.pc f.refusal)) → IsFirstOf ys (Some (found section g.pc g.refusal))
    → IsFirstOf (xs ++ ys) (Some (found section f.pc f.refusal))
join_true section f g xs ys h a b = (first_left _ _ xs ys a.0 b.0 (up_to_true section f g a.1 b.1 h), a.1)

pub join_false : (section : ℕ) (f g : Fault) (xs ys : List Found) → is_up_to f g ≡ false
    → IsFirstOf xs (Some (found section f.pc f.refusal)) → IsFirstOf ys (Some (found section g.pc g.refusal))
    → IsFirstOf (xs ++ ys) (Some (found section g.pc g.refusal))
join_false section f g xs ys h a b = (first_right _ _ xs ys a.0 b.0 (up_to_false section f g a.1 b.1 h), b.1)
