-- The steps of a walk over the live records of a pool, for its callers.
--     begins            at `first`
--     head              at a slot: its record, and what is left after it
--     found, got        what `get`, `set`, `retire` and `next` ask, and what `get` gives
--     after             what `next` gives
--     kept              the walk one slot on, where the record was left
--     reset, retired    the same where it was set, or retired
--     ends              at none
--     left, left_is     the measure, at a slot and where the walk stands
use Rattle.std.proofs.Common.{◌≡◌, ℕ, suc, List, [], ◌∷◌, ◌++◌, length, Option, Some, None, refl}
use Rattle.std.proofs.Common.{sym, ap, ◌∙◌, subst, inl, inr, append_assoc, append-nil}
use Rattle.std.proofs.lemmas.Bool.Decides.{eqb_tells}
use Rattle.std.specs.Prelude.{eqb, nat_eq, true, false, cond, IsSome}
use Rattle.std.specs.List.{IsDistinct, AllByRecursion}
use Rattle.std.specs.Map.{lookup, set_value, remove_entry, keys_of}
use Rattle.attempt_pool.specs.Pooled.{first_slot, slot_after}
use Rattle.attempt_pool.specs.Walk.{WalkIsAt, from_slot, left_at}

same_test : (s : ℕ) → eqb s s ≡ true
same_test s = elim (eqb_tells s s) [ inl h ↦ h.0 | inr h ↦ absurd (h.1 refl) ]

turned_test : (s t : ℕ) → eqb s t ≡ false → eqb t s ≡ false
turned_test s t e = elim (eqb_tells t s) [
  | inl h ↦ let k : eqb t t ≡ false = subst (λ (i : ℕ). eqb i t ≡ false) (sym h.1) e in
      let b : false ≡ true = sym k ∙ same_test t in cc
  | inr h ↦ h.0
]

module _ {T : Type 0} where
  -- none of the front has the slot
  Past : ℕ → List (ℕ × T) → Type 0
  Past s [] = Unit {0}
  Past s (p ∷ ps) = (eqb s p.0 ≡ false) × Past s ps

  each_other : (t s : ℕ) (x : T) (done tail : List (ℕ × T))
      → AllByRecursion (λ y. nat_eq t y ≡ false) (keys_of (done ++ (s, x) ∷ tail)) → eqb t s ≡ false
  each_other t s x [] tail a = a.0
  each_other t s x (p ∷ done) tail a = each_other t s x done tail a.1

  past : (s : ℕ) (x : T) (done tail : List (ℕ × T))
      → IsDistinct nat_eq (keys_of (done ++ (s, x) ∷ tail)) → Past s done
  unfolding IsDistinct Past
  past s x [] tail d = tt
  past s x (p ∷ done) tail d = (
    turned_test p.0 s (each_other p.0 s x done tail d.0),
    past s x done tail d.1,
  )

  module _ (s : ℕ) (x : T) (tail : List (ℕ × T)) where
    found_at : (done : List (ℕ × T)) → Past s done
        → lookup (nat_eq s) (done ++ (s, x) ∷ tail) ≡ Some x
    unfolding Past
    found_at [] h = ap (λ b. cond b (Some x) (lookup (nat_eq s) tail)) (same_test s)
    found_at (p ∷ done) h = ap (λ b. cond b (Some p.1) (lookup (nat_eq s) (done ++ (s, x) ∷ tail)))
        h.0 ∙ found_at done h.1

    after_at : (done : List (ℕ × T)) → Past s done
        → slot_after s (done ++ (s, x) ∷ tail) ≡ first_slot tail
    unfolding Past
    after_at [] h = ap (λ b. cond b (first_slot tail) (slot_after s tail)) (same_test s)
    after_at (p ∷ done) h =
        ap (λ b. cond b (first_slot (done ++ (s, x) ∷ tail))
        (slot_after s (done ++ (s, x) ∷ tail))) h.0 ∙ after_at done h.1

    set_at : (y : T) (done : List (ℕ × T)) → Past s done
        → set_value (nat_eq s) (done ++ (s, x) ∷ tail) y ≡ done ++ (s, y) ∷ tail
    unfolding Past
    set_at y [] h = ap (λ b. cond b ((s, y) ∷ tail) ((s, x) ∷ set_value (nat_eq s) tail y))
        (same_test s)
    set_at y (p ∷ done) h =
        ap (λ b. cond b ((p.0, y) ∷ done ++ (s, x) ∷ tail)
        (p ∷ set_value (nat_eq s) (done ++ (s, x) ∷ tail) y)) h.0
        ∙ ap (λ l. p ∷ l) (set_at y done h.1)

    removed_at : (done : List (ℕ × T)) → Past s done
        → remove_entry (nat_eq s) (done ++ (s, x) ∷ tail) ≡ done ++ tail
    unfolding Past
    removed_at [] h = ap (λ b. cond b tail ((s, x) ∷ remove_entry (nat_eq s) tail)) (same_test s)
    removed_at (p ∷ done) h =
        ap (λ b. cond b (done ++ (s, x) ∷ tail)
        (p ∷ remove_entry (nat_eq s) (done ++ (s, x) ∷ tail))) h.0
        ∙ ap (λ l. p ∷ l) (removed_at done h.1)

    left_of : (done : List (ℕ × T)) → Past s done
        → from_slot s (done ++ (s, x) ∷ tail) ≡ suc (length tail)
    unfolding Past from_slot
    left_of [] h = ap (λ b. cond b (suc (length tail)) (from_slot s tail)) (same_test s)
    left_of (p ∷ done) h =
        ap (λ b. cond b (suc (length (done ++ (s, x) ∷ tail)))
        (from_slot s (done ++ (s, x) ∷ tail))) h.0 ∙ left_of done h.1

    keys_after_set : (y : T) (done : List (ℕ × T))
        → keys_of (done ++ (s, y) ∷ tail) ≡ keys_of (done ++ (s, x) ∷ tail)
    keys_after_set y [] = refl
    keys_after_set y (p ∷ done) = ap (λ l. p.0 ∷ l) (keys_after_set y done)

    each_left : (t : ℕ) (done : List (ℕ × T))
        → AllByRecursion (λ y. nat_eq t y ≡ false) (keys_of (done ++ (s, x) ∷ tail))
        → AllByRecursion (λ y. nat_eq t y ≡ false) (keys_of (done ++ tail))
    each_left t [] a = a.1
    each_left t (p ∷ done) a = (a.0, each_left t done a.1)

    distinct_left : (done : List (ℕ × T)) → IsDistinct nat_eq (keys_of (done ++ (s, x) ∷ tail))
        → IsDistinct nat_eq (keys_of (done ++ tail))
    unfolding IsDistinct
    distinct_left [] d = d.1
    distinct_left (p ∷ done) d = (each_left p.0 done d.0, distinct_left done d.1)

  pub begins : (live : List (ℕ × T)) → IsDistinct nat_eq (keys_of live)
      → WalkIsAt live (first_slot live) [] live
  begins live d = record { all = refl; slot = refl; distinct = d }

  pub record Head (s : ℕ) (rest : List (ℕ × T)) : Type 0 where
    pub item : T
    pub tail : List (ℕ × T)
    pub is : rest ≡ (s, item) ∷ tail

  pub head : (live : List (ℕ × T)) (s : ℕ) (done rest : List (ℕ × T))
      → WalkIsAt live (Some s) done rest → Head s rest
  head live s done [] h = let e : Some s ≡ None = h.slot in cc
  head live s done (p ∷ ps) h = let e : Some s ≡ Some p.0 = h.slot in let is : p.0 ≡ s = cc in
      record { item = p.1; tail = ps; is = ap (λ (k : ℕ). (k, p.1) ∷ ps) is }

  module _ (live : List (ℕ × T)) (s : ℕ) (x : T) (done tail : List (ℕ × T)) (at : Option ℕ)
      (h : WalkIsAt live at done ((s, x) ∷ tail)) where
    distinct' : IsDistinct nat_eq (keys_of (done ++ (s, x) ∷ tail))
    distinct' = subst (λ l. IsDistinct nat_eq (keys_of l)) h.all h.distinct

    first : Past s done
    first = past s x done tail distinct'

    pub got : lookup (nat_eq s) live ≡ Some x
    got = ap (lookup (nat_eq s)) h.all ∙ found_at s x tail done first

    pub found : IsSome (lookup (nat_eq s) live)
    found = subst IsSome (sym got) refl

    pub after : slot_after s live ≡ first_slot tail
    after = ap (slot_after s) h.all ∙ after_at s x tail done first

    pub kept : WalkIsAt live (slot_after s live) (done ++ (s, x) ∷ []) tail
    kept = record {
      all = h.all ∙ sym (append_assoc done ((s, x) ∷ []) tail);
      slot =
          after;
      distinct = h.distinct;
    }

    pub reset : (y : T) → WalkIsAt (set_value (nat_eq s) live y) (slot_after s live)
        (done ++ (s, y) ∷ []) tail
    reset y =
        let all = ap (λ l. set_value (nat_eq s) l y) h.all ∙ set_at s x tail y done first in
        record {
          all = all ∙ sym (append_assoc done ((s, y) ∷ []) tail);
          slot = after;
          distinct = subst (IsDistinct nat_eq)
              (sym (ap keys_of all ∙ keys_after_set s x tail y done)) distinct';
        }

    pub retired : WalkIsAt (remove_entry (nat_eq s) live) (slot_after s live) done tail
    retired =
        let all = ap (remove_entry (nat_eq s)) h.all ∙ removed_at s x tail done first in
        record {
          all = all;
          slot = after;
          distinct =
              subst (λ l. IsDistinct nat_eq (keys_of l)) (sym all)
              (distinct_left s x tail done distinct');
        }

    pub left : left_at (Some s) live ≡ suc (length tail)
    unfolding left_at
    left = ap (from_slot s) h.all ∙ left_of s x tail done first

  pub ends : (live done rest : List (ℕ × T)) → WalkIsAt live None done rest
      → (rest ≡ []) × (live ≡ done)
  ends live done [] h = (refl, h.all ∙ append-nil done)
  ends live done (p ∷ ps) h = let e : None ≡ Some p.0 = h.slot in cc

  -- what is left where a walk stands
  pub left_is : (live : List (ℕ × T)) (at : Option ℕ) (done rest : List (ℕ × T))
      → WalkIsAt live at done rest → left_at at live ≡ length rest
  unfolding left_at
  left_is live None done rest h = ap length (sym (ends live done rest h).0)
  left_is live (Some s) done rest h = let on = head live s done rest h in
      left live s on.item done on.tail (Some s) (subst (WalkIsAt live (Some s) done) on.is h)
      ∙ ap length (sym on.is)
