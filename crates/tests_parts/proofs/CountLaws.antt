-- A walk that counts down: what lies after it, and what it will make of what is left, is what it
-- makes of the whole.
use Rattle.std.proofs.Common.{◌≡◌, ◌≢◌, ℕ, ◌+◌, ◌-◌, ◌<◌, List, [], ◌∷◌, ◌++◌, length, Option, Some}
use Rattle.std.proofs.Common.{None, refl, sym, ap, ◌∙◌, subst, arith, inl, inr, append_assoc}
use Rattle.std.proofs.Common.{append-nil}
use Rattle.std.proofs.lemmas.Bool.Decides.{eqb_tells}
use Rattle.std.specs.Prelude.{nat_eq, cond, IsSome}
use Rattle.std.specs.List.{IsDistinct}
use Rattle.std.specs.Map.{lookup, set_value, remove_entry, keys_of}
use Rattle.attempt_pool.specs.Pooled.{Pooled, pooled, first_slot, slot_after}
use Rattle.attempt_pool.specs.Walk.{WalkIsAt, left_at}
use Rattle.attempt_pool.proofs.WalkLaws as walk
use Rattle.tests_parts.specs.Counted.{counted_down}

pub record Counting (pool : Pooled ℕ) (at : Option ℕ) (old : Pooled ℕ) : Type 0 where
  pub done : List (ℕ × ℕ)
  pub rest : List (ℕ × ℕ)
  pub stands : WalkIsAt pool.live at done rest
  pub makes : done ++ counted_down rest ≡ counted_down old.live
  pub cap : pool.cap ≡ old.cap

counted-zero : (s n : ℕ) (ps : List (ℕ × ℕ)) → n ≡ 0 → counted_down ((s, n) ∷ ps) ≡ counted_down ps
unfolding counted_down
counted-zero s n ps e = elim (eqb_tells n 0) [
  | inl h ↦ ap (λ b. cond b (counted_down ps) ((s, n - 1) ∷ counted_down ps)) h.0
  | inr h ↦ absurd (h.1 e)
]

counted-more : (s n : ℕ) (ps : List (ℕ × ℕ)) → n ≢ 0
    → counted_down ((s, n) ∷ ps) ≡ (s, n - 1) ∷ counted_down ps
unfolding counted_down
counted-more s n ps ne = elim (eqb_tells n 0) [
  | inl h ↦ absurd (ne h.1)
  | inr h ↦ ap (λ b. cond b (counted_down ps) ((s, n - 1) ∷ counted_down ps)) h.0
]

empty-counted : counted_down [] ≡ []
unfolding counted_down
empty-counted = refl

pub starts : (pool : Pooled ℕ) (at : Option ℕ) → IsDistinct nat_eq (keys_of pool.live)
    → at ≡ first_slot pool.live → Counting pool at pool
starts pool at d e = record {
  done = [];
  rest = pool.live;
  stands = subst (λ (a : Option ℕ). WalkIsAt pool.live a [] pool.live) (sym e)
      (walk.begins pool.live d);
  makes = refl;
  cap = refl;
}

pub over : (pool : Pooled ℕ) (at : Option ℕ) (old : Pooled ℕ) → Counting pool at old → at ≡ None
    → pool ≡ pooled old.cap (counted_down old.live)
over pool at old h e =
    let end = walk.ends pool.live h.done h.rest
    (subst (λ (a : Option ℕ). WalkIsAt pool.live a h.done h.rest) e h.stands) in
    (λ i. pooled (h.cap i)
    ((end.1 ∙ sym (ap (λ l. h.done ++ l) (ap counted_down end.0 ∙ empty-counted)
    ∙ append-nil h.done) ∙ h.makes) i))

module _ (pool : Pooled ℕ) (old : Pooled ℕ) (at : Option ℕ) (s : ℕ) (h : Counting pool at old)
    (is : at ≡ Some s) where
  here : WalkIsAt pool.live (Some s) h.done h.rest
  here = subst (λ (a : Option ℕ). WalkIsAt pool.live a h.done h.rest) is h.stands

  on : walk.Head s h.rest
  on = walk.head pool.live s h.done h.rest here

  stands : WalkIsAt pool.live (Some s) h.done ((s, on.item) ∷ on.tail)
  stands = subst (WalkIsAt pool.live (Some s) h.done) on.is here

  pub live : IsSome (lookup (nat_eq s) pool.live)
  live = walk.found pool.live s on.item h.done on.tail (Some s) stands

  item_is : (n : ℕ) → lookup (nat_eq s) pool.live ≡ Some n → on.item ≡ n
  item_is n e = let g = walk.got pool.live s on.item h.done on.tail (Some s) stands in cc

  total : h.done ++ counted_down ((s, on.item) ∷ on.tail) ≡ counted_down old.live
  total = ap (λ l. h.done ++ counted_down l) (sym on.is) ∙ h.makes

  left_before : left_at at pool.live ≡ length on.tail + 1
  left_before = let l = walk.left pool.live s on.item h.done on.tail (Some s) stands in
      ap (λ (a : Option ℕ). left_at a pool.live) is ∙ l ∙ omega arith

  module _ (n : ℕ) (got : lookup (nat_eq s) pool.live ≡ Some n) (next : Option ℕ)
      (after : next ≡ slot_after s pool.live) (now : Pooled ℕ) where
    moved : (done : List (ℕ × ℕ)) (l : List (ℕ × ℕ)) → now ≡ pooled pool.cap l
        → WalkIsAt l (slot_after s pool.live) done on.tail
        → done ++ counted_down on.tail ≡ counted_down old.live
        → Counting now next old × (left_at next now.live < left_at at pool.live)
    moved done l e stands' makes =
        let lists = ap (λ (p : Pooled ℕ). p.live) e in
        let stands2 : WalkIsAt now.live next done on.tail =
        subst (λ (a : Option ℕ). WalkIsAt now.live a done on.tail) (sym after)
        (subst (λ k. WalkIsAt k (slot_after s pool.live) done on.tail) (sym lists) stands') in (
          record {
            done = done;
            rest = on.tail;
            stands = stands2;
            makes = makes;
            cap =
                ap (λ (p : Pooled ℕ). p.cap) e ∙ h.cap;
          },
          let less = walk.left_is now.live next done on.tail stands2 in omega (arith, left_before),
        )

    pub retired : n ≡ 0 → now ≡ pooled pool.cap (remove_entry (nat_eq s) pool.live)
        → Counting now next old × (left_at next now.live < left_at at pool.live)
    retired zero e = moved h.done (remove_entry (nat_eq s) pool.live) e
        (walk.retired pool.live s on.item h.done on.tail (Some s) stands)
        (ap (λ l. h.done ++ l) (sym (counted-zero s on.item on.tail (item_is n got ∙ zero)))
        ∙ total)

    pub set : n ≢ 0 → now ≡ pooled pool.cap (set_value (nat_eq s) pool.live (n - 1))
        → Counting now next old × (left_at next now.live < left_at at pool.live)
    set more e = moved (h.done ++ (s, n - 1) ∷ []) (set_value (nat_eq s) pool.live (n - 1)) e
        (walk.reset pool.live s on.item h.done on.tail (Some s) stands (n - 1))
        (append_assoc h.done ((s, n - 1) ∷ []) (counted_down on.tail)
        ∙ ap (λ (k : ℕ). h.done ++ (s, k - 1) ∷ counted_down on.tail) (sym (item_is n got))
        ∙ ap (λ l. h.done ++ l)
        (sym (counted-more s on.item on.tail (λ w. more (sym (item_is n got) ∙ w)))) ∙ total)
