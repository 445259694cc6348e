-- A walk that only reads.
use Rattle.std.proofs.Common.{◌≡◌, ℕ, ◌<◌, List, [], ◌∷◌, ◌++◌, Option, Some, None}
use Rattle.std.proofs.Common.{refl, sym, ap, subst, arith}
use Rattle.std.specs.Prelude.{nat_eq, IsSome, IfSome}
use Rattle.std.specs.List.{IsDistinct}
use Rattle.std.specs.Map.{lookup, keys_of}
use Rattle.attempt_pool.specs.Pooled.{first_slot, slot_after}
use Rattle.attempt_pool.specs.Walk.{WalkIsAt, left_at}
use Rattle.attempt_pool.proofs.WalkLaws as walk

module _ {T : Type 0} where
  pub record Reading (live : List (ℕ × T)) (at : Option ℕ) : Type 0 where
    pub done : List (ℕ × T)
    pub rest : List (ℕ × T)
    pub stands : WalkIsAt live at done rest

  pub starts : (live : List (ℕ × T)) (at : Option ℕ) → IsDistinct nat_eq (keys_of live)
      → at ≡ first_slot live → Reading live at
  starts live at d e = record {
    done = [];
    rest = live;
    stands =
        subst (λ (a : Option ℕ). WalkIsAt live a [] live) (sym e) (walk.begins live d);
  }

  module _ (live : List (ℕ × T)) (at : Option ℕ) (s : ℕ) (h : Reading live at) (is : at ≡ Some s)
    where
      here : WalkIsAt live (Some s) h.done h.rest
      here = subst (λ (a : Option ℕ). WalkIsAt live a h.done h.rest) is h.stands

      on : walk.Head s h.rest
      on = walk.head live s h.done h.rest here

      stands : WalkIsAt live (Some s) h.done ((s, on.item) ∷ on.tail)
      stands = subst (WalkIsAt live (Some s) h.done) on.is here

      pub found : IsSome (lookup (nat_eq s) live)
      found = walk.found live s on.item h.done on.tail (Some s) stands

      pub moves : (next : Option ℕ) → next ≡ slot_after s live
          → Reading live next × (left_at next live < left_at at live)
      moves next e =
          let k = subst (λ (a : Option ℕ). WalkIsAt live a (h.done ++ (s, on.item) ∷ []) on.tail) (sym e)
          (walk.kept live s on.item h.done on.tail (Some s) stands) in
          let less = walk.left_is live next (h.done ++ (s, on.item) ∷ []) on.tail k in
          let more = walk.left live s on.item h.done on.tail (Some s) stands in (
            record { done = h.done ++ (s, on.item) ∷ []; rest = on.tail; stands = k },
            omega (arith, less, more, ap (λ (a : Option ℕ). left_at a live) is),
          )

  pub found_if : (live : List (ℕ × T)) (at : Option ℕ) → Reading live at
      → IfSome at (λ s. IsSome (lookup (nat_eq s) live))
  found_if live None h = tt
  found_if live (Some s) h = found live (Some s) s h refl
