-- A walk over the live records of a pool, one slot on.
use Rattle.std.proofs.Common.{◌≡◌, ℕ, ◌+◌, ◌<◌, List, [], ◌∷◌, ◌++◌, length, Option, Some, None}
use Rattle.std.proofs.Common.{sym, ap, ◌∙◌, subst, arith}
use Rattle.std.specs.Prelude.{nat_eq, IsSome}
use Rattle.std.specs.List.{IsDistinct}
use Rattle.std.specs.Map.{lookup, set_value, remove_entry, keys_of}
use Rattle.attempt_pool.specs.Pooled.{Pooled, pooled, first_slot, slot_after}
use Rattle.attempt_pool.specs.Walk.{WalkIsAt, left_at}
use Rattle.attempt_pool.proofs.WalkLaws as walk

module _ {T : Type 0} where
  -- at the first slot
  pub starts : (pool : Pooled T) (at : Option ℕ) → IsDistinct nat_eq (keys_of pool.live) → at ≡ first_slot pool.live
      → WalkIsAt pool.live at [] pool.live
  starts pool at d e = subst (λ (a : Option ℕ). WalkIsAt pool.live a [] pool.live) (sym e) (walk.begins pool.live d)

  -- at none
  pub over : (pool : Pooled T) (at : Option ℕ) (done rest : List (ℕ × T)) → WalkIsAt pool.live at done rest → at ≡ None
      → (rest ≡ []) × (pool.live ≡ done)
  over pool at done rest h e = walk.ends pool.live done rest
      (subst (λ (a : Option ℕ). WalkIsAt pool.live a done rest) e h)

  -- at a slot whose record was read
  module _ (pool : Pooled T) (at : Option ℕ) (s : ℕ) (done rest : List (ℕ × T)) (h : WalkIsAt pool.live at done rest)
      (is : at ≡ Some s) where
    here : WalkIsAt pool.live (Some s) done rest
    here = subst (λ (a : Option ℕ). WalkIsAt pool.live a done rest) is h

    on : walk.Head s rest
    on = walk.head pool.live s done rest here

    pub tail : List (ℕ × T)
    tail = on.tail

    stands : WalkIsAt pool.live (Some s) done ((s, on.item) ∷ on.tail)
    stands = subst (WalkIsAt pool.live (Some s) done) on.is here

    pub live : IsSome (lookup (nat_eq s) pool.live)
    live = walk.found pool.live s on.item done on.tail (Some s) stands

    left_before : left_at at pool.live ≡ length on.tail + 1
    left_before =
        let l = walk.left pool.live s on.item done on.tail (Some s) stands in
        ap (λ (a : Option ℕ). left_at a pool.live) is ∙ l ∙ omega arith

    module _ (x : T) (got : lookup (nat_eq s) pool.live ≡ Some x) where
      item_is : on.item ≡ x
      item_is = let g = walk.got pool.live s on.item done on.tail (Some s) stands in cc

      pub split : rest ≡ (s, x) ∷ tail
      unfolding tail
      split = on.is ∙ ap (λ (y : T). (s, y) ∷ on.tail) item_is

      module _ (next : Option ℕ) (after : next ≡ slot_after s pool.live) (now : Pooled T) where
        moved : (before : List (ℕ × T)) (l : List (ℕ × T)) → now ≡ pooled pool.cap l
            → WalkIsAt l (slot_after s pool.live) before on.tail → WalkIsAt now.live next before tail
            × (left_at next now.live < left_at at pool.live)
        unfolding tail
        moved before l e stood =
            let lists = ap (λ (p : Pooled T). p.live) e in
            let there : WalkIsAt now.live next before on.tail =
            subst (λ (a : Option ℕ). WalkIsAt now.live a before on.tail) (sym after)
            (subst (λ k. WalkIsAt k (slot_after s pool.live) before on.tail) (sym lists) stood) in
            (there, let less = walk.left_is now.live next before on.tail there in omega (arith, left_before))

        pub retired : now ≡ pooled pool.cap (remove_entry (nat_eq s) pool.live) → WalkIsAt now.live next done tail
            × (left_at next now.live < left_at at pool.live)
        retired e =
            moved done (remove_entry (nat_eq s) pool.live) e
            (walk.retired pool.live s on.item done on.tail (Some s) stands)

        pub reset : (y : T) → now ≡ pooled pool.cap (set_value (nat_eq s) pool.live y)
            → WalkIsAt now.live next (done ++ (s, y) ∷ []) tail × (left_at next now.live < left_at at pool.live)
        reset y e =
            moved (done ++ (s, y) ∷ []) (set_value (nat_eq s) pool.live y) e
            (walk.reset pool.live s on.item done on.tail (Some s) stands y)

      -- the record was left as it is
      module _ (next : Option ℕ) (after : next ≡ slot_after s pool.live) where
        pub kept : WalkIsAt pool.live next (done ++ (s, x) ∷ []) tail × (left_at next pool.live < left_at at pool.live)
        unfolding tail
        kept =
            let stood = walk.kept pool.live s on.item done on.tail (Some s) stands in
            let there : WalkIsAt pool.live next (done ++ (s, on.item) ∷ []) on.tail =
            subst (λ (a : Option ℕ). WalkIsAt pool.live a (done ++ (s, on.item) ∷ []) on.tail) (sym after) stood in (
              subst (λ (y : T). WalkIsAt pool.live next (done ++ (s, y) ∷ []) on.tail) item_is there,
              let less =
                  walk.left_is pool.live next (done ++ (s, on.item) ∷ []) on.tail there in omega (arith, left_before),
            )
