-- Other booleans in the same places change neither plainness nor the number of booleans.
use Rattle.std.proofs.Common.{◌≡◌, List, [], ◌∷◌, ◌++◌, map, refl, sym, ap, ◌∙◌}
use Rattle.assertions.specs.Written.{Written, boolean, delay, lead, repeat, or, and, intersect, throughout}
use Rattle.types.specs.Outlines.{map_written}
use Rattle.types.specs.Leaves.{leaves}
use Rattle.positions.specs.Laws.{IsPlain, booleans}

map_two : {B C : Type 0} (f : B → C) (xs ys : List B) → map f xs ++ map f ys ≡ map f (xs ++ ys)
map_two f [] ys = refl
map_two {B} {C} f (x ∷ xs) ys = ap (λ (zs : List C). f x ∷ zs) (map_two f xs ys)

module _ {B C : Type 0} (f : B → C) where
  pub plain_map : (w : Written B) → IsPlain w → IsPlain (map_written f w)
  plain_map (boolean b) h = tt
  plain_map (delay r least most s) h = (h.0, plain_map r h.1, plain_map s h.2)
  plain_map (lead least most s) h = plain_map s h
  plain_map (repeat r least most) h = plain_map r h
  plain_map (or r s) h = (plain_map r h.0, plain_map s h.1)
  plain_map (and r s) h = h
  plain_map (intersect r s) h = h
  plain_map (throughout b r) h = plain_map r h

  pub map_plain : (w : Written B) → IsPlain (map_written f w) → IsPlain w
  map_plain (boolean b) h = tt
  map_plain (delay r least most s) h = (h.0, map_plain r h.1, map_plain s h.2)
  map_plain (lead least most s) h = map_plain s h
  map_plain (repeat r least most) h = map_plain r h
  map_plain (or r s) h = (map_plain r h.0, map_plain s h.1)
  map_plain (and r s) h = h
  map_plain (intersect r s) h = h
  map_plain (throughout b r) h = map_plain r h

  pub booleans_map : (w : Written B) → booleans (map_written f w) ≡ booleans w
  booleans_map (boolean b) = refl
  booleans_map (delay r least most s) = rw (booleans_map r, booleans_map s) refl
  booleans_map (lead least most s) = booleans_map s
  booleans_map (repeat r least most) = booleans_map r
  booleans_map (or r s) = rw (booleans_map r, booleans_map s) refl
  booleans_map (and r s) = rw (booleans_map r, booleans_map s) refl
  booleans_map (intersect r s) = rw (booleans_map r, booleans_map s) refl
  booleans_map (throughout b r) = rw (booleans_map r) refl

  pub leaves_map : (w : Written B) → leaves (map_written f w) ≡ map f (leaves w)
  leaves_map (boolean b) = refl
  leaves_map (delay r least most s) = rw (leaves_map r, leaves_map s) (map_two f (leaves r) (leaves s))
  leaves_map (lead least most s) = leaves_map s
  leaves_map (repeat r least most) = leaves_map r
  leaves_map (or r s) = rw (leaves_map r, leaves_map s) (map_two f (leaves r) (leaves s))
  leaves_map (and r s) = rw (leaves_map r, leaves_map s) (map_two f (leaves r) (leaves s))
  leaves_map (intersect r s) = rw (leaves_map r, leaves_map s) (map_two f (leaves r) (leaves s))
  leaves_map (throughout b r) = ap (λ (zs : List C). f b ∷ zs) (leaves_map r)
