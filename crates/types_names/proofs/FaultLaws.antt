-- The least of several places.
use Rattle.std.proofs.Common.{◌≡◌, ℕ, min, List, [], ◌∷◌, ◌++◌, Option, Some, None, refl, sym, ap, ◌∙◌, arith}
use Rattle.types_names.specs.Faults.{earlier, least}

pub earlier-none : (a : Option ℕ) → earlier a None ≡ a
earlier-none None = refl
earlier-none (Some a) = refl

min-assoc : (a b c : ℕ) → min (min a b) c ≡ min a (min b c)
min-assoc a b c = omega arith

pub earlier-assoc : (a b c : Option ℕ) → earlier (earlier a b) c ≡ earlier a (earlier b c)
earlier-assoc None b c = refl
earlier-assoc (Some a) None c = refl
earlier-assoc (Some a) (Some b) None = refl
earlier-assoc (Some a) (Some b) (Some c) = ap Some (min-assoc a b c)

pub least-append : (xs ys : List ℕ) → least (xs ++ ys) ≡ earlier (least xs) (least ys)
least-append [] ys = refl
least-append (x ∷ xs) ys =
    ap (earlier (Some x)) (least-append xs ys) ∙ sym (earlier-assoc (Some x) (least xs) (least ys))

pub ruleset for_least = (least-append)

-- no fault of a whole is none of either part
pub no_faults-parts : (xs ys : List ℕ) → xs ++ ys ≡ [] → (xs ≡ []) × (ys ≡ [])
no_faults-parts [] ys h = (refl, h)
no_faults-parts (x ∷ xs) ys h = absurd cc
