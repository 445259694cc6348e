-- Which variables are asked for.
use Rattle.std.specs.Prelude.{ℕ, List, [], ◌∷◌, Bool, true, ◌&&◌, ◌||◌, Option, Some, None, drop}
use Rattle.std.specs.Prelude.{length, nat_eq, codes}
use Rattle.std.specs.List.{starts_with}
use Rattle.std.specs.Option.{option_map}
use Rattle.cli_names.specs.declared.filter.Filter.{Filter}

-- the text stands somewhere in the path
unfoldable pub has_text : List ℕ → List ℕ → Bool
has_text text [] = starts_with nat_eq [] text
has_text text (b ∷ bs) = starts_with nat_eq (b ∷ bs) text || has_text text bs

-- the path is that of the scope, a dot, and more
abbrev pub is_inside : List ℕ → List ℕ → Bool
is_inside scope path =
    starts_with nat_eq path scope && starts_with nat_eq (drop (length scope) path) (codes ".")

abbrev pub if_any : (List ℕ → List ℕ → Bool) → Option (List ℕ) → List ℕ → Bool
if_any test None path = true
if_any test (Some text) path = test text path

-- a path is asked for
unfoldable pub is_asked : Filter → List ℕ → Bool
is_asked f path =
    if_any has_text (option_map (λ t. t.now) f.matching) path
    && if_any is_inside (option_map (λ t. t.now) f.scope) path
