-- Assertions among items.
use Rattle.std.proofs.Common.{◌≡◌, ℕ, List, [], ◌∷◌, ◌++◌, map, refl, ap, ◌∙◌}
use Rattle.std.proofs.lemmas.List.{map-append}
use Rattle.parser_grammar.specs.Trees.{ItemForm, AssertionForm, counter, declaration, assertion}
use Rattle.parser_grammar.specs.Views.{item_of}
use Rattle.parser_grammar.specs.declared.item.ItemTree.{ItemTree}
use Rattle.import_text.specs.Texts.{assertions_of}

-- those of the items before stand before those of the items after
assertions-append : (xs ys : List ItemForm) → assertions_of (xs ++ ys) ≡ assertions_of xs ++ assertions_of ys
assertions-append [] ys = refl
assertions-append (counter c ∷ xs) ys = assertions-append xs ys
assertions-append (declaration d ∷ xs) ys = assertions-append xs ys
assertions-append (assertion a ∷ xs) ys = ap (λ rest. a ∷ rest) (assertions-append xs ys)

-- an assertion after items that are none is the only one
pub only-last : (xs before : List ItemTree) (x : ItemTree) (a : AssertionForm) → xs ≡ before ++ x ∷ []
    → assertions_of (map item_of before) ≡ [] → item_of x ≡ assertion a → assertions_of (map item_of xs) ≡ a ∷ []
only-last xs before x a is none last =
    ap (λ ys. assertions_of (map item_of ys)) is ∙ ap assertions_of (map-append item_of before (x ∷ []))
    ∙ assertions-append (map item_of before) (item_of x ∷ [])
    ∙ ap (λ ys. ys ++ assertions_of (item_of x ∷ [])) none ∙ ap (λ i. assertions_of (i ∷ [])) last
