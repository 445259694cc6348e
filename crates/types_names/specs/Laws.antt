-- Laws of what expressions mean.
use Rattle.std.specs.Prelude.{◌≡◌, ℕ, List}
use Rattle.parser_grammar.specs.Trees.{Tree}
use Rattle.expressions.specs.Terms.{Term, Samples, width_of, value_of}
use Rattle.types_names.specs.Scopes.{Scope}
use Rattle.types_names.specs.Width.{own_width}
use Rattle.types_names.specs.Meanings.{Means}

-- What an expression means has the expression's own width.
abbrev pub MeaningsHaveWidths : Type 0
MeaningsHaveWidths =
    (s : Scope) (columns : List (List ℕ)) (t : Tree) (e : Term) → Means s columns t e
    → width_of e ≡ own_width s t

-- An expression has one value at each tick, in each context.
abbrev pub MeaningsAreOne : Type 0
MeaningsAreOne =
    (s : Scope) (columns : List (List ℕ)) (t : Tree) (e f : Term) → Means s columns t e
    → Means s columns t f →
    (x : Samples) (k w : ℕ) → value_of x e k w ≡ value_of x f k w
