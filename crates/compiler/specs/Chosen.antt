-- The expressions and the counters of a program, chosen by their places from those of a text. A
-- place that isn't there chooses nothing.
use Rattle.std.specs.Prelude.{ℕ, List, [], ◌∷◌, Option, Some, None, slice_get}
use Rattle.expressions.specs.declared.expr.Expr.{Expr}
use Rattle.expressions.specs.declared.counter.Counter.{Counter}
use Rattle.expressions.specs.Terms.{Term}
use Rattle.expressions.specs.Expressions.{term_of}
use Rattle.compiler.specs.Samples.{Held}

abbrev pub term_found : Option Expr → List Term → List Term
term_found None rest = rest
term_found (Some e) rest = term_of e ∷ rest

abbrev pub terms_at : List Expr → List ℕ → List Term
terms_at all [] = []
terms_at all (place ∷ places) = term_found (slice_get all place) (terms_at all places)

abbrev pub held_found : ℕ → Option Counter → List Held → List Held
held_found place None rest = rest
held_found place (Some c) rest = record { place = place; counter = c } ∷ rest

abbrev pub held_counters : List Counter → List ℕ → List Held
held_counters all [] = []
held_counters all (place ∷ places) = held_found place (slice_get all place)
    (held_counters all places)
