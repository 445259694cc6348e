-- What the sequences of a text say: by their outlines, and with their expressions' meanings (IEEE
-- 1800-2017, 16.7 to 16.9).
use Rattle.std.specs.Prelude.{◌≡◌, ℕ, ◌-◌, List, map, Option, Some, None, slice_get}
use Rattle.std.specs.List.{AllZip}
use Rattle.parser_grammar.specs.declared.bound.Bound.{Bound}
use Rattle.parser_grammar.specs.declared.bound.Range.{Range}
use Rattle.parser_grammar.specs.declared.operator.Junction.{Junction}
use Rattle.parser_grammar.specs.declared.operator.Junction.TheVariants.{Intersect, And, Or}
use Rattle.parser_grammar.specs.Trees.{Tree, SequenceForm, boolean, repeated, late, delayed}
use Rattle.parser_grammar.specs.Trees.{throughout}
use Rattle.parser_grammar.specs.Trees.{joined, Steps, no_step, step, Others, no_other, other}
use Rattle.parser_grammar.specs.Trees.{ItemForm}
use Rattle.expressions.specs.declared.expr.Expr.{Expr}
use Rattle.expressions.specs.Expressions.{term_of}
use Rattle.assertions.specs.declared.sequence.Boolean.{Boolean}
use Rattle.assertions.specs.declared.sequence.Boolean.TheVariants.{Listed}
use Rattle.types.specs.Drafts as drafts
use Rattle.types.specs.Drafts.{Draft}
use Rattle.types_names.specs.Scopes.{Scope, sequence_named}
use Rattle.types_names.specs.Meanings.{Means}
use Rattle.types.specs.Texts.{declarations_of}

-- A range [least:most] has its least count and by how many its largest is more; one count n is
-- [n:n].
abbrev pub least_of : Range → ℕ
least_of r = r.low.value

abbrev pub extra_or : ℕ → Option Bound → ℕ
extra_or low None = 0
extra_or low (Some high) = high.value - low

abbrev pub extra_of : Range → ℕ
extra_of r = extra_or r.low.value r.high

-- The expression is the boolean: its place has what the expression means.
pub record IsBooleanOf (s : Scope) (columns : List (List ℕ)) (booleans : List Expr) (tree : Tree)
    (b : Boolean) : Type 0 where
  pub place : ℕ
  pub expression : Expr
  pub is : b ≡ Listed place
  pub found : slice_get booleans place ≡ Some expression
  pub means : Means s columns tree (term_of expression)

-- A boolean of a sequence that is the name of a named sequence stands for it; any other is an
-- expression.
abbrev pub ReadsBoolean : Scope → List (List ℕ) → List Expr → Option ℕ → Tree → Draft Boolean
    → Type 0
ReadsBoolean s columns booleans (Some p) tree d = d ≡ drafts.name p
ReadsBoolean s columns booleans None tree d =
    (b : Boolean) × IsBooleanOf s columns booleans tree b × (d ≡ drafts.boolean b)

-- two sides, joined
abbrev pub joined_by : {B : Type 0} → Junction → Draft B → Draft B → Draft B
joined_by Intersect a b = drafts.intersect a b
joined_by And a b = drafts.and a b
joined_by Or a b = drafts.or a b

-- What a sequence of the text says, each expression by its place in a list of typed ones. Delays,
-- and the sides of "intersect", "and" and "or", group to the left.
unfoldable mutual
  pub Reads : Scope → List (List ℕ) → List Expr → SequenceForm → Draft Boolean → Type 0
  Reads s columns booleans (boolean tree) d =
      ReadsBoolean s columns booleans (sequence_named s tree) tree d
  Reads s columns booleans (repeated q r) d =
      (a : Draft Boolean) × Reads s columns booleans q a
      × (d ≡ drafts.repeat a (least_of r) (extra_of r))
  Reads s columns booleans (late t r q) d =
      (a : Draft Boolean) × Reads s columns booleans q a
      × (d ≡ drafts.lead (least_of r) (extra_of r) a)
  Reads s columns booleans (delayed q steps) d =
      (a : Draft Boolean) × Reads s columns booleans q a × ReadsSteps s columns booleans a steps d
  Reads s columns booleans (throughout tree q) d =
      (b : Boolean) × (a : Draft Boolean) × IsBooleanOf s columns booleans tree b
      × Reads s columns booleans q a × (d ≡ drafts.throughout b a)
  Reads s columns booleans (joined j q others) d =
      (a : Draft Boolean) × Reads s columns booleans q a
      × ReadsOthers s columns booleans j a others d

  -- a, and each delay with what it delays
  pub ReadsSteps : Scope → List (List ℕ) → List Expr → Draft Boolean → Steps → Draft Boolean
      → Type 0
  ReadsSteps s columns booleans a no_step d = d ≡ a
  ReadsSteps s columns booleans a (step r q steps) d =
      (b : Draft Boolean) × Reads s columns booleans q b
      × ReadsSteps s columns booleans (drafts.delay a (least_of r) (extra_of r) b) steps d

  -- a, and each further side of "and" or "or"
  pub ReadsOthers : Scope → List (List ℕ) → List Expr → Junction → Draft Boolean → Others
      → Draft Boolean → Type 0
  ReadsOthers s columns booleans j a no_other d = d ≡ a
  ReadsOthers s columns booleans j a (other q others) d =
      (b : Draft Boolean) × Reads s columns booleans q b
      × ReadsOthers s columns booleans j (joined_by j a b) others d

-- the same of several sequences, in their order
abbrev pub AllRead : Scope → List (List ℕ) → List Expr → List SequenceForm → List (Draft Boolean)
    → Type 0
AllRead s columns booleans = AllZip (Reads s columns booleans)

-- a dot where an expression stands
pub data Dot : Type 0 where
  dot : Dot

abbrev pub outline_by : Option ℕ → Draft Dot
outline_by (Some p) = drafts.name p
outline_by None = drafts.boolean dot

-- The outline of a sequence of the text: its names and forms, with a dot for each expression.
-- Weights, emptiness and cycles are told by it.
unfoldable mutual
  pub outline : Scope → SequenceForm → Draft Dot
  outline s (boolean tree) = outline_by (sequence_named s tree)
  outline s (repeated q r) = drafts.repeat (outline s q) (least_of r) (extra_of r)
  outline s (late t r q) = drafts.lead (least_of r) (extra_of r) (outline s q)
  outline s (delayed q steps) = outline_steps s (outline s q) steps
  outline s (throughout tree q) = drafts.throughout dot (outline s q)
  outline s (joined j q others) = outline_others s j (outline s q) others

  pub outline_steps : Scope → Draft Dot → Steps → Draft Dot
  outline_steps s a no_step = a
  outline_steps s a (step r q steps) =
      outline_steps s (drafts.delay a (least_of r) (extra_of r) (outline s q)) steps

  pub outline_others : Scope → Junction → Draft Dot → Others → Draft Dot
  outline_others s j a no_other = a
  outline_others s j a (other q others) = outline_others s j (joined_by j a (outline s q)) others

-- where a text's names are looked up
abbrev pub Where : Type 0
Where = Scope

-- the outlines of the named sequences
abbrev pub outlines_of : Scope → List ItemForm → List (Draft Dot)
outlines_of s items = map (λ d. outline s d.body) (declarations_of items)
