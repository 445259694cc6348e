-- What the expressions of a text mean.
use Rattle.std.specs.Prelude.{◌≡◌, ℕ, List, Option, Some, None}
use Rattle.lexer.specs.declared.token.Number.{Number}
use Rattle.parser_grammar.specs.declared.bound.Select.{Select}
use Rattle.parser_grammar.specs.Trees.{Tree, number, path, concatenation, past, call, unary, chain}
use Rattle.parser_grammar.specs.Trees.{choice}
use Rattle.parser_grammar.specs.Trees.{Links, end, link, Parts, no_part, part}
use Rattle.signals.specs.declared.bits.Bits.{Bits}
use Rattle.expressions.specs.declared.name.Origin.{Origin}
use Rattle.expressions.specs.declared.name.Origin.TheVariants as origins
use Rattle.expressions.specs.declared.name.Name.{Name}
use Rattle.expressions.specs.declared.slice.Slice.{Slice}
use Rattle.expressions.specs.Terms as terms
use Rattle.expressions.specs.Terms.{Term}
use Rattle.types_names.specs.declared.own.Own.TheVariants.{Counter, Sequence}
use Rattle.types_names.specs.declared.own.Meaning.{Meaning}
use Rattle.types_names.specs.declared.own.Meaning.TheVariants.{Signal, Own as Declared}
use Rattle.types_names.specs.declared.operator.Binary.{Binary}
use Rattle.types_names.specs.declared.operator.Binary.TheVariants.{Arithmetic, Shift}
use Rattle.types_names.specs.declared.operator.Binary.TheVariants.{Comparison, Connective}
use Rattle.types_names.specs.declared.operator.Unary.{Unary}
use Rattle.types_names.specs.declared.operator.Unary.TheVariants as unaries
use Rattle.types_names.specs.declared.operator.Call.{Call}
use Rattle.types_names.specs.declared.operator.Call.TheVariants as calls
use Rattle.types_names.specs.Scopes.{Scope, path_text, meaning}
use Rattle.types_names.specs.Width.{binary_of, unary_of, call_of, literal_width}
use Rattle.types_names.specs.Width.{literal_value}
use Rattle.types_names.specs.Width.{high_of, low_of, ticks_before}
use Rattle.types_names.specs.Columns.{column_of}

-- an operator with its operands
abbrev pub binary_term : Binary → Term → Term → Term
binary_term (Arithmetic op) a b = terms.combine op a b
binary_term (Shift op) a b = terms.shift op a b
binary_term (Comparison op) a b = terms.compare op a b
binary_term (Connective op) a b = terms.connect op a b

abbrev pub unary_term : Unary → Term → Term
unary_term unaries.Complement a = terms.inverse a
unary_term (unaries.Reduce op) a = terms.reduce op a

abbrev pub call_term : Call → Term → Term
call_term (calls.Change op) a = terms.change op a
call_term (calls.Reduce op) a = terms.reduce op a

-- the constant of a number's width and value
pub record IsConstantOf (n : Number) (e : Term) : Type 0 where
  pub bits : Bits
  pub width : bits.width ≡ literal_width n
  pub value : bits.value ≡ literal_value n
  pub is : e ≡ terms.constant bits

-- A name of so many bits in a column of the rows, or of the counters. The path of a sequence, and
-- one that stands for nothing, are no name.
pub record IsName (origin : Origin) (column : Option ℕ) (width : ℕ) (name : Name) : Type 0 where
  pub origin_is : name.origin ≡ origin
  pub place_is : column ≡ Some name.place
  pub width_is : name.width ≡ width

abbrev pub IsNameOf : Option Meaning → Option ℕ → Name → Type 0
IsNameOf None column name = ⊥
IsNameOf (Some (Signal width)) column name = IsName origins.Signal column width name
IsNameOf (Some (Declared (Counter place width))) column name =
    IsName origins.Counter (Some place) width name
IsNameOf (Some (Declared (Sequence place))) column name = ⊥

-- a whole name
pub record IsWholeName (means : Option Meaning) (column : Option ℕ) (e : Term) : Type 0 where
  pub name : Name
  pub names : IsNameOf means column name
  pub is : e ≡ terms.named name

-- some bits of a name
pub record IsPartOfName (means : Option Meaning) (column : Option ℕ) (x : Select)
    (e : Term) : Type 0 where
  pub part : Slice
  pub names : IsNameOf means column part.name
  pub high : part.high ≡ high_of x
  pub low : part.low ≡ low_of x
  pub is : e ≡ terms.slice part

abbrev pub IsReference : Option Meaning → Option ℕ → Option Select → Term → Type 0
IsReference means column None e = IsWholeName means column e
IsReference means column (Some x) e = IsPartOfName means column x e

-- What an expression means, where signals stand in the columns. Operators of a chain and parts of a
-- concatenation group to the left.
unfoldable mutual
  pub Means : Scope → List (List ℕ) → Tree → Term → Type 0
  Means s columns (number n t) e = IsConstantOf n e
  Means s columns (path words x) e =
      IsReference (meaning s words) (column_of columns (path_text words)) x e
  Means s columns (concatenation t d parts) e =
      (a : Term) × Means s columns d a × Joins s columns a parts e
  Means s columns (past t d n) e =
      (a : Term) × Means s columns d a × (e ≡ terms.past a (ticks_before n))
  Means s columns (call f t d) e = (a : Term) × Means s columns d a × (e ≡ call_term (call_of f) a)
  Means s columns (unary op t d) e =
      (a : Term) × Means s columns d a × (e ≡ unary_term (unary_of op) a)
  Means s columns (chain d links) e = (a : Term) × Means s columns d a × Chains s columns a links e
  Means s columns (choice d x y) e =
      (c : Term) × (a : Term) × (b : Term) × Means s columns d c × Means s columns x a
      × Means s columns y b × (e ≡ terms.choose c a b)

  -- a, and each operator with its operand
  pub Chains : Scope → List (List ℕ) → Term → Links → Term → Type 0
  Chains s columns a end e = e ≡ a
  Chains s columns a (link op d links) e =
      (b : Term) × Means s columns d b × Chains s columns (binary_term (binary_of op) a b) links e

  -- {a}, or {a, and each part}
  pub Joins : Scope → List (List ℕ) → Term → Parts → Term → Type 0
  Joins s columns a no_part e = e ≡ terms.group a
  Joins s columns a (part d parts) e =
      (b : Term) × Means s columns d b × JoinsMore s columns (terms.concat a b) parts e

  pub JoinsMore : Scope → List (List ℕ) → Term → Parts → Term → Type 0
  JoinsMore s columns a no_part e = e ≡ a
  JoinsMore s columns a (part d parts) e =
      (b : Term) × Means s columns d b × JoinsMore s columns (terms.concat a b) parts e
