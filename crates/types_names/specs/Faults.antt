-- Where faults stand in expressions, sequences and items.
use Rattle.std.specs.Prelude.{◌≡◌, ℕ, List, [], ◌∷◌, ◌++◌, Option, Some, None, Bool, min}
use Rattle.std.specs.Prelude.{if◌then◌else◌, nat_le, nat_lt, ◌&&◌, is_some}
use Rattle.std.specs.List.{flat_map}
use Rattle.parser_grammar.specs.declared.bound.Select.{Select}
use Rattle.parser_grammar.specs.Trees.{Tree, number, path, concatenation, past, call, unary, chain}
use Rattle.parser_grammar.specs.Trees.{choice}
use Rattle.parser_grammar.specs.Trees.{Links, end, link, Parts, no_part, part, SequenceForm}
use Rattle.parser_grammar.specs.Trees.{boolean}
use Rattle.parser_grammar.specs.Trees.{repeated, late, delayed, throughout, joined, Steps, no_step}
use Rattle.parser_grammar.specs.Trees.{step, Others, no_other, other, PropertyForm, plain}
use Rattle.parser_grammar.specs.Trees.{implication}
use Rattle.parser_grammar.specs.Trees.{CounterForm, AssertionForm, ItemForm, counter, declaration}
use Rattle.parser_grammar.specs.Trees.{assertion}
use Rattle.types_names.specs.declared.own.Sought.{Sought}
use Rattle.types_names.specs.declared.own.Sought.TheVariants.{Unknown, Wide, OutOfRange}
use Rattle.types_names.specs.Scopes.{Scope, first_byte, meaning, bits_of, sequence_named}
use Rattle.types_names.specs.Width.{high_of, low_of, parts_width, own_width}

-- the byte, where the test fails
abbrev pub unless : Bool → ℕ → List ℕ
unless test at = if test then [] else at ∷ []

-- whether a name of so many bits has the bits of a select
abbrev pub has_bits : ℕ → Select → Bool
has_bits width x = nat_le (low_of x) (high_of x) && nat_lt (high_of x) width

-- A path whose name has so many bits, or stands for nothing that an expression can read.
abbrev pub path_faults : Sought → ℕ → Option ℕ → Option Select → List ℕ
path_faults Unknown at None x = at ∷ []
path_faults Unknown at (Some width) x = []
path_faults Wide at bits x = []
path_faults OutOfRange at (Some width) (Some x) = unless (has_bits width x) at
path_faults OutOfRange at (Some width) None = []
path_faults OutOfRange at None x = []

-- a concatenation of so many bits
abbrev pub wide_faults : Sought → ℕ → ℕ → List ℕ
wide_faults Unknown at width = []
wide_faults Wide at width = unless (nat_le width 128) at
wide_faults OutOfRange at width = []

-- the bytes at which faults of a kind stand in an expression, in the order of the text
unfoldable mutual
  pub faults : Scope → Sought → Tree → List ℕ
  faults s k (number n t) = []
  faults s k (path words x) = path_faults k (first_byte words) (bits_of (meaning s words)) x
  faults s k (concatenation t e parts) =
      wide_faults k t.at (parts_width s (own_width s e) parts)
      ++ (faults s k e ++ part_faults s k parts)
  faults s k (past t e n) = faults s k e
  faults s k (call f t e) = faults s k e
  faults s k (unary op t e) = faults s k e
  faults s k (chain e links) = faults s k e ++ link_faults s k links
  faults s k (choice c a b) = faults s k c ++ (faults s k a ++ faults s k b)

  pub link_faults : Scope → Sought → Links → List ℕ
  link_faults s k end = []
  link_faults s k (link op e links) = faults s k e ++ link_faults s k links

  pub part_faults : Scope → Sought → Parts → List ℕ
  part_faults s k no_part = []
  part_faults s k (part e parts) = faults s k e ++ part_faults s k parts

-- a boolean of a sequence may be the name of a named sequence
abbrev pub boolean_faults : Scope → Sought → Tree → List ℕ
boolean_faults s k e = if is_some (sequence_named s e) then [] else faults s k e

unfoldable mutual
  pub sequence_faults : Scope → Sought → SequenceForm → List ℕ
  sequence_faults s k (boolean e) = boolean_faults s k e
  sequence_faults s k (repeated q n) = sequence_faults s k q
  sequence_faults s k (late t n q) = sequence_faults s k q
  sequence_faults s k (delayed q steps) = sequence_faults s k q ++ step_faults s k steps
  sequence_faults s k (throughout e q) = faults s k e ++ sequence_faults s k q
  sequence_faults s k (joined j q others) = sequence_faults s k q ++ other_faults s k others

  pub step_faults : Scope → Sought → Steps → List ℕ
  step_faults s k no_step = []
  step_faults s k (step n q steps) = sequence_faults s k q ++ step_faults s k steps

  pub other_faults : Scope → Sought → Others → List ℕ
  other_faults s k no_other = []
  other_faults s k (other q others) = sequence_faults s k q ++ other_faults s k others

abbrev pub property_faults : Scope → Sought → PropertyForm → List ℕ
property_faults s k (plain q) = sequence_faults s k q
property_faults s k (implication word a t c) = sequence_faults s k a ++ sequence_faults s k c

-- of an expression that may be left out, and of a clause's two
abbrev pub optional_faults : Scope → Sought → Option Tree → List ℕ
optional_faults s k None = []
optional_faults s k (Some e) = faults s k e

abbrev pub clause_faults : Scope → Sought → Option (Tree × Tree) → List ℕ
clause_faults s k None = []
clause_faults s k (Some p) = faults s k p.0 ++ faults s k p.1

abbrev pub counter_faults : Scope → Sought → CounterForm → List ℕ
counter_faults s k c =
    optional_faults s k c.clear ++ (clause_faults s k c.load
    ++ (clause_faults s k c.add ++ clause_faults s k c.sub))

abbrev pub assertion_faults : Scope → Sought → AssertionForm → List ℕ
assertion_faults s k a = optional_faults s k a.disable ++ property_faults s k a.property

-- all of an item but a clock's path
abbrev pub item_faults : Scope → Sought → ItemForm → List ℕ
item_faults s k (counter c) = counter_faults s k c
item_faults s k (declaration d) = sequence_faults s k d.body
item_faults s k (assertion a) = assertion_faults s k a

abbrev pub file_faults : Scope → Sought → List ItemForm → List ℕ
file_faults s k items = flat_map (item_faults s k) items

-- the smaller of two that there are
abbrev pub earlier : Option ℕ → Option ℕ → Option ℕ
earlier None b = b
earlier (Some a) None = Some a
earlier (Some a) (Some b) = Some (min a b)

-- the least of a list
abbrev pub least : List ℕ → Option ℕ
least [] = None
least (x ∷ xs) = earlier (Some x) (least xs)

-- no fault of any kind
abbrev pub IsSound : Scope → Tree → Type 0
IsSound s t = (k : Sought) → faults s k t ≡ []
