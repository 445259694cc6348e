-- The expressions of a text.
use Rattle.std.specs.Prelude.{List, Option, Some, None}
use Rattle.std.specs.List.{AllByRecursion}
use Rattle.parser_grammar.specs.Trees.{Tree, SequenceForm, boolean, repeated, late, delayed}
use Rattle.parser_grammar.specs.Trees.{throughout, joined}
use Rattle.parser_grammar.specs.Trees.{Steps, no_step, step, Others, no_other, other}
use Rattle.parser_grammar.specs.Trees.{PropertyForm, plain, implication, CounterForm, AssertionForm}
use Rattle.parser_grammar.specs.Trees.{ItemForm, counter, declaration, assertion}

-- P holds of each expression: of a clause that may be left out, of one with two,
abbrev pub OfOne : (Tree → Type 0) → Option Tree → Type 0
OfOne P None = Unit {0}
OfOne P (Some t) = P t

abbrev pub OfTwo : (Tree → Type 0) → Option (Tree × Tree) → Type 0
OfTwo P None = Unit {0}
OfTwo P (Some pair) = P pair.0 × P pair.1

-- of a sequence,
unfoldable mutual
  pub OfSequence : (Tree → Type 0) → SequenceForm → Type 0
  OfSequence P (boolean t) = P t
  OfSequence P (repeated s times) = OfSequence P s
  OfSequence P (late t delay s) = OfSequence P s
  OfSequence P (delayed s more) = OfSequence P s × OfSteps P more
  OfSequence P (throughout t s) = P t × OfSequence P s
  OfSequence P (joined j s more) = OfSequence P s × OfOthers P more

  pub OfSteps : (Tree → Type 0) → Steps → Type 0
  OfSteps P no_step = Unit {0}
  OfSteps P (step delay s more) = OfSequence P s × OfSteps P more

  pub OfOthers : (Tree → Type 0) → Others → Type 0
  OfOthers P no_other = Unit {0}
  OfOthers P (other s more) = OfSequence P s × OfOthers P more

-- of a property,
abbrev pub OfProperty : (Tree → Type 0) → PropertyForm → Type 0
OfProperty P (plain s) = OfSequence P s
OfProperty P (implication word a t c) = OfSequence P a × OfSequence P c

-- of a counter's clauses,
pub record OfCounter (P : Tree → Type 0) (c : CounterForm) : Type 0 where
  pub clear : OfOne P c.clear
  pub load : OfTwo P c.load
  pub add : OfTwo P c.add
  pub sub : OfTwo P c.sub

-- of an assertion,
pub record OfAssertion (P : Tree → Type 0) (a : AssertionForm) : Type 0 where
  pub disable : OfOne P a.disable
  pub property : OfProperty P a.property

abbrev pub OfItem : (Tree → Type 0) → ItemForm → Type 0
OfItem P (counter c) = OfCounter P c
OfItem P (declaration d) = OfSequence P d.body
OfItem P (assertion a) = OfAssertion P a

-- and of all items.
abbrev pub EachTree : (Tree → Type 0) → List ItemForm → Type 0
EachTree P items = AllByRecursion (OfItem P) items
