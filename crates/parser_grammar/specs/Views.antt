-- The ghost trees that the trees of a text are.
use Rattle.std.specs.Prelude.{List, ◌∷◌, map, option_map, Box}
use Rattle.std.specs.declared.alloc.Global.{Global}
use Rattle.lexer.specs.declared.token.Token.{Token}
use Rattle.parser_grammar.specs.declared.bound.Range.{Range}
use Rattle.parser_grammar.specs.declared.operator.Infix.{Infix}
use Rattle.parser_grammar.specs.Trees as trees
use Rattle.parser_grammar.specs.Trees.{Tree, number, path, concatenation, past, call, unary, chain}
use Rattle.parser_grammar.specs.Trees.{choice}
use Rattle.parser_grammar.specs.ReadExpressions.{links_of, parts_of}
use Rattle.parser_grammar.specs.ReadSequences.{steps_of, others_of}
use Rattle.parser_grammar.specs.declared.expression.Path.{Path}
use Rattle.parser_grammar.specs.declared.expression.ExprTree.{ExprTree, fold-ExprTree}
use Rattle.parser_grammar.specs.declared.expression.ExprTree.TheOpen.{ExprTree-F}
use Rattle.parser_grammar.specs.declared.sequence.SequenceTree.{SequenceTree, fold-SequenceTree}
use Rattle.parser_grammar.specs.declared.sequence.SequenceTree.TheOpen.{SequenceTree-F}
use Rattle.parser_grammar.specs.declared.item.PropertyTree.{PropertyTree}
use Rattle.parser_grammar.specs.declared.item.PropertyTree.TheVariants.{Plain, Implication}
use Rattle.parser_grammar.specs.declared.item.CounterTree.{CounterTree}
use Rattle.parser_grammar.specs.declared.item.DeclarationTree.{DeclarationTree}
use Rattle.parser_grammar.specs.declared.item.AssertionTree.{AssertionTree}
use Rattle.parser_grammar.specs.declared.item.ItemTree.{ItemTree}
use Rattle.parser_grammar.specs.declared.item.ItemTree.TheVariants as items
use Rattle.parser_grammar.specs.declared.item.File.{File}

abbrev pub path_of : Path → List Token
path_of p = p.first ∷ p.more.items

-- one level, with each expression inside already seen as its tree
abbrev pub tree_step : ExprTree-F Tree → Tree
tree_step (ExprTree-F.Number n t) = number n t
tree_step (ExprTree-F.Path p s) = path (path_of p) s
tree_step (ExprTree-F.Concatenation t e v) = concatenation t e.value (parts_of v.items)
tree_step (ExprTree-F.Past t e n) = past t e.value n
tree_step (ExprTree-F.Call f t e) = call f t e.value
tree_step (ExprTree-F.Unary op t e) = unary op t e.value
tree_step (ExprTree-F.Chain e v) = chain e.value (links_of v.items)
tree_step (ExprTree-F.Choice c a b) = choice c.value a.value b.value

abbrev pub tree_of : ExprTree → Tree
tree_of = fold-ExprTree Tree tree_step

abbrev pub link_of : Infix × ExprTree → Infix × Tree
link_of x = (x.0, tree_of x.1)

abbrev pub boxed_of : Box ExprTree Global → Tree
boxed_of e = tree_of e.value

-- one level, with each sequence inside already seen as its tree
abbrev pub sequence_step : SequenceTree-F trees.SequenceForm → trees.SequenceForm
sequence_step (SequenceTree-F.Boolean e) = trees.boolean (tree_of e.value)
sequence_step (SequenceTree-F.Repeated s n) = trees.repeated s.value n
sequence_step (SequenceTree-F.Late t n s) = trees.late t n s.value
sequence_step (SequenceTree-F.Delayed s v) = trees.delayed s.value (steps_of v.items)
sequence_step (SequenceTree-F.Throughout e s) = trees.throughout (tree_of e.value) s.value
sequence_step (SequenceTree-F.Joined j s v) = trees.joined j s.value (others_of v.items)

abbrev pub sequence_of : SequenceTree → trees.SequenceForm
sequence_of = fold-SequenceTree trees.SequenceForm sequence_step

abbrev pub delay_step_of : Range × SequenceTree → Range × trees.SequenceForm
delay_step_of x = (x.0, sequence_of x.1)

abbrev pub boxed_step_of : Range × Box SequenceTree Global → Range × trees.SequenceForm
boxed_step_of x = (x.0, sequence_of x.1.value)

abbrev pub property_of : PropertyTree → trees.PropertyForm
property_of (Plain s) = trees.plain (sequence_of s.value)
property_of (Implication w a i c) =
    trees.implication w (sequence_of a.value) i (sequence_of c.value)

abbrev pub pair_of : Box ExprTree Global × Box ExprTree Global → Tree × Tree
pair_of x = (tree_of x.0.value, tree_of x.1.value)

abbrev pub counter_of : CounterTree → trees.CounterForm
counter_of c = record {
  name = c.name;
  width = c.width;
  clear = option_map boxed_of c.clear;
  load = option_map pair_of c.load;
  add = option_map pair_of c.add;
  sub = option_map pair_of c.sub;
}

abbrev pub declaration_of : DeclarationTree → trees.DeclarationForm
declaration_of s = record { name = s.name; body = sequence_of s.body.value }

abbrev pub assertion_of : AssertionTree → trees.AssertionForm
assertion_of a = record {
  label = a.label;
  verb = a.verb;
  clock = path_of a.clock;
  disable = option_map boxed_of a.disable;
  property = property_of a.property;
}

abbrev pub item_of : ItemTree → trees.ItemForm
item_of (items.Counter c) = trees.counter (counter_of c)
item_of (items.Declaration s) = trees.declaration (declaration_of s)
item_of (items.Assertion a) = trees.assertion (assertion_of a)

abbrev pub items_of : File → List trees.ItemForm
items_of f = map item_of f.items.items
