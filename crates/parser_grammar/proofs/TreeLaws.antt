-- The trees that the code makes, as those of the grammar.
use Rattle.std.proofs.Common.{◌≡◌, map, Option, Vec, Box, Global, rules}
use Rattle.lexer.specs.declared.token.Number.{Number}
use Rattle.lexer.specs.declared.token.Token.{Token}
use Rattle.parser_grammar.specs.declared.bound.Bound.{Bound}
use Rattle.parser_grammar.specs.declared.bound.Range.{Range}
use Rattle.parser_grammar.specs.declared.bound.Select.{Select}
use Rattle.parser_grammar.specs.declared.mark.Function.{Function}
use Rattle.parser_grammar.specs.declared.operator.Infix.{Infix}
use Rattle.parser_grammar.specs.declared.operator.Junction.{Junction}
use Rattle.parser_grammar.specs.declared.operator.Prefix.{Prefix}
use Rattle.parser_grammar.specs.Trees as trees
use Rattle.parser_grammar.specs.ReadExpressions.{links_of, parts_of}
use Rattle.parser_grammar.specs.ReadSequences.{steps_of, others_of}
use Rattle.parser_grammar.specs.declared.expression.Path.{Path}
use Rattle.parser_grammar.specs.declared.expression.ExprTree.{ExprTree}
use Rattle.parser_grammar.specs.declared.expression.ExprTree as expr
use Rattle.parser_grammar.specs.declared.sequence.SequenceTree.{SequenceTree}
use Rattle.parser_grammar.specs.declared.sequence.SequenceTree as seq
use Rattle.parser_grammar.specs.Views.{path_of, tree_of, link_of, sequence_of, delay_step_of}

pub tree-Number : (n : Number) (t : Token) → tree_of (expr.Number n t) ≡ trees.number n t
tree-Number n t = search (rules, expr.the_lemmas)

pub tree-Path : (p : Path) (s : Option Select) → tree_of (expr.Path p s) ≡ trees.path (path_of p) s
tree-Path p s = search (rules, expr.the_lemmas)

pub tree-Concatenation : (t : Token) (b : Box ExprTree Global) (v : Vec ExprTree Global) →
    tree_of (expr.Concatenation t b v) ≡ trees.concatenation t (tree_of b.value) (parts_of (map tree_of v.items))
tree-Concatenation t b v = search (rules, expr.the_lemmas)

pub tree-Past : (t : Token) (b : Box ExprTree Global) (n : Option Bound) →
    tree_of (expr.Past t b n) ≡ trees.past t (tree_of b.value) n
tree-Past t b n = search (rules, expr.the_lemmas)

pub tree-Call : (g : Function) (t : Token) (b : Box ExprTree Global) →
    tree_of (expr.Call g t b) ≡ trees.call g t (tree_of b.value)
tree-Call g t b = search (rules, expr.the_lemmas)

pub tree-Unary : (op : Prefix) (t : Token) (b : Box ExprTree Global) →
    tree_of (expr.Unary op t b) ≡ trees.unary op t (tree_of b.value)
tree-Unary op t b = search (rules, expr.the_lemmas)

pub tree-Chain : (b : Box ExprTree Global) (v : Vec (Infix × ExprTree) Global) →
    tree_of (expr.Chain b v) ≡ trees.chain (tree_of b.value) (links_of (map link_of v.items))
tree-Chain b v = search (rules, expr.the_lemmas)

pub tree-Choice : (a b c : Box ExprTree Global) →
    tree_of (expr.Choice a b c) ≡ trees.choice (tree_of a.value) (tree_of b.value) (tree_of c.value)
tree-Choice a b c = search (rules, expr.the_lemmas)

pub seq-Boolean : (e : Box ExprTree Global) → sequence_of (seq.Boolean e) ≡ trees.boolean (tree_of e.value)
seq-Boolean e = search (rules, seq.the_lemmas)

pub seq-Repeated : (b : Box SequenceTree Global) (n : Range) →
    sequence_of (seq.Repeated b n) ≡ trees.repeated (sequence_of b.value) n
seq-Repeated b n = search (rules, seq.the_lemmas)

pub seq-Late : (t : Token) (n : Range) (b : Box SequenceTree Global) →
    sequence_of (seq.Late t n b) ≡ trees.late t n (sequence_of b.value)
seq-Late t n b = search (rules, seq.the_lemmas)

pub seq-Delayed : (b : Box SequenceTree Global) (v : Vec (Range × SequenceTree) Global) →
    sequence_of (seq.Delayed b v) ≡ trees.delayed (sequence_of b.value) (steps_of (map delay_step_of v.items))
seq-Delayed b v = search (rules, seq.the_lemmas)

pub seq-Throughout : (e : Box ExprTree Global) (b : Box SequenceTree Global) →
    sequence_of (seq.Throughout e b) ≡ trees.throughout (tree_of e.value) (sequence_of b.value)
seq-Throughout e b = search (rules, seq.the_lemmas)

pub seq-Joined : (j : Junction) (b : Box SequenceTree Global) (v : Vec SequenceTree Global) →
    sequence_of (seq.Joined j b v) ≡ trees.joined j (sequence_of b.value) (others_of (map sequence_of v.items))
seq-Joined j b v = search (rules, seq.the_lemmas)
