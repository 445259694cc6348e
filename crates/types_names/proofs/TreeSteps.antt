-- What the tree of an expression or a sequence is, where its node is known; with the operands where the code sees them.
use Rattle.std.proofs.Common.{◌≡◌, List, map, Option, Vec, Box, Global, sym, ap, ◌∙◌}
use Rattle.lexer.specs.declared.token.Number.{Number}
use Rattle.lexer.specs.declared.token.Token.{Token}
use Rattle.parser_grammar.specs.declared.bound.Bound.{Bound}
use Rattle.parser_grammar.specs.declared.bound.Range.{Range}
use Rattle.parser_grammar.specs.declared.bound.Select.{Select}
use Rattle.parser_grammar.specs.declared.mark.Function.{Function}
use Rattle.parser_grammar.specs.declared.operator.Infix.{Infix}
use Rattle.parser_grammar.specs.declared.operator.Junction.{Junction}
use Rattle.parser_grammar.specs.declared.operator.Prefix.{Prefix}
use Rattle.parser_grammar.specs.Trees as trees
use Rattle.parser_grammar.specs.ReadExpressions.{links_of, parts_of}
use Rattle.parser_grammar.specs.ReadSequences.{steps_of, others_of}
use Rattle.parser_grammar.specs.declared.expression.Path.{Path}
use Rattle.parser_grammar.specs.declared.expression.ExprTree.{ExprTree}
use Rattle.parser_grammar.specs.declared.expression.ExprTree as expr
use Rattle.parser_grammar.specs.declared.sequence.SequenceTree.{SequenceTree}
use Rattle.parser_grammar.specs.declared.sequence.SequenceTree as seq
use Rattle.parser_grammar.specs.Views.{path_of, tree_of, link_of, sequence_of, delay_step_of}
use Rattle.parser_grammar.proofs.TreeLaws.{tree-Number, tree-Path, tree-Concatenation, tree-Past, tree-Call, tree-Unary}
use Rattle.parser_grammar.proofs.TreeLaws.{tree-Chain, tree-Choice}
use Rattle.parser_grammar.proofs.TreeLaws.{seq-Boolean, seq-Repeated, seq-Late, seq-Delayed, seq-Throughout, seq-Joined}

pub is-Number : (x : ExprTree) (n : Number) (t : Token) → x ≡ expr.Number n t → tree_of x ≡ trees.number n t
is-Number x n t is = ap tree_of is ∙ tree-Number n t

pub is-Path : (x : ExprTree) (p : Path) (s : Option Select) → x ≡ expr.Path p s → tree_of x ≡ trees.path (path_of p) s
is-Path x p s is = ap tree_of is ∙ tree-Path p s

pub is-Concatenation : (x : ExprTree) (t : Token) (b : Box ExprTree Global) (v : Vec ExprTree Global) (e : ExprTree)
    (es : List ExprTree) → x ≡ expr.Concatenation t b v → e ≡ b.value → es ≡ v.items →
    tree_of x ≡ trees.concatenation t (tree_of e) (parts_of (map tree_of es))
is-Concatenation x t b v e es is one more = ap tree_of is ∙ tree-Concatenation t b v
    ∙ ap (λ (d : ExprTree). trees.concatenation t (tree_of d) (parts_of (map tree_of v.items))) (sym one)
    ∙ ap (λ (ds : List ExprTree). trees.concatenation t (tree_of e) (parts_of (map tree_of ds))) (sym more)

pub is-Past : (x : ExprTree) (t : Token) (b : Box ExprTree Global) (n : Option Bound) (e : ExprTree)
    → x ≡ expr.Past t b n → e ≡ b.value → tree_of x ≡ trees.past t (tree_of e) n
is-Past x t b n e is one = ap tree_of is ∙ tree-Past t b n ∙ ap (λ (d : ExprTree). trees.past t (tree_of d) n) (sym one)

pub is-Call : (x : ExprTree) (f : Function) (t : Token) (b : Box ExprTree Global) (e : ExprTree) → x ≡ expr.Call f t b
    → e ≡ b.value → tree_of x ≡ trees.call f t (tree_of e)
is-Call x f t b e is one = ap tree_of is ∙ tree-Call f t b ∙ ap (λ (d : ExprTree). trees.call f t (tree_of d)) (sym one)

pub is-Unary : (x : ExprTree) (op : Prefix) (t : Token) (b : Box ExprTree Global) (e : ExprTree) → x ≡ expr.Unary op t b
    → e ≡ b.value → tree_of x ≡ trees.unary op t (tree_of e)
is-Unary x op t b e is one =
    ap tree_of is ∙ tree-Unary op t b ∙ ap (λ (d : ExprTree). trees.unary op t (tree_of d)) (sym one)

pub is-Chain : (x : ExprTree) (b : Box ExprTree Global) (v : Vec (Infix × ExprTree) Global) (e : ExprTree)
    (es : List (Infix × ExprTree)) → x ≡ expr.Chain b v → e ≡ b.value → es ≡ v.items →
    tree_of x ≡ trees.chain (tree_of e) (links_of (map link_of es))
is-Chain x b v e es is one more = ap tree_of is ∙ tree-Chain b v
    ∙ ap (λ (d : ExprTree). trees.chain (tree_of d) (links_of (map link_of v.items))) (sym one)
    ∙ ap (λ (ds : List (Infix × ExprTree)). trees.chain (tree_of e) (links_of (map link_of ds))) (sym more)

pub is-Choice : (x : ExprTree) (a b c : Box ExprTree Global) (d e f : ExprTree) → x ≡ expr.Choice a b c → d ≡ a.value
    → e ≡ b.value → f ≡ c.value → tree_of x ≡ trees.choice (tree_of d) (tree_of e) (tree_of f)
is-Choice x a b c d e f is one two three = ap tree_of is ∙ tree-Choice a b c
    ∙ ap (λ (g : ExprTree). trees.choice (tree_of g) (tree_of b.value) (tree_of c.value)) (sym one)
    ∙ ap (λ (g : ExprTree). trees.choice (tree_of d) (tree_of g) (tree_of c.value)) (sym two)
    ∙ ap (λ (g : ExprTree). trees.choice (tree_of d) (tree_of e) (tree_of g)) (sym three)

pub is-Boolean : (x : SequenceTree) (b : Box ExprTree Global) (e : ExprTree) → x ≡ seq.Boolean b → e ≡ b.value
    → sequence_of x ≡ trees.boolean (tree_of e)
is-Boolean x b e is one = ap sequence_of is ∙ seq-Boolean b ∙ ap (λ (d : ExprTree). trees.boolean (tree_of d)) (sym one)

pub is-Repeated : (x : SequenceTree) (b : Box SequenceTree Global) (n : Range) (q : SequenceTree) → x ≡ seq.Repeated b n
    → q ≡ b.value → sequence_of x ≡ trees.repeated (sequence_of q) n
is-Repeated x b n q is one =
    ap sequence_of is ∙ seq-Repeated b n ∙ ap (λ (d : SequenceTree). trees.repeated (sequence_of d) n) (sym one)

pub is-Late : (x : SequenceTree) (t : Token) (n : Range) (b : Box SequenceTree Global) (q : SequenceTree)
    → x ≡ seq.Late t n b → q ≡ b.value → sequence_of x ≡ trees.late t n (sequence_of q)
is-Late x t n b q is one =
    ap sequence_of is ∙ seq-Late t n b ∙ ap (λ (d : SequenceTree). trees.late t n (sequence_of d)) (sym one)

pub is-Delayed : (x : SequenceTree) (b : Box SequenceTree Global) (v : Vec (Range × SequenceTree) Global)
    (q : SequenceTree) (qs : List (Range × SequenceTree)) → x ≡ seq.Delayed b v → q ≡ b.value → qs ≡ v.items →
    sequence_of x ≡ trees.delayed (sequence_of q) (steps_of (map delay_step_of qs))
is-Delayed x b v q qs is one more = ap sequence_of is ∙ seq-Delayed b v
    ∙ ap (λ (d : SequenceTree). trees.delayed (sequence_of d) (steps_of (map delay_step_of v.items))) (sym one)
    ∙ ap (λ (ds : List (Range × SequenceTree)). trees.delayed (sequence_of q) (steps_of (map delay_step_of ds)))
    (sym more)

pub is-Throughout : (x : SequenceTree) (a : Box ExprTree Global) (b : Box SequenceTree Global) (e : ExprTree)
    (q : SequenceTree) → x ≡ seq.Throughout a b → e ≡ a.value → q ≡ b.value →
    sequence_of x ≡ trees.throughout (tree_of e) (sequence_of q)
is-Throughout x a b e q is one two = ap sequence_of is ∙ seq-Throughout a b
    ∙ ap (λ (d : ExprTree). trees.throughout (tree_of d) (sequence_of b.value)) (sym one)
    ∙ ap (λ (d : SequenceTree). trees.throughout (tree_of e) (sequence_of d)) (sym two)

pub is-Joined : (x : SequenceTree) (j : Junction) (b : Box SequenceTree Global) (v : Vec SequenceTree Global)
    (q : SequenceTree) (qs : List SequenceTree) → x ≡ seq.Joined j b v → q ≡ b.value → qs ≡ v.items →
    sequence_of x ≡ trees.joined j (sequence_of q) (others_of (map sequence_of qs))
is-Joined x j b v q qs is one more = ap sequence_of is ∙ seq-Joined j b v
    ∙ ap (λ (d : SequenceTree). trees.joined j (sequence_of d) (others_of (map sequence_of v.items))) (sym one)
    ∙ ap (λ (ds : List SequenceTree). trees.joined j (sequence_of q) (others_of (map sequence_of ds))) (sym more)
