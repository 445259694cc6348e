-- What a reader makes of a first operand and the operators after it; and the rules of the trees of expressions.
use Rattle.std.proofs.Common.{◌≡◌, List, [], ◌∷◌, map, length, refl, arith}
use Rattle.parser_grammar.specs.declared.operator.Infix.{Infix}
use Rattle.parser_grammar.specs.Trees as trees
use Rattle.parser_grammar.specs.Trees.{Tree}
use Rattle.parser_grammar.specs.ReadExpressions.{links_of, chain_of}
use Rattle.parser_grammar.specs.declared.expression.ExprTree.{ExprTree}
use Rattle.parser_grammar.specs.Views.{link_of}
use Rattle.parser_grammar.proofs.TreeLaws.{tree-Number, tree-Path, tree-Concatenation, tree-Past, tree-Call}
use Rattle.parser_grammar.proofs.TreeLaws.{tree-Unary, tree-Chain, tree-Choice}

-- nothing more, or something
pub links-none : (e : Tree) (xs : List (Infix × ExprTree)) → length xs ≡ 0 → e ≡ chain_of e (map link_of xs)
links-none e [] h = refl
links-none e (x ∷ xs) h = absurd (omega arith)

pub links-some : (e : Tree) (xs : List (Infix × ExprTree)) → (length xs ≡ 0 → ⊥)
    → trees.chain e (links_of (map link_of xs)) ≡ chain_of e (map link_of xs)
links-some e [] h = absurd (h refl)
links-some e (x ∷ xs) h = refl

pub ruleset links_rules = (links-none, links-some, tree-Chain)

pub ruleset tree_rules = (tree-Number, tree-Path, tree-Concatenation, tree-Past, tree-Call, tree-Unary, tree-Choice)
