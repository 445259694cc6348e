-- The assertions of a text with their names written out, and how many operators and operands they
-- have.
use Rattle.std.specs.Prelude.{ℕ, ◌+◌, List, [], ◌∷◌, ◌++◌, map, Option, Some, None}
use Rattle.std.specs.List.{flat_map}
use Rattle.parser_grammar.specs.declared.operator.Junction.{Junction}
use Rattle.parser_grammar.specs.Trees.{Tree, number, path, concatenation, past, call, unary, chain}
use Rattle.parser_grammar.specs.Trees.{choice}
use Rattle.parser_grammar.specs.Trees.{Links, end, link, Parts, no_part, part}
use Rattle.parser_grammar.specs.Trees.{SequenceForm, boolean, repeated, late, delayed, throughout}
use Rattle.parser_grammar.specs.Trees.{joined}
use Rattle.parser_grammar.specs.Trees.{Steps, no_step, step, Others, no_other, other}
use Rattle.parser_grammar.specs.Trees.{PropertyForm, plain, implication, AssertionForm, ItemForm}
use Rattle.assertions.specs.Written.{Written}
use Rattle.types.specs.Drafts as drafts
use Rattle.types.specs.Drafts.{Draft, IsWrittenOut}
use Rattle.types.specs.Implications.{rewritten_antecedent}
use Rattle.types.specs.Leaves.{leaves}
use Rattle.types_names.specs.Scopes.{Scope, sequence_named}
use Rattle.types.specs.Texts.{declarations_of}
use Rattle.types.specs.Readings.{least_of, extra_of, joined_by}

-- The expression that a boolean is, or none for the 1 that a form stands for.
abbrev pub Leaf : Type 0
Leaf = Option Tree

abbrev pub leaf_by : Option ℕ → Tree → Draft Leaf
leaf_by (Some p) tree = drafts.name p
leaf_by None tree = drafts.boolean (Some tree)

-- A sequence of the text with each expression in its place. It groups as what is read of it.
unfoldable mutual
  pub trees_in : Scope → SequenceForm → Draft Leaf
  trees_in s (boolean tree) = leaf_by (sequence_named s tree) tree
  trees_in s (repeated q r) = drafts.repeat (trees_in s q) (least_of r) (extra_of r)
  trees_in s (late t r q) = drafts.lead (least_of r) (extra_of r) (trees_in s q)
  trees_in s (delayed q steps) = trees_of_steps s (trees_in s q) steps
  trees_in s (throughout tree q) = drafts.throughout (Some tree) (trees_in s q)
  trees_in s (joined j q others) = trees_of_others s j (trees_in s q) others

  pub trees_of_steps : Scope → Draft Leaf → Steps → Draft Leaf
  trees_of_steps s a no_step = a
  trees_of_steps s a (step r q steps) =
      trees_of_steps s (drafts.delay a (least_of r) (extra_of r) (trees_in s q)) steps

  pub trees_of_others : Scope → Junction → Draft Leaf → Others → Draft Leaf
  trees_of_others s j a no_other = a
  trees_of_others s j a (other q others) =
      trees_of_others s j (joined_by j a (trees_in s q)) others

-- the bodies of the named sequences
abbrev pub tree_bodies : Scope → List ItemForm → List (Draft Leaf)
tree_bodies s items = map (λ d. trees_in s d.body) (declarations_of items)

-- The antecedent of a property, that of |=> as that of |-> (16.12.7), and 1 where none is written;
-- and its consequent.
abbrev pub antecedent_trees : Scope → PropertyForm → Draft Leaf
antecedent_trees s (plain q) = drafts.boolean None
antecedent_trees s (implication word a i c) = rewritten_antecedent None i (trees_in s a)

abbrev pub consequent_trees : Scope → PropertyForm → Draft Leaf
consequent_trees s (plain q) = trees_in s q
consequent_trees s (implication word a i c) = trees_in s c

-- The two sides of an assertion, with the names written out.
pub record AreWrittenOut (s : Scope) (items : List ItemForm) (a : AssertionForm)
    (before behind : Written Leaf) : Type 0 where
  pub antecedent : IsWrittenOut (tree_bodies s items) (antecedent_trees s a.property) before
  pub consequent : IsWrittenOut (tree_bodies s items) (consequent_trees s a.property) behind

abbrev pub given : Leaf → List Tree
given None = []
given (Some t) = t ∷ []

-- the expressions of a side, one for each that is written
abbrev pub expressions_of : Written Leaf → List Tree
expressions_of w = flat_map given (leaves w)

-- those of an assertion, the disabling expression among them
abbrev pub all_expressions : AssertionForm → Written Leaf → Written Leaf → List Tree
all_expressions a before behind =
    expressions_of before ++ (expressions_of behind ++ given a.disable)

-- operators and operands; a concatenation is one operator, however many parts it has
unfoldable mutual
  pub tree_size : Tree → ℕ
  tree_size (number n t) = 1
  tree_size (path words x) = 1
  tree_size (concatenation t e parts) = 1 + (tree_size e + parts_size parts)
  tree_size (past t e n) = 1 + tree_size e
  tree_size (call f t e) = 1 + tree_size e
  tree_size (unary op t e) = 1 + tree_size e
  tree_size (chain e links) = tree_size e + links_size links
  tree_size (choice c a b) = 1 + (tree_size c + (tree_size a + tree_size b))

  pub links_size : Links → ℕ
  links_size end = 0
  links_size (link op e links) = 1 + (tree_size e + links_size links)

  pub parts_size : Parts → ℕ
  parts_size no_part = 0
  parts_size (part e parts) = tree_size e + parts_size parts
