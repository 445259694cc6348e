-- Lists that loops go over, from a place on.
use Rattle.std.proofs.Common.{◌≡◌, ℕ, ◌+◌, ◌<◌, ◌≤◌, List, [], ◌∷◌, ◌++◌, map, drop, length, get_or, refl, ap}
use Rattle.std.proofs.Common.{drop-cons, add-one, Result, Ok, Err, IfOk}
use Rattle.std.proofs.lemmas.List.{drop_all}
use Rattle.parser_grammar.specs.declared.bound.Range.{Range}
use Rattle.parser_grammar.specs.declared.operator.Infix.{Infix}
use Rattle.parser_grammar.specs.Trees as trees
use Rattle.parser_grammar.specs.Trees.{Links, end, link, Parts, no_part, part, Steps, no_step, step, Others, no_other}
use Rattle.parser_grammar.specs.Trees.{other}
use Rattle.parser_grammar.specs.ReadExpressions.{links_of, parts_of}
use Rattle.parser_grammar.specs.ReadSequences.{steps_of, others_of}
use Rattle.parser_grammar.specs.declared.expression.ExprTree.{ExprTree}
use Rattle.parser_grammar.specs.declared.sequence.SequenceTree.{SequenceTree}
use Rattle.parser_grammar.specs.Views.{tree_of, link_of, sequence_of, delay_step_of}

-- the element at a place, and those after it
pub at : {A : Type 0} (B : Type 0) (f : A → B) (xs : List A) (i : ℕ) (x : A) → i < length xs → x ≡ get_or xs i x
    → map f (drop i xs) ≡ f x ∷ map f (drop (i + 1) xs)
at B f xs i x lt is = rw (drop-cons xs i x lt, add-one, ← is) refl

-- nothing after the last
pub past_end : {A : Type 0} (B : Type 0) (f : A → B) (xs : List A) (i : ℕ) → length xs ≤ i → map f (drop i xs) ≡ []
past_end B f xs i le = ap (map f) (drop_all i xs le)

pub links-at : (xs : List (Infix × ExprTree)) (i : ℕ) (x : Infix × ExprTree) → i < length xs → x ≡ get_or xs i x →
    links_of (map link_of (drop i xs)) ≡ link x.0 (tree_of x.1) (links_of (map link_of (drop (i + 1) xs)))
links-at xs i x lt is = ap links_of (at (Infix × trees.Tree) link_of xs i x lt is)

pub links-end : (xs : List (Infix × ExprTree)) (i : ℕ) → length xs ≤ i → links_of (map link_of (drop i xs)) ≡ end
links-end xs i le = ap links_of (past_end (Infix × trees.Tree) link_of xs i le)

pub parts-at : (xs : List ExprTree) (i : ℕ) (x : ExprTree) → i < length xs → x ≡ get_or xs i x →
    parts_of (map tree_of (drop i xs)) ≡ part (tree_of x) (parts_of (map tree_of (drop (i + 1) xs)))
parts-at xs i x lt is = ap parts_of (at trees.Tree tree_of xs i x lt is)

pub parts-end : (xs : List ExprTree) (i : ℕ) → length xs ≤ i → parts_of (map tree_of (drop i xs)) ≡ no_part
parts-end xs i le = ap parts_of (past_end trees.Tree tree_of xs i le)

pub steps-at : (xs : List (Range × SequenceTree)) (i : ℕ) (x : Range × SequenceTree) → i < length xs → x ≡ get_or xs i x
    →
    steps_of (map delay_step_of (drop i xs))
    ≡ step x.0 (sequence_of x.1) (steps_of (map delay_step_of (drop (i + 1) xs)))
steps-at xs i x lt is = ap steps_of (at (Range × trees.SequenceForm) delay_step_of xs i x lt is)

pub steps-end : (xs : List (Range × SequenceTree)) (i : ℕ) → length xs ≤ i → steps_of (map delay_step_of (drop i xs))
    ≡ no_step
steps-end xs i le = ap steps_of (past_end (Range × trees.SequenceForm) delay_step_of xs i le)

pub others-at : (xs : List SequenceTree) (i : ℕ) (x : SequenceTree) → i < length xs → x ≡ get_or xs i x →
    others_of (map sequence_of (drop i xs)) ≡ other (sequence_of x) (others_of (map sequence_of (drop (i + 1) xs)))
others-at xs i x lt is = ap others_of (at trees.SequenceForm sequence_of xs i x lt is)

pub others-end : (xs : List SequenceTree) (i : ℕ) → length xs ≤ i → others_of (map sequence_of (drop i xs)) ≡ no_other
others-end xs i le = ap others_of (past_end trees.SequenceForm sequence_of xs i le)

-- what holds of a result's value, from what holds of it
pub when_ok : {X E : Type 0} {P Q : X → Type 0} (r : Result X E) → ((x : X) → P x → Q x) → IfOk r P → IfOk r Q
when_ok (Ok x) f h = f x h
when_ok (Err e) f h = h

-- a list is one and another after it
pub record Joins {A : Type 0} (total front rest : List A) : Type 0 where
  pub is : total ≡ front ++ rest
