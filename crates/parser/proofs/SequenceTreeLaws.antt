-- What a reader makes of a first part and what goes on after it; and the rules of the trees of sequences.
use Rattle.std.proofs.Common.{◌≡◌, List, [], ◌∷◌, map, length, refl, arith}
use Rattle.parser_grammar.specs.Trees as trees
use Rattle.parser_grammar.specs.declared.bound.Range.{Range}
use Rattle.parser_grammar.specs.declared.operator.Junction.{Junction}
use Rattle.parser_grammar.specs.ReadSequences.{steps_of, others_of, with_steps, with_others}
use Rattle.parser_grammar.specs.declared.sequence.SequenceTree.{SequenceTree}
use Rattle.parser_grammar.specs.Views.{sequence_of, delay_step_of}
use Rattle.parser_grammar.proofs.TreeLaws.{seq-Boolean, seq-Repeated, seq-Late, seq-Delayed, seq-Throughout, seq-Joined}

pub ruleset sequence_rules = (seq-Boolean, seq-Repeated, seq-Late, seq-Delayed, seq-Throughout, seq-Joined)

pub steps-none : (s : trees.SequenceForm) (xs : List (Range × SequenceTree)) → length xs ≡ 0
    → s ≡ with_steps s (map delay_step_of xs)
steps-none s [] h = refl
steps-none s (x ∷ xs) h = absurd (omega arith)

pub steps-some : (s : trees.SequenceForm) (xs : List (Range × SequenceTree)) → (length xs ≡ 0 → ⊥)
    → trees.delayed s (steps_of (map delay_step_of xs)) ≡ with_steps s (map delay_step_of xs)
steps-some s [] h = absurd (h refl)
steps-some s (x ∷ xs) h = refl

pub others-none : (j : Junction) (s : trees.SequenceForm) (xs : List SequenceTree) → length xs ≡ 0
    → s ≡ with_others j s (map sequence_of xs)
others-none j s [] h = refl
others-none j s (x ∷ xs) h = absurd (omega arith)

pub others-some : (j : Junction) (s : trees.SequenceForm) (xs : List SequenceTree) → (length xs ≡ 0 → ⊥)
    → trees.joined j s (others_of (map sequence_of xs)) ≡ with_others j s (map sequence_of xs)
others-some j s [] h = absurd (h refl)
others-some j s (x ∷ xs) h = refl

pub ruleset steps_rules = (steps-none, steps-some, seq-Delayed)

pub ruleset others_rules = (others-none, others-some, seq-Joined)
