use Rattle.std.proofs.Common.{◌+◌, ◌*◌, ◌≤◌, map, length}
use Rattle.parser_grammar.specs.declared.terminal.Terminal.TheVariants.{Delay, Intersect, And, Or}
use Rattle.parser_grammar.specs.Terminals.{is}
use Rattle.parser_grammar.specs.ReadSequences.{late_part, sequences, during_with, conjunction_with}
use Rattle.parser_grammar.specs.ReadSequences.{intersection_with}
use Rattle.parser_grammar.specs.Views.{sequence_of, delay_step_of}
use Rattle.parser.proofs.LoopLaws.{Turns}
use Rattle.parser.proofs.sequence.+sequences.Given as goal

abbrev pub decreases-read_body : goal.decreases-read_body
decreases-read_body l = 20 * l.depth

abbrev pub decreases-read_late : goal.decreases-read_late
decreases-read_late l = 20 * l.depth + 1

abbrev pub decreases-read_delayed : goal.decreases-read_delayed
decreases-read_delayed l = 20 * l.depth + 2

abbrev pub decreases-read_behind : goal.decreases-read_behind
decreases-read_behind l = 20 * l.depth + 3

abbrev pub decreases-read_during : goal.decreases-read_during
decreases-read_during l = 20 * l.depth + 4

abbrev pub decreases-read_intersection : goal.decreases-read_intersection
decreases-read_intersection l = 20 * l.depth + 5

abbrev pub decreases-read_conjunct : goal.decreases-read_conjunct
decreases-read_conjunct l = 20 * l.depth + 6

abbrev pub decreases-read_conjunction : goal.decreases-read_conjunction
decreases-read_conjunction l = 20 * l.depth + 7

abbrev pub decreases-read_side : goal.decreases-read_side
decreases-read_side l = 20 * l.depth + 8

abbrev pub decreases-read_alternatives : goal.decreases-read_alternatives
decreases-read_alternatives l = 20 * l.depth + 9

abbrev pub decreases-read_sequence : goal.decreases-read_sequence
decreases-read_sequence l = 20 * l.depth + 10

abbrev pub invariant-read_delayed-steps : goal.invariant-read_delayed-steps
invariant-read_delayed-steps l =
    (length l.left ≤ length l.tokens) × Turns (is Delay) (λ t. late_part l.depth (sequences l.depth)) l.tokens
    (map delay_step_of l.found.items) l.left

abbrev pub decreases-read_delayed-steps : goal.decreases-read_delayed-steps
decreases-read_delayed-steps l = length l.left

abbrev pub invariant-read_intersection-meets : goal.invariant-read_intersection-meets
invariant-read_intersection-meets l =
    (length l.left ≤ length l.tokens) × Turns (is Intersect) (λ t. during_with l.depth (sequences l.depth)) l.tokens
    (map sequence_of l.found.items) l.left

abbrev pub decreases-read_intersection-meets : goal.decreases-read_intersection-meets
decreases-read_intersection-meets l = length l.left

abbrev pub invariant-read_conjunction-conjuncts : goal.invariant-read_conjunction-conjuncts
invariant-read_conjunction-conjuncts l =
    (length l.left ≤ length l.tokens) × Turns (is And) (λ t. intersection_with l.depth (sequences l.depth)) l.tokens
    (map sequence_of l.found.items) l.left

abbrev pub decreases-read_conjunction-conjuncts : goal.decreases-read_conjunction-conjuncts
decreases-read_conjunction-conjuncts l = length l.left

abbrev pub invariant-read_alternatives-alternatives : goal.invariant-read_alternatives-alternatives
invariant-read_alternatives-alternatives l =
    (length l.left ≤ length l.tokens) × Turns (is Or) (λ t. conjunction_with l.depth (sequences l.depth)) l.tokens
    (map sequence_of l.found.items) l.left

abbrev pub decreases-read_alternatives-alternatives : goal.decreases-read_alternatives-alternatives
decreases-read_alternatives-alternatives l = length l.left
