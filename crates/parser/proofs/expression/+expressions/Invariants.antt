use Rattle.std.proofs.Common.{suc, ◌+◌, ◌*◌, ◌≤◌, map, length}
use Rattle.parser_grammar.specs.declared.terminal.Terminal.TheVariants.{Comma}
use Rattle.parser_grammar.specs.Terminals.{is}
use Rattle.parser_grammar.specs.Operators.{is_infix}
use Rattle.parser_grammar.specs.ReadExpressions.{link_reader, operand, expression}
use Rattle.parser_grammar.specs.Views.{tree_of, link_of}
use Rattle.parser.proofs.LoopLaws.{Turns}
use Rattle.parser.proofs.expression.+expressions.Given as goal

abbrev pub decreases-read_parts : goal.decreases-read_parts
decreases-read_parts l = 100 * l.depth + 60

abbrev pub decreases-read_expression : goal.decreases-read_expression
decreases-read_expression l = 100 * l.depth + 50

abbrev pub decreases-finish_expression : goal.decreases-finish_expression
decreases-finish_expression l = 100 * l.depth + 40

abbrev pub decreases-read_links : goal.decreases-read_links
decreases-read_links l = 100 * l.depth + 3 * l.level + 6

abbrev pub decreases-read_operand : goal.decreases-read_operand
decreases-read_operand l = 100 * l.depth + 3 * l.level + 5

abbrev pub decreases-read_climb : goal.decreases-read_climb
decreases-read_climb l = 100 * l.depth + 3 * l.level + 4

abbrev pub decreases-read_prefixed : goal.decreases-read_prefixed
decreases-read_prefixed l = 100 * l.depth + 2

abbrev pub decreases-read_call : goal.decreases-read_call
decreases-read_call l = 100 * l.depth + 1

abbrev pub decreases-read_bracketed : goal.decreases-read_bracketed
decreases-read_bracketed l = 100 * l.depth

abbrev pub decreases-read_concatenation : goal.decreases-read_concatenation
decreases-read_concatenation l = 100 * l.depth

abbrev pub decreases-read_past : goal.decreases-read_past
decreases-read_past l = 100 * l.depth

abbrev pub decreases-read_unary : goal.decreases-read_unary
decreases-read_unary l = 100 * l.depth

abbrev pub invariant-read_links-links : goal.invariant-read_links-links
invariant-read_links-links l =
    (length l.left ≤ length l.tokens) × Turns (is_infix (suc l.level)) (link_reader (operand l.depth l.level))
    l.tokens (map link_of l.found.items) l.left

abbrev pub decreases-read_links-links : goal.decreases-read_links-links
decreases-read_links-links l = length l.left

abbrev pub invariant-read_parts-parts : goal.invariant-read_parts-parts
invariant-read_parts-parts l =
    (length l.left ≤ length l.tokens)
    × Turns (is Comma) (λ comma. expression l.depth) l.tokens (map tree_of l.found.items) l.left

abbrev pub decreases-read_parts-parts : goal.decreases-read_parts-parts
decreases-read_parts-parts l = length l.left
