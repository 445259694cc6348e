use Rattle.std.proofs.Common.{◌≤◌, length}
use Rattle.parser_grammar.specs.declared.terminal.Terminal.TheVariants.{Dot}
use Rattle.parser_grammar.specs.Terminals.{is}
use Rattle.parser_grammar.specs.Readers.{pick}
use Rattle.parser_grammar.specs.ReadExpressions.{word_of}
use Rattle.parser.proofs.LoopLaws.{Turns}
use Rattle.parser.proofs.expression.read_members.Given as goal

abbrev pub invariant-members : goal.invariant-members
invariant-members l =
    (length l.left ≤ length l.tokens) × Turns (is Dot) (λ dot. pick word_of) l.tokens l.found.items l.left

abbrev pub decreases-members : goal.decreases-members
decreases-members l = length l.left
