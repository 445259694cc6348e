use Rattle.std.proofs.Common.{◌≡◌, drop}
use Rattle.parser_grammar.specs.declared.terminal.Terminal.{Terminal}
use Rattle.parser_grammar.proofs.TableLaws.{terminal_in}
use Rattle.parser_grammar.proofs.terminal.terminal_beside.Given as goal

abbrev pub invariant-loop-word : goal.invariant-loop-word
invariant-loop-word l =
    (other : Terminal) → terminal_in l.text l.rows other ≡ terminal_in l.text (drop l.word-index l.rows) other
