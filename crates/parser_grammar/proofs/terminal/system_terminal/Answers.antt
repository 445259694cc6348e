use Rattle.parser_grammar.specs.declared.terminal.Terminal.TheVariants.{ForeignSystem}
use Rattle.parser_grammar.specs.Terminals.{system_terminal}
use Rattle.parser_grammar.proofs.terminal.system_terminal.Goals as goal

pub returns-in-Some : goal.returns-in-Some
unfolding system_terminal
returns-in-Some c = c.in-Some.ensures ForeignSystem

pub returns-in-None : goal.returns-in-None
unfolding system_terminal
returns-in-None c = c.in-None.ensures ForeignSystem
