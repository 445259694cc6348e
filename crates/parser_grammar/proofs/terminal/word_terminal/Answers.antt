use Rattle.std.proofs.Common.{◌∙◌}
use Rattle.parser_grammar.specs.Terminals.{foreign_word, inner_word, word_terminal}
use Rattle.parser_grammar.proofs.terminal.word_terminal.Goals as goal

pub returns-in-Some : goal.returns-in-Some
unfolding word_terminal inner_word
returns-in-Some c = c.in-Some.ensures (foreign_word c.args.text.now)

pub returns-in-None : goal.returns-in-None
unfolding word_terminal inner_word
returns-in-None c = c.foreign_word.ensures ∙ c.in-None.ensures (foreign_word c.args.text.now)
