-- What stands after a body.
use Rattle.std.specs.Prelude.{◌≡◌, List, None}
use Rattle.lexer.specs.declared.token.Token.{Token}
use Rattle.parser_grammar.specs.declared.terminal.Terminal.TheVariants.{Throughout}
use Rattle.parser_grammar.specs.Readers.{expect}
use Rattle.parser_grammar.specs.Trees as trees

-- An expression that goes on with "throughout" is no part of a chain of delays.
abbrev pub HasNoThroughout : trees.SequenceForm → List Token → Type 0
HasNoThroughout (trees.boolean e) ts = expect Throughout ts ≡ None
HasNoThroughout (trees.repeated s n) ts = Unit {0}
HasNoThroughout (trees.late t n s) ts = Unit {0}
HasNoThroughout (trees.delayed s more) ts = Unit {0}
HasNoThroughout (trees.throughout e s) ts = Unit {0}
HasNoThroughout (trees.joined j s more) ts = Unit {0}
