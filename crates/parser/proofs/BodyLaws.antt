-- Sequences that are no expressions, and what goes on with "throughout".
use Rattle.std.proofs.Common.{◌≡◌, List, None}
use Rattle.lexer.specs.declared.token.Token.{Token}
use Rattle.parser_grammar.specs.declared.terminal.Terminal.TheVariants.{Throughout}
use Rattle.parser_grammar.specs.Readers.{expect}
use Rattle.parser_grammar.specs.Trees.{SequenceForm, boolean, repeated, late, delayed, throughout, joined}
use Rattle.parser_grammar.specs.Sequences.{IsNoExpression}
use Rattle.parser.specs.Bodies.{HasNoThroughout}

pub no-word : (s : SequenceForm) (ts : List Token) → expect Throughout ts ≡ None → HasNoThroughout s ts
no-word (boolean e) ts h = h
no-word (repeated s n) ts h = tt
no-word (late t n s) ts h = tt
no-word (delayed s more) ts h = tt
no-word (throughout e s) ts h = tt
no-word (joined j s more) ts h = tt

pub no-expression : (s : SequenceForm) (ts : List Token) → IsNoExpression s → HasNoThroughout s ts
no-expression (boolean e) ts h = absurd h
no-expression (repeated s n) ts h = tt
no-expression (late t n s) ts h = tt
no-expression (delayed s more) ts h = tt
no-expression (throughout e s) ts h = tt
no-expression (joined j s more) ts h = tt

pub ruleset for_throughout = (no-word, no-expression)
