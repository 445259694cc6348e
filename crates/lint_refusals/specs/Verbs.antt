-- The words that begin assertions.
use Rattle.std.specs.Prelude.{Bool, ◌||◌, codes}
use Rattle.std.specs.Str.{bytes_eq}
use Rattle.lexer.specs.declared.token.Token.{Token}

-- whether a token begins an assertion, maybe after a label
abbrev pub is_verb : Token → Bool
is_verb t = bytes_eq t.text.now (codes "assert") || bytes_eq t.text.now (codes "assume")
