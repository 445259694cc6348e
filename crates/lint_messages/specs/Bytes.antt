-- The bytes of a text at which its faults stand; want of memory stands nowhere.
use Rattle.std.specs.Prelude.{ℕ, Option, Some, None}
use Rattle.lexer.specs.declared.fault.LexFault.{LexFault}
use Rattle.lexer.specs.declared.fault.LexFault.TheVariants as lexing
use Rattle.parser.specs.declared.fault.ParseFault.{ParseFault}
use Rattle.parser.specs.declared.fault.ParseFault.TheVariants as parsing
use Rattle.types.specs.declared.fault.TypeFault.{TypeFault}
use Rattle.types.specs.declared.fault.TypeFault.TheVariants as types

abbrev pub byte_of_lex : LexFault → Option ℕ
byte_of_lex (lexing.BadCharacter at) = Some at
byte_of_lex (lexing.BadNumber at) = Some at
byte_of_lex (lexing.UnclosedComment at) = Some at
byte_of_lex lexing.Memory = None

abbrev pub byte_of_parse : ParseFault → Option ℕ
byte_of_parse (parsing.Expected what at) = Some at
byte_of_parse (parsing.OutsideProfile word at) = Some at
byte_of_parse (parsing.TooDeep at) = Some at
byte_of_parse (parsing.BadBound at) = Some at
byte_of_parse parsing.Memory = None

abbrev pub byte_of_type : TypeFault → Option ℕ
byte_of_type (types.UnknownName at) = Some at
byte_of_type (types.Duplicate at) = Some at
byte_of_type (types.WiderThan128 at) = Some at
byte_of_type (types.SliceRange at) = Some at
byte_of_type (types.Degenerate at) = Some at
byte_of_type (types.AdmitsEmpty at) = Some at
byte_of_type (types.OtherClock at) = Some at
byte_of_type (types.CyclicSequence at) = Some at
byte_of_type (types.TooWide at) = Some at
byte_of_type types.Memory = None
