-- Faults of a text to which labels were added, at the bytes of the text before that.
use Rattle.std.specs.Prelude.{List}
use Rattle.lexer.specs.declared.fault.LexFault.{LexFault}
use Rattle.lexer.specs.declared.fault.LexFault.TheVariants as lexing
use Rattle.parser.specs.declared.fault.ParseFault.{ParseFault}
use Rattle.parser.specs.declared.fault.ParseFault.TheVariants as parsing
use Rattle.types.specs.declared.fault.TypeFault.{TypeFault}
use Rattle.types.specs.declared.fault.TypeFault.TheVariants as types
use Rattle.cli_faults.specs.declared.fault.Fault.{Fault}
use Rattle.cli_faults.specs.declared.fault.Fault.TheVariants.{Lex, Parse, Typing}
use Rattle.source_files.specs.declared.added.Added.{Added}
use Rattle.source_files.specs.Chosen.{place_before}

abbrev pub moved_lex : List Added → LexFault → LexFault
moved_lex added (lexing.BadCharacter at) = lexing.BadCharacter (place_before added at)
moved_lex added (lexing.BadNumber at) = lexing.BadNumber (place_before added at)
moved_lex added (lexing.UnclosedComment at) = lexing.UnclosedComment (place_before added at)
moved_lex added lexing.Memory = lexing.Memory

abbrev pub moved_parse : List Added → ParseFault → ParseFault
moved_parse added (parsing.Expected what at) = parsing.Expected what (place_before added at)
moved_parse added (parsing.OutsideProfile word at) =
    parsing.OutsideProfile word (place_before added at)
moved_parse added (parsing.TooDeep at) = parsing.TooDeep (place_before added at)
moved_parse added (parsing.BadBound at) = parsing.BadBound (place_before added at)
moved_parse added parsing.Memory = parsing.Memory

abbrev pub moved_type : List Added → TypeFault → TypeFault
moved_type added (types.UnknownName at) = types.UnknownName (place_before added at)
moved_type added (types.Duplicate at) = types.Duplicate (place_before added at)
moved_type added (types.WiderThan128 at) = types.WiderThan128 (place_before added at)
moved_type added (types.SliceRange at) = types.SliceRange (place_before added at)
moved_type added (types.Degenerate at) = types.Degenerate (place_before added at)
moved_type added (types.AdmitsEmpty at) = types.AdmitsEmpty (place_before added at)
moved_type added (types.OtherClock at) = types.OtherClock (place_before added at)
moved_type added (types.CyclicSequence at) = types.CyclicSequence (place_before added at)
moved_type added (types.TooWide at) = types.TooWide (place_before added at)
moved_type added types.Memory = types.Memory

-- a fault of the text at the byte that it has without what was added; others have no byte there
abbrev pub moved_fault : List Added → Fault → Fault
moved_fault added (Lex fault) = Lex (moved_lex added fault)
moved_fault added (Parse fault) = Parse (moved_parse added fault)
moved_fault added (Typing fault) = Typing (moved_type added fault)
moved_fault added fault = fault
