-- Why a text has no report.
use Rattle.std.proofs.Common.{
  ◌≡◌,
  ℕ,
  ◌<◌,
  Bool,
  true,
  false,
  cond,
  List,
  [],
  ◌∷◌,
  length,
  map,
  arith,
  Option,
  Some,
  None,
  sym,
  ap,
  ◌∙◌,
  subst,
}
use Rattle.std.specs.Prelude.{string_bytes}
use Rattle.std.specs.Option.{option_map}
use Rattle.std.specs.Str.{is_utf8}
use Rattle.lexer.specs.declared.token.Token.{Token}
use Rattle.lexer.specs.declared.fault.LexFault.{LexFault}
use Rattle.lexer.specs.declared.fault.LexFault.TheVariants as lexing
use Rattle.std.proofs.lemmas.List.{length-map}
use Rattle.lexer.specs.Cutting.{Cut, cut_of}
use Rattle.lexer.specs.Covering as covering
use Rattle.lexer.specs.Covering.{IsCut, at_end, over_gap, over_token}
use Rattle.lexer.proofs.CoveringLaws.{tokens_of-covered}
use Rattle.parser.specs.declared.fault.ParseFault.{ParseFault}
use Rattle.parser.specs.declared.fault.ParseFault.TheVariants as parsing
use Rattle.parser.specs.Faults as parser_faults
use Rattle.parser_grammar.specs.Trees.{ItemForm}
use Rattle.assertions.specs.declared.signal.Signal.{Signal}
use Rattle.assertions.specs.declared.suite.Suite.{Suite}
use Rattle.suite_over_dump.specs.Dumps.{width_named}
use Rattle.suite_over_dump.specs.Suites.{scope_over}
use Rattle.types_names.specs.Columns.{columns_of, is_listed}
use Rattle.types_names.specs.Asked.{asked}
use Rattle.types.specs.declared.fault.TypeFault.{TypeFault}
use Rattle.types.specs.declared.fault.TypeFault.TheVariants as types
use Rattle.types.specs.Faults as faults
use Rattle.types.specs.Faults.{IsFirst, IsFaultless}
use Rattle.types.specs.Suites.{AreSignals, IsSuite}
use Rattle.report_programs.specs.declared.fault.LinesFault.{LinesFault}
use Rattle.report_programs.specs.declared.fault.LinesFault.TheVariants.{Program}
use Rattle.report_programs.specs.declared.fault.LinesFault.TheVariants as lines
use Rattle.compiler.specs.declared.fault.CompileFault.TheVariants as compiles
use Rattle.report_programs.specs.Faults.{WhyNoLines}
use Rattle.vcd_reader.specs.Variables.{Declared, variable_named, size_of}
use Rattle.vcd_reader.specs.Dump.{Contents}
use Rattle.cycle_window.specs.declared.fault.WindowFault.{WindowFault}
use Rattle.cycle_window.specs.declared.fault.WindowFault.TheVariants as windows
use Rattle.cycle_window.specs.Bound.{IsClockFault, HasClock}
use Rattle.cli_faults.specs.declared.fault.Fault.{Fault}
use Rattle.cli_faults.specs.declared.fault.Fault.TheVariants.{
  Vcd,
  Lex,
  Parse,
  Typing,
  Compile,
  BadSize,
  BadWorkers,
  BadJob,
  Window,
  Port,
  Report,
  Code,
  Refused,
  NoAssertion,
  NotText,
  Words,
  File,
  Memory,
}
use Rattle.report_suites.specs.Named.{AreNamed}
use Rattle.cli_faults.specs.Faults.{lex_fault, parse_fault, type_fault, window_fault}
use Rattle.cli.specs.Programs.{lines_fault}
use Rattle.cli.specs.Reported.{AreTokens, HasItems, IsTyped, SaysSuite}
use Rattle.cli.specs.Outcomes.{
  HasNoItems,
  IsMistyped,
  WhyNoItems,
  WhyNotTyped,
  WhyNoReport,
  WhyNoneByPrograms,
}

-- why a text has no tokens, or no items
pub unlexed : (text : List ℕ) (e : LexFault) → covering.IsLexFault text e
    → WhyNoItems text (lex_fault e)
unlexed text (lexing.BadCharacter at) h = h
unlexed text (lexing.BadNumber at) h = h
unlexed text (lexing.UnclosedComment at) h = h
unlexed text lexing.Memory h = tt

no_items : (text : List ℕ) (tokens : List Token) (e : ParseFault) → AreTokens text tokens
    → (e ≡ parsing.Memory → ⊥) → parser_faults.IsParseFault tokens e
    → parser_faults.IsPlaced tokens e → HasNoItems text e
no_items text tokens e cut other h at =
    record { tokens = tokens; cut = cut; none = h other; placed = at }

-- there is a token, that of the end
cut_some : {place : ℕ} {bytes : List ℕ} {cs : List Cut} → IsCut place bytes cs → 0 < length cs
cut_some at_end = omega arith
cut_some (over_gap some le gap more) = cut_some more
cut_some (over_token apart long kind more) = omega arith

tokens_some : (text : List ℕ) (tokens : List Token) → AreTokens text tokens → 0 < length tokens
tokens_some text tokens cut =
    subst (λ (n : ℕ). 0 < n) (length-map tokens cut_of)
    (cut_some (tokens_of-covered text (map cut_of tokens) cut))

pub unparsed : (text : List ℕ) (tokens : List Token) (e : ParseFault) → AreTokens text tokens
    → parser_faults.IsParseFault tokens e → (0 < length tokens → parser_faults.IsPlaced tokens e)
    → WhyNoItems text (parse_fault e)
unparsed text tokens (parsing.Expected what at) cut h p =
    no_items text tokens (parsing.Expected what at) cut (λ e. cc) h
    (p (tokens_some text tokens cut))
unparsed text tokens (parsing.OutsideProfile word at) cut h p =
    no_items text tokens (parsing.OutsideProfile word at) cut (λ e. cc) h
    (p (tokens_some text tokens cut))
unparsed text tokens (parsing.TooDeep at) cut h p =
    no_items text tokens (parsing.TooDeep at) cut (λ e. cc) h (p (tokens_some text tokens cut))
unparsed text tokens (parsing.BadBound at) cut h p =
    no_items text tokens (parsing.BadBound at) cut (λ e. cc) h (p (tokens_some text tokens cut))
unparsed text tokens parsing.Memory cut h p = tt

-- what stands over the dump's variables stands over its contents
pub why_not_typed :
    (c : Contents) (vs : List Declared) (items : List ItemForm) (e : TypeFault)
    → vs ≡ c.variables → faults.IsTypeFault (scope_over vs items) items e → WhyNotTyped c items e
why_not_typed c vs items e same h =
    by e (subst (λ (ds : List Declared). faults.IsTypeFault (scope_over ds items) items e) same h)
  where
    by : (f : TypeFault) → faults.IsTypeFault (scope_over c.variables items) items f
        → WhyNotTyped c items f
    by (types.UnknownName at) k = k
    by (types.Duplicate at) k = k
    by (types.WiderThan128 at) k = k
    by (types.SliceRange at) k = k
    by (types.Degenerate at) k = k
    by (types.AdmitsEmpty at) k = k
    by (types.OtherClock at) k = k
    by (types.CyclicSequence at) k = k
    by (types.TooWide at) k = k
    by types.Memory k = tt

pub is_typed : (c : Contents) (vs : List Declared) (items : List ItemForm) (suite : Suite)
    → vs ≡ c.variables → IsFaultless (scope_over vs items) items
    → IsSuite (scope_over vs items) items suite → IsTyped c items suite
is_typed c vs items suite same clear is = record {
  faultless = subst (λ (ds : List Declared). IsFaultless (scope_over ds items) items) same clear;
  says = subst (λ (ds : List Declared). IsSuite (scope_over ds items) items suite) same is;
}

-- a suite's signals are variables of the dump
text_named : (u : Bool) (o : Option ℕ) (w : ℕ) → cond u o None ≡ Some w → o ≡ Some w
text_named true o w e = e
text_named false o w e = absurd cc

named_all : (vs : List Declared) (items : List ItemForm) (paths : List (List ℕ))
    (signals : List Signal) → AreSignals (scope_over vs items) paths signals → AreNamed vs signals
named_all vs items [] [] h = tt
named_all vs items [] (x ∷ xs) h = elim h [ ]
named_all vs items (p ∷ ps) [] h = elim h [ ]
named_all vs items (p ∷ ps) (x ∷ xs) h =
    let at : width_named vs (string_bytes x.path) ≡ Some x.width =
    ap (width_named vs) h.0.0
    ∙ text_named (is_listed (asked items) p) (width_named vs p) x.width h.0.1 in (
      text_named (is_utf8 (string_bytes x.path))
          (option_map (size_of vs) (variable_named vs (string_bytes x.path))) x.width at,
      named_all vs items ps xs h.1,
    )

pub are_named : (c : Contents) (vs : List Declared) (items : List ItemForm) (suite : Suite)
    → vs ≡ c.variables → IsTyped c items suite → AreNamed vs suite.names.items
are_named c vs items suite same typed =
    subst (λ (ds : List Declared). AreNamed ds suite.names.items) (sym same)
    (named_all c.variables items (columns_of (scope_over c.variables items) items)
    suite.names.items typed.says.signals)

-- a fault of the text's form
form_kept : (c : Contents) (text : List ℕ) (e : ParseFault) → WhyNoItems text (Parse e)
    → WhyNoReport c text (Parse e)
form_kept c text (parsing.Expected what at) h = h
form_kept c text (parsing.OutsideProfile word at) h = h
form_kept c text (parsing.TooDeep at) h = h
form_kept c text (parsing.BadBound at) h = h
form_kept c text parsing.Memory h = h

pub itemless : (c : Contents) (text : List ℕ) (e : ParseFault) → WhyNoReport c text (Parse e)
    → HasNoItems text e
itemless c text (parsing.Expected what at) h = h
itemless c text (parsing.OutsideProfile word at) h = h
itemless c text (parsing.TooDeep at) h = h
itemless c text (parsing.BadBound at) h = h
itemless c text parsing.Memory h = absurd h

-- each refusal as one of the text
pub without_items : (c : Contents) (text : List ℕ) (e : Fault) → WhyNoItems text e
    → WhyNoReport c text e
without_items c text (Vcd e) h = elim h [ ]
without_items c text (Lex e) h = h
without_items c text (Parse e) h = form_kept c text e h
without_items c text (Typing e) h = elim h [ ]
without_items c text (Compile e) h = elim h [ ]
without_items c text BadSize h = elim h [ ]
without_items c text BadWorkers h = elim h [ ]
without_items c text BadJob h = elim h [ ]
without_items c text (Window e) h = elim h [ ]
without_items c text (Port e) h = elim h [ ]
without_items c text (Report e) h = elim h [ ]
without_items c text (Code e) h = elim h [ ]
without_items c text (Refused e) h = elim h [ ]
without_items c text (NoAssertion n) h = elim h [ ]
without_items c text (NotText n) h = elim h [ ]
without_items c text (Words e) h = elim h [ ]
without_items c text (File n) h = elim h [ ]
without_items c text Memory h = tt

mistyped : (c : Contents) (text : List ℕ) (items : List ItemForm) (e : TypeFault)
    → HasItems text items → IsFirst (scope_over c.variables items) items e → IsMistyped c text e
mistyped c text items e has first = record { items = items; spelled = has; first = first }

pub untyped : (c : Contents) (text : List ℕ) (items : List ItemForm) (e : TypeFault)
    → HasItems text items → WhyNotTyped c items e → WhyNoReport c text (type_fault e)
untyped c text items (types.UnknownName at) has h =
    mistyped c text items (types.UnknownName at) has h
untyped c text items (types.Duplicate at) has h = mistyped c text items (types.Duplicate at) has h
untyped c text items (types.WiderThan128 at) has h =
    mistyped c text items (types.WiderThan128 at) has h
untyped c text items (types.SliceRange at) has h = mistyped c text items (types.SliceRange at) has h
untyped c text items (types.Degenerate at) has h = mistyped c text items (types.Degenerate at) has h
untyped c text items (types.AdmitsEmpty at) has h =
    mistyped c text items (types.AdmitsEmpty at) has h
untyped c text items (types.OtherClock at) has h = mistyped c text items (types.OtherClock at) has h
untyped c text items (types.CyclicSequence at) has h =
    mistyped c text items (types.CyclicSequence at) has h
untyped c text items (types.TooWide at) has h = mistyped c text items (types.TooWide at) has h
untyped c text items types.Memory has h = tt

pub unclocked : (c : Contents) (text : List ℕ) (suite : Suite) (e : WindowFault)
    → SaysSuite c text suite → IsClockFault c.variables (string_bytes suite.clock) e
    → WhyNoReport c text (window_fault e)
unclocked c text suite windows.NoClock says h = record { suite = suite; says = says; why = h }
unclocked c text suite windows.ClockWidth says h = record { suite = suite; says = says; why = h }
unclocked c text suite windows.BadSize says h = elim h [ ]
unclocked c text suite (windows.NoSignal p) says h = elim h [ ]
unclocked c text suite (windows.SignalWidth p) says h = elim h [ ]
unclocked c text suite windows.Memory says h = tt

-- a text that has no report at all has none by programs
pub none_by_programs : (c : Contents) (text : List ℕ) (e : Fault) → WhyNoReport c text e
    → WhyNoneByPrograms c text e
none_by_programs c text (Compile e) h = absurd h
none_by_programs c text BadSize h = absurd h
none_by_programs c text BadWorkers h = absurd h
none_by_programs c text BadJob h = absurd h
none_by_programs c text e h = h

pub uncompiled : (c : Contents) (text : List ℕ) (suite : Suite) (e : LinesFault)
    → SaysSuite c text suite
    → HasClock c.variables (string_bytes suite.clock)
    → WhyNoLines suite e → WhyNoneByPrograms c text (lines_fault e)
uncompiled c text suite (Program compiles.TooManyAtoms) says clock h =
    record { suite = suite; says = says; clock = clock; why = h }
uncompiled c text suite (Program compiles.CodeTooLong) says clock h =
    record { suite = suite; says = says; clock = clock; why = h }
uncompiled c text suite (Program compiles.TooManySlots) says clock h =
    record { suite = suite; says = says; clock = clock; why = h }
uncompiled c text suite (Program compiles.TextTooLong) says clock h =
    record { suite = suite; says = says; clock = clock; why = h }
uncompiled c text suite (Program compiles.Memory) says clock h = absurd h
uncompiled c text suite lines.BadJob says clock h =
    record { suite = suite; says = says; clock = clock; why = h }
uncompiled c text suite lines.Memory says clock h = tt
