-- The signals of a suite are variables of the dump.
use Rattle.std.proofs.Common.{◌≡◌, ◌∙◌, ℕ, Bool, true, false, cond, List, [], ◌∷◌, Option, Some, None, ap}
use Rattle.std.specs.Prelude.{string_bytes, option_map}
use Rattle.std.specs.Str.{is_utf8}
use Rattle.std.specs.List.{AllByRecursion}
use Rattle.assertions.specs.declared.signal.Signal.{Signal}
use Rattle.parser_grammar.specs.Trees.{ItemForm}
use Rattle.types_names.specs.Columns.{is_listed}
use Rattle.types_names.specs.Asked.{asked}
use Rattle.types.specs.Suites.{AreSignals}
use Rattle.vcd_reader.specs.Variables.{Declared, variable_named, size_of}
use Rattle.report_programs.specs.Lines.{IsWatched}
use Rattle.suite_over_dump.specs.Dumps.{width_named}
use Rattle.suite_over_dump.specs.Suites.{scope_over}

text_named : (u : Bool) (o : Option ℕ) (w : ℕ) → cond u o None ≡ Some w → o ≡ Some w
text_named true o w e = e
text_named false o w e = absurd cc

pub watched_all : (vs : List Declared) (items : List ItemForm) (paths : List (List ℕ)) (signals : List Signal)
    → AreSignals (scope_over vs items) paths signals → AllByRecursion (IsWatched vs) signals
watched_all vs items [] [] h = tt
watched_all vs items [] (x ∷ xs) h = elim h [ ]
watched_all vs items (p ∷ ps) [] h = elim h [ ]
watched_all vs items (p ∷ ps) (x ∷ xs) h =
    let at : width_named vs (string_bytes x.path) ≡ Some x.width =
    ap (width_named vs) h.0.0
    ∙ text_named (is_listed (asked items) p) (width_named vs p) x.width h.0.1 in (
      text_named (is_utf8 (string_bytes x.path))
          (option_map (size_of vs) (variable_named vs (string_bytes x.path))) x.width at,
      watched_all vs items ps xs h.1,
    )
