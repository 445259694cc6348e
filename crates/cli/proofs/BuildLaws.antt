-- What a build comes to.
use Rattle.std.proofs.Common.{◌≡◌, List, ℕ}
use Rattle.std.specs.Prelude.{Result, Ok, Err, IfOk, IfErr}
use Rattle.parser_grammar.specs.Trees.{ItemForm}
use Rattle.assertions.specs.declared.assertion.Assertion.{Assertion}
use Rattle.assertions.specs.declared.suite.Suite.{Suite}
use Rattle.parser.specs.declared.fault.ParseFault.{ParseFault}
use Rattle.parser.specs.declared.fault.ParseFault.TheVariants as parsing
use Rattle.types.specs.declared.fault.TypeFault.{TypeFault}
use Rattle.types.specs.declared.fault.TypeFault.TheVariants as types
use Rattle.compiler.specs.declared.fault.CompileFault.{CompileFault}
use Rattle.compiler.specs.declared.fault.CompileFault.TheVariants as compiles
use Rattle.compiler.specs.Faults.{WhyNotCompiled}
use Rattle.vcd_reader.specs.declared.fault.VcdFault.{VcdFault}
use Rattle.vcd_reader.specs.declared.fault.VcdFault.TheVariants as dumps
use Rattle.vcd_reader.specs.Dump.{Contents, GaveDump, Stands}
use Rattle.cli_faults.specs.declared.fault.Fault.{Fault}
use Rattle.cli_faults.specs.declared.fault.Fault.TheVariants.{
  Vcd,
  Lex,
  Parse,
  Typing,
  Compile,
  BadSize,
  BadWorkers,
  BadJob,
  Window,
  Port,
  Report,
  Code,
  Refused,
  NoAssertion,
  NotText,
  Words,
  File,
  Memory,
}
use Rattle.cli_faults.specs.Faults.{vcd_fault, type_fault, compile_fault}
use Rattle.cli.specs.Reported.{HasItems, SaysSuite}
use Rattle.cli.specs.Outcomes.{WhyNoItems, WhyNotTyped, WhyNoReport}
use Rattle.cli.specs.Builds.{
  IsAssertionNamed,
  WhyNoProgram,
  WhyNotBuilt,
  Build,
  IsRefusedBuild,
  WhyBuildRefused,
}
use Rattle.cli.proofs.TextLaws.{untyped}

-- what an answer says, said otherwise
pub ok_kept : {A E : Type 0} (r : Result A E) (P Q : A → Type 0) → ((x : A) → P x → Q x) → IfOk r P
    → IfOk r Q
ok_kept (Ok x) P Q f h = f x h
ok_kept (Err e) P Q f h = tt

pub err_kept : {A E : Type 0} (r : Result A E) (P Q : E → Type 0) → ((e : E) → P e → Q e)
    → IfErr r P → IfErr r Q
err_kept (Ok x) P Q f h = tt
err_kept (Err e) P Q f h = f e h

-- the assertion of the name has no program
pub unnamed : (suite : Suite) (name : List ℕ) (a : Assertion) (e : CompileFault)
    → IsAssertionNamed suite name a → WhyNotCompiled suite a e → WhyNoProgram suite name (compile_fault e)
unnamed suite name a compiles.TooManyAtoms of why = record { assertion = a; of = of; why = why }
unnamed suite name a compiles.CodeTooLong of why = record { assertion = a; of = of; why = why }
unnamed suite name a compiles.TooManySlots of why = record { assertion = a; of = of; why = why }
unnamed suite name a compiles.TextTooLong of why = record { assertion = a; of = of; why = why }
unnamed suite name a compiles.Memory of why = tt

module _ (c : Contents) (text name : List ℕ) where
  formless : (e : ParseFault) → WhyNoItems text (Parse e) → WhyNotBuilt c text name (Parse e)
  formless (parsing.Expected what at) h = h
  formless (parsing.OutsideProfile word at) h = h
  formless (parsing.TooDeep at) h = h
  formless (parsing.BadBound at) h = h
  formless parsing.Memory h = h

  -- the text has no items
  pub without_items : (e : Fault) → WhyNoItems text e → WhyNotBuilt c text name e
  without_items (Vcd e) h = absurd h
  without_items (Lex e) h = h
  without_items (Parse e) h = formless e h
  without_items (Typing e) h = absurd h
  without_items (Compile e) h = absurd h
  without_items BadSize h = absurd h
  without_items BadWorkers h = absurd h
  without_items BadJob h = absurd h
  without_items (Window e) h = absurd h
  without_items (Port e) h = absurd h
  without_items (Report e) h = absurd h
  without_items (Code e) h = absurd h
  without_items (Refused e) h = absurd h
  without_items (NoAssertion n) h = absurd h
  without_items (NotText n) h = absurd h
  without_items (Words e) h = absurd h
  without_items (File n) h = absurd h
  without_items Memory h = tt

  -- its items say no suite
  pub without_types : (items : List ItemForm) (e : TypeFault) → HasItems text items
      → WhyNotTyped c items e → WhyNotBuilt c text name (type_fault e)
  without_types items e has h = by e (untyped c text items e has h)
    where
      by : (f : TypeFault) → WhyNoReport c text (type_fault f)
          → WhyNotBuilt c text name (type_fault f)
      by (types.UnknownName at) k = k
      by (types.Duplicate at) k = k
      by (types.WiderThan128 at) k = k
      by (types.SliceRange at) k = k
      by (types.Degenerate at) k = k
      by (types.AdmitsEmpty at) k = k
      by (types.OtherClock at) k = k
      by (types.CyclicSequence at) k = k
      by (types.TooWide at) k = k
      by types.Memory k = tt

  -- its suite has no program for the name
  pub without_program : (suite : Suite) (e : Fault) → SaysSuite c text suite
      → WhyNoProgram suite name e → WhyNotBuilt c text name e
  without_program suite (Vcd e) says h = absurd h
  without_program suite (Lex e) says h = absurd h
  without_program suite (Parse e) says h = absurd h
  without_program suite (Typing e) says h = absurd h
  without_program suite (Compile e) says h = record { suite = suite; says = says; why = h }
  without_program suite BadSize says h = absurd h
  without_program suite BadWorkers says h = absurd h
  without_program suite BadJob says h = absurd h
  without_program suite (Window e) says h = absurd h
  without_program suite (Port e) says h = absurd h
  without_program suite (Report e) says h = absurd h
  without_program suite (Code e) says h = absurd h
  without_program suite (Refused e) says h = absurd h
  without_program suite (NoAssertion n) says h = record { suite = suite; says = says; why = h }
  without_program suite (NotText n) says h = absurd h
  without_program suite (Words e) says h = absurd h
  without_program suite (File n) says h = absurd h
  without_program suite Memory says h = tt

module _ (b : Build) (c : Contents) (gave : GaveDump b.source_before.remaining b.source_after.remaining c)
    (reads : b.source_after.failures ≡ b.source_before.failures) where
  refused : (e : Fault) → WhyNotBuilt c b.text b.name e → IsRefusedBuild b e
  refused e h = record { contents = c; gave = gave; why = h; reads = reads }

  -- a fault of the text refuses the build
  pub refused_build : (e : Fault) → WhyNotBuilt c b.text b.name e → WhyBuildRefused b e
  refused_build (Vcd e) h = absurd h
  refused_build (Lex e) h = refused (Lex e) h
  refused_build (Parse e) h = refused (Parse e) h
  refused_build (Typing e) h = refused (Typing e) h
  refused_build (Compile e) h = refused (Compile e) h
  refused_build BadSize h = absurd h
  refused_build BadWorkers h = absurd h
  refused_build BadJob h = absurd h
  refused_build (Window e) h = absurd h
  refused_build (Port e) h = absurd h
  refused_build (Report e) h = absurd h
  refused_build (Code e) h = absurd h
  refused_build (Refused e) h = absurd h
  refused_build (NoAssertion n) h = refused (NoAssertion n) h
  refused_build (NotText n) h = absurd h
  refused_build (Words e) h = absurd h
  refused_build (File n) h = absurd h
  refused_build Memory h = reads

-- a dump that wasn't read refuses the build
pub unread_build : (b : Build) (e : VcdFault)
    → Stands b.source_before b.source_after e → WhyBuildRefused b (vcd_fault e)
unread_build b (dumps.BadToken at) h = h
unread_build b (dumps.UnknownCode at) h = h
unread_build b (dumps.TimeBack at) h = h
unread_build b (dumps.UnclosedSection at) h = h
unread_build b (dumps.BadSize at) h = h
unread_build b dumps.Truncated h = h
unread_build b dumps.TooLarge h = h
unread_build b dumps.Read h = h
unread_build b dumps.Memory h = h.0
