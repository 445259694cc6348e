-- What a build of an assertion's program comes to: no clock is looked up.
use Rattle.std.specs.Prelude.{◌≡◌, ℕ, List, IsTrue, Some, slice_get, string_bytes}
use Rattle.std.specs.List.{AllByRecursion}
use Rattle.signals.specs.Source.{SourceState}
use Rattle.assertions.specs.declared.assertion.Assertion.{Assertion}
use Rattle.assertions.specs.declared.suite.Suite.{Suite}
use Rattle.bytecode_programs.specs.Values.{ProgramData, fits_program}
use Rattle.bytecode.specs.Spelling.{spelling}
use Rattle.verifier.specs.Programs.{IsAccepted, least_limits}
use Rattle.parser.specs.declared.fault.ParseFault.TheVariants as parsing
use Rattle.compiler.specs.declared.fault.CompileFault.{CompileFault}
use Rattle.compiler.specs.declared.fault.CompileFault.TheVariants as compiles
use Rattle.compiler.specs.Faults.{WhyNotCompiled, HasNoFault}
use Rattle.compiler.specs.Parts.{declared_from}
use Rattle.compiler.specs.Programs.{IsProgramOf}
use Rattle.vcd_reader.specs.declared.fault.VcdFault.TheVariants as dumps
use Rattle.vcd_reader.specs.Dump.{Contents, GaveDump, Stands}
use Rattle.lexer.specs.Covering.{IsFaulty}
use Rattle.cli_faults.specs.declared.fault.Fault.{Fault}
use Rattle.cli_faults.specs.declared.fault.Fault.TheVariants.{Vcd, Lex, Parse, Typing, Compile}
use Rattle.cli_faults.specs.declared.fault.Fault.TheVariants.{NoAssertion, Memory}
use Rattle.cli.specs.Reported.{SaysSuite}
use Rattle.cli.specs.Outcomes.{HasNoItems, IsMistyped}

-- The suite's assertion of this name.
pub record IsAssertionNamed (suite : Suite) (name : List ℕ) (a : Assertion) : Type 0 where
  pub place : ℕ
  pub is : slice_get suite.assertions.items place ≡ Some a
  pub named : string_bytes a.name ≡ name

-- no assertion of the suite has this name
abbrev pub LacksName : Suite → List ℕ → Type 0
LacksName suite name =
    AllByRecursion (λ (a : Assertion). string_bytes a.name ≡ name → ⊥) suite.assertions.items

-- The bytes are the spelling in version 2 of an accepted program of the suite's assertion of this
-- name, which has no fault; the limits that it declares are the least that serve it.
pub record IsSpelledProgram (suite : Suite) (name bytes : List ℕ) : Type 0 where
  pub assertion : Assertion
  pub of : IsAssertionNamed suite name assertion
  pub faultless : HasNoFault suite assertion
  pub program : ProgramData
  pub means : IsProgramOf suite assertion program
  pub accepted : IsAccepted program
  pub least : program.header.limits ≡ declared_from (least_limits program)
  pub fits : IsTrue (fits_program program)
  pub spelled : bytes ≡ spelling program

-- The suite's assertion of this name has no program.
pub record HasNoneOfName (suite : Suite) (name : List ℕ) (fault : CompileFault) : Type 0 where
  pub assertion : Assertion
  pub of : IsAssertionNamed suite name assertion
  pub why : WhyNotCompiled suite assertion fault

-- why a suite has no program for a name
abbrev pub WhyNoProgram : Suite → List ℕ → Fault → Type 0
WhyNoProgram suite name (NoAssertion n) = (string_bytes n ≡ name) × LacksName suite name
WhyNoProgram suite name (Compile compiles.Memory) = ⊥
WhyNoProgram suite name (Compile e) = HasNoneOfName suite name e
WhyNoProgram suite name Memory = Unit {0}
WhyNoProgram suite name _ = ⊥

-- The text says a suite over the contents of a dump, and the bytes are its program for the name.
pub record IsBuilt (c : Contents) (text name bytes : List ℕ) : Type 0 where
  pub suite : Suite
  pub says : SaysSuite c text suite
  pub is : IsSpelledProgram suite name bytes

-- The text says a suite that has no program for the name.
pub record SaysNone (c : Contents) (text name : List ℕ) (fault : Fault) : Type 0 where
  pub suite : Suite
  pub says : SaysSuite c text suite
  pub why : WhyNoProgram suite name fault

-- why a text has no program for a name over these contents
abbrev pub WhyNotBuilt : Contents → List ℕ → List ℕ → Fault → Type 0
WhyNotBuilt c text name (Lex e) = IsFaulty 0 text e
WhyNotBuilt c text name (Parse parsing.Memory) = ⊥
WhyNotBuilt c text name (Parse e) = HasNoItems text e
WhyNotBuilt c text name (Typing e) = IsMistyped c text e
WhyNotBuilt c text name (NoAssertion n) = SaysNone c text name (NoAssertion n)
WhyNotBuilt c text name (Compile e) = SaysNone c text name (Compile e)
WhyNotBuilt c text name Memory = Unit {0}
WhyNotBuilt c text name _ = ⊥

-- What a build was given and what it left: the text, the name, and the source before and after.
pub record Build : Type 0 where
  pub text : List ℕ
  pub name : List ℕ
  pub source_before : SourceState
  pub source_after : SourceState

abbrev pub build_of : List ℕ → List ℕ → SourceState → SourceState → Build
build_of text name source_before source_after = record {
  text = text;
  name = name;
  source_before = source_before;
  source_after = source_after;
}

-- The source gave a dump, and the bytes are the text's program for the name. No call failed.
pub record IsBuiltFrom (b : Build) (bytes : List ℕ) : Type 0 where
  pub contents : Contents
  pub gave : GaveDump b.source_before.remaining b.source_after.remaining contents
  pub built : IsBuilt contents b.text b.name bytes
  pub reads : b.source_after.failures ≡ b.source_before.failures

-- The source gave a dump over which the text has no program for the name.
pub record IsRefusedBuild (b : Build) (fault : Fault) : Type 0 where
  pub contents : Contents
  pub gave : GaveDump b.source_before.remaining b.source_after.remaining contents
  pub why : WhyNotBuilt contents b.text b.name fault
  pub reads : b.source_after.failures ≡ b.source_before.failures

-- why there is no program
abbrev pub WhyBuildRefused : Build → Fault → Type 0
WhyBuildRefused b (Vcd dumps.Memory) = ⊥
WhyBuildRefused b (Vcd e) = Stands b.source_before b.source_after e
WhyBuildRefused b Memory = b.source_after.failures ≡ b.source_before.failures
WhyBuildRefused b fault = IsRefusedBuild b fault
