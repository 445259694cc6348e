-- Why there are no lines.
use Rattle.std.specs.Prelude.{◌≡◌, ◌⊎◌, ℕ, ◌<◌, List, Some, length, slice_get, take}
use Rattle.std.specs.List.{AllByRecursion}
use Rattle.assertions.specs.declared.assertion.Assertion.{Assertion}
use Rattle.assertions.specs.declared.suite.Suite.{Suite}
use Rattle.bytecode_programs.specs.Values.{ProgramData}
use Rattle.verifier.specs.Programs.{IsAccepted}
use Rattle.compiler.specs.declared.fault.CompileFault.{CompileFault}
use Rattle.compiler.specs.declared.fault.CompileFault.TheVariants as compiles
use Rattle.compiler.specs.Faults.{WhyNotCompiled, HasNoFault}
use Rattle.compiler.specs.Programs.{IsProgramOf}
use Rattle.workers_core.specs.Wanted.{IsBadCount}
use Rattle.report_programs.specs.declared.fault.LinesFault.{LinesFault}
use Rattle.report_programs.specs.declared.fault.LinesFault.TheVariants.{Program, BadJob, Memory}

-- want of memory is one fault, wherever it came up
abbrev pub program_fault : CompileFault → LinesFault
program_fault compiles.Memory = Memory
program_fault fault = Program fault

-- The assertion has no fault, and this is its program, which the verifier accepts.
pub record IsMadeOf (suite : Suite) (a : Assertion) (p : ProgramData) : Type 0 where
  pub faultless : HasNoFault suite a
  pub of : IsProgramOf suite a p
  pub accepted : IsAccepted p

-- The assertion has no fault, and a program that the verifier accepts.
pub record HasAcceptedProgram (suite : Suite) (a : Assertion) : Type 0 where
  pub faultless : HasNoFault suite a
  pub program : ProgramData
  pub of : IsProgramOf suite a program
  pub accepted : IsAccepted program

-- The fault is that of an assertion of the suite, and those before it have programs.
pub record HasNoProgram (suite : Suite) (fault : CompileFault) : Type 0 where
  pub place : ℕ
  pub assertion : Assertion
  pub is : slice_get suite.assertions.items place ≡ Some assertion
  pub why : WhyNotCompiled suite assertion fault
  pub before : AllByRecursion (HasAcceptedProgram suite) (take place suite.assertions.items)

-- why some assertion has no program; want of memory says nothing of the suite
abbrev pub WhyNoPrograms : Suite → LinesFault → Type 0
WhyNoPrograms suite (Program compiles.Memory) = ⊥
WhyNoPrograms suite (Program fault) = HasNoProgram suite fault
WhyNoPrograms suite BadJob = ⊥
WhyNoPrograms suite Memory = Unit {0}

-- why these programs are no job
abbrev pub WhyBadJob : List ProgramData → LinesFault → Type 0
WhyBadJob ps (Program fault) = ⊥
WhyBadJob ps BadJob = IsBadCount ps
WhyBadJob ps Memory = Unit {0}

-- Each assertion has a program, and there are none of them, or too many.
pub record HasBadCount (suite : Suite) : Type 0 where
  pub count : (length suite.assertions.items ≡ 0) ⊎ (4096 < length suite.assertions.items)
  pub programs : AllByRecursion (HasAcceptedProgram suite) suite.assertions.items

-- first an assertion that has no program, then their number
abbrev pub WhyNoLines : Suite → LinesFault → Type 0
WhyNoLines suite (Program compiles.Memory) = ⊥
WhyNoLines suite (Program fault) = HasNoProgram suite fault
WhyNoLines suite BadJob = HasBadCount suite
WhyNoLines suite Memory = Unit {0}
