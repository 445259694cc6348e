-- Why an assertion has no program.
use Rattle.std.specs.Prelude.{◌⊎◌, ℕ, ◌<◌, ◌≤◌, Bool, false, ◌||◌, nat_lt, IsTrue, List, length}
use Rattle.std.specs.Prelude.{Option, Some, None, slice_get, string_bytes}
use Rattle.std.specs.List.{list_any}
use Rattle.assertions.specs.Marks.{places_from}
use Rattle.assertions.specs.declared.signal.Signal.{Signal}
use Rattle.assertions.specs.declared.assertion.Assertion.{Assertion}
use Rattle.assertions.specs.declared.suite.Suite.{Suite}
use Rattle.assertions.specs.Shapes.{written_form}
use Rattle.positions.specs.Lengths.{HasLongSection}
use Rattle.compiler.specs.declared.fault.CompileFault.{CompileFault}
use Rattle.compiler.specs.declared.fault.CompileFault.TheVariants.{TooManyAtoms, CodeTooLong}
use Rattle.compiler.specs.declared.fault.CompileFault.TheVariants.{TooManySlots, TextTooLong}
use Rattle.compiler.specs.declared.fault.CompileFault.TheVariants.{Memory}
use Rattle.compiler.specs.Readings.{IsReading, slot_count, code_over}

-- the text has over 65,535 bytes
abbrev pub is_long : List ℕ → Bool
is_long text = nat_lt 65535 (length text)

abbrev pub is_long_found : Option Signal → Bool
is_long_found None = false
is_long_found (Some s) = is_long (string_bytes s.path)

-- the path of the signal at a place is long
abbrev pub is_long_path : List Signal → ℕ → Bool
is_long_path signals place = is_long_found (slice_get signals place)

-- a text of the program is long: its name, its clock, or the path of a signal at one of the places
abbrev pub has_long_text : Suite → Assertion → List ℕ → Bool
has_long_text suite a places =
    is_long (string_bytes a.name)
    || (is_long (string_bytes suite.clock) || list_any (is_long_path suite.names.items) places)

abbrev pub HasLongText : Suite → Assertion → List Bool → Type 0
HasLongText suite a signals = IsTrue (has_long_text suite a (places_from 0 signals))

-- a part of the program would have over 4,096 instructions, or a table on the way to the section of
-- a side over 65,535
abbrev pub HasLongCode : Suite → Assertion → List Bool → List Bool → Type 0
HasLongCode suite a signals counters =
    (4096 < length (code_over suite a signals counters))
    ⊎ (HasLongSection (written_form a.antecedent) ⊎ HasLongSection (written_form a.consequent))

-- The fault stands, of an assertion that reads these signals and counters.
abbrev pub StandsOver : Suite → Assertion → List Bool → List Bool → CompileFault → Type 0
StandsOver suite a signals counters TooManyAtoms = 127 < length a.booleans.items
StandsOver suite a signals counters TooManySlots = 256 < slot_count signals counters
StandsOver suite a signals counters TextTooLong = HasLongText suite a signals
StandsOver suite a signals counters CodeTooLong = HasLongCode suite a signals counters
StandsOver suite a signals counters Memory = Unit {0}

-- K1, K3, K4, K2
abbrev pub fault_rank : CompileFault → ℕ
fault_rank TooManyAtoms = 1
fault_rank TooManySlots = 2
fault_rank TextTooLong = 3
fault_rank CodeTooLong = 4
fault_rank Memory = 5

-- The fault stands, and none of an earlier kind.
pub record IsFirstCompileFault (suite : Suite) (a : Assertion) (fault : CompileFault) : Type 0 where
  pub signals : List Bool
  pub counters : List Bool
  pub reading : IsReading suite a signals counters
  pub stands : StandsOver suite a signals counters fault
  pub first : (other : CompileFault) → fault_rank other < fault_rank fault →
      StandsOver suite a signals counters other → ⊥

-- no fault of what the assertion has and reads
pub record AreCounted (suite : Suite) (a : Assertion) (signals counters : List Bool) : Type 0 where
  pub atoms : length a.booleans.items ≤ 127
  pub slots : slot_count signals counters ≤ 256
  pub texts : HasLongText suite a signals → ⊥

-- the first fault of these
pub record IsCountFault (suite : Suite) (a : Assertion) (signals counters : List Bool)
    (fault : CompileFault) : Type 0 where
  pub early : fault_rank fault < fault_rank CodeTooLong
  pub stands : StandsOver suite a signals counters fault
  pub first : (other : CompileFault) → fault_rank other < fault_rank fault →
      StandsOver suite a signals counters other → ⊥

-- why there is no program; want of memory says nothing of the assertion
abbrev pub WhyNotCompiled : Suite → Assertion → CompileFault → Type 0
WhyNotCompiled suite a Memory = Unit {0}
WhyNotCompiled suite a fault = IsFirstCompileFault suite a fault

-- No fault stands: an assertion that has a program.
pub record HasNoFault (suite : Suite) (a : Assertion) : Type 0 where
  pub signals : List Bool
  pub counters : List Bool
  pub reading : IsReading suite a signals counters
  pub none : (fault : CompileFault) → fault_rank fault < fault_rank Memory →
      StandsOver suite a signals counters fault → ⊥
