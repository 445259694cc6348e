-- What an assertion reads of its suite, and the slots and sample code that its program has for it.
use Rattle.std.specs.Prelude.{ℕ, ◌+◌, Bool, List, length, count_by, slice_get, unwrap_or}
use Rattle.expressions.specs.declared.name.Origin.TheVariants.{Signal, Counter}
use Rattle.expressions.specs.declared.name.Name.{Name}
use Rattle.expressions.specs.Terms.{Term}
use Rattle.assertions.specs.declared.assertion.Assertion.{Assertion}
use Rattle.assertions.specs.declared.suite.Suite.{Suite}
use Rattle.bytecode_programs.specs.declared.sample_instr.SampleInstr.{SampleInstr}
use Rattle.assertions.specs.Reads.{AreRead}
use Rattle.assertions.specs.Marks.{AreMarks, is_marked, places_from, slots_from}
use Rattle.compiler.specs.Codes.{Slots}
use Rattle.compiler.specs.Samples.{Held, sample_code}
use Rattle.compiler.specs.Chosen.{terms_at, held_counters}

-- For each signal and each counter of the suite, whether the assertion reads it.
pub record IsReading (suite : Suite) (a : Assertion) (signals counters : List Bool) : Type 0 where
  pub names : List Name
  pub read : AreRead suite a names
  pub signals_are : AreMarks Signal names (length suite.names.items) signals
  pub counters_are : AreMarks Counter names (length suite.counters.items) counters

-- Slot 0 is the constant 1; then come the signals and the counters that are read.
abbrev pub first_counter : List Bool → ℕ
first_counter signals = 1 + count_by is_marked signals

abbrev pub slot_count : List Bool → List Bool → ℕ
slot_count signals counters = first_counter signals + count_by is_marked counters

abbrev pub slots_over : List Bool → List Bool → Slots
slots_over signals counters Signal place =
    unwrap_or (slice_get (slots_from 1 signals) place) 0
slots_over signals counters Counter place =
    unwrap_or (slice_get (slots_from (first_counter signals) counters) place) 0

-- the expressions of an assertion's booleans, in the order of its list
abbrev pub boolean_terms : Suite → Assertion → List Term
boolean_terms suite a = terms_at suite.booleans.items a.booleans.items

-- the counters that are read
abbrev pub counters_read : Suite → List Bool → List Held
counters_read suite counters = held_counters suite.counters.items (places_from 0 counters)

-- the sample code of an assertion's program
abbrev pub code_over : Suite → Assertion → List Bool → List Bool → List SampleInstr
code_over suite a signals counters =
    sample_code (slots_over signals counters) (boolean_terms suite a)
    (counters_read suite counters)
