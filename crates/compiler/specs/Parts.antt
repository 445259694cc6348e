-- The parts of an assertion's program on the way.
use Rattle.std.specs.Prelude.{◌≡◌, ℕ, ◌<◌, ◌≤◌, Bool, List, [], length, map, Option, Some, None}
use Rattle.std.specs.Prelude.{slice_get, string_bytes}
use Rattle.expressions.specs.declared.counter.Counter.{Counter}
use Rattle.assertions.specs.declared.sequence.Boolean.TheVariants.{One}
use Rattle.assertions.specs.declared.sequence.Sequence.{Sequence}
use Rattle.assertions.specs.declared.signal.Signal.{Signal}
use Rattle.assertions.specs.declared.assertion.Assertion.{Assertion}
use Rattle.assertions.specs.declared.suite.Suite.{Suite}
use Rattle.assertions.specs.Shapes.{written_form}
use Rattle.bytecode_programs.specs.declared.limits.Limits.{Limits}
use Rattle.bytecode_programs.specs.Values.{ProgramData, SlotData}
use Rattle.verifier.specs.Sections.{instructions_in}
use Rattle.verifier.specs.declared.least.LeastLimits.{LeastLimits}
use Rattle.assertions.specs.Marks.{places_from}
use Rattle.positions.specs.Laws.{section_for, led_section}
use Rattle.positions.specs.Sequences.{atom_of, largest_place}
use Rattle.positions.specs.Lengths.{HasLongSection}
use Rattle.compiler.specs.Programs.{disabling_atom}
use Rattle.compiler.specs.Readings.{code_over}
use Rattle.compiler.specs.Faults.{StandsOver}
use Rattle.compiler.specs.declared.fault.CompileFault.{CompileFault}
use Rattle.compiler.specs.declared.fault.CompileFault.TheVariants.{CodeTooLong, Memory}

-- the slot of a signal, if there is one
abbrev pub slot_found : Option Signal → SlotData
slot_found None = record { width = 0; path = [] }
slot_found (Some s) = record { width = s.width; path = string_bytes s.path }

abbrev pub slot_at : List Signal → ℕ → SlotData
slot_at signals place = slot_found (slice_get signals place)

-- the width of a counter, if there is one
abbrev pub width_found : Option Counter → ℕ
width_found None = 0
width_found (Some c) = c.width

abbrev pub width_at : List Counter → ℕ → ℕ
width_at counters place = width_found (slice_get counters place)

-- a program that declares nothing
abbrev pub no_limits : Limits
no_limits =
    record { history = 0; stack = 0; attempts = 0; obligations = 0; budget = 0 }

-- The parts of an assertion's program, which declares no limits yet.
pub record AreProgramParts (suite : Suite) (a : Assertion) (signals counters : List Bool)
    (p : ProgramData) : Type 0 where
  pub limits : p.header.limits ≡ no_limits
  pub disable : p.header.disable ≡ disabling_atom a.disabling
  pub atoms : p.header.atoms ≡ length a.booleans.items
  pub name : p.header.name ≡ string_bytes a.name
  pub clock : p.header.clock ≡ string_bytes suite.clock
  pub signals_are : p.signals ≡ map (slot_at suite.names.items) (places_from 0 signals)
  pub counters_are : p.counters ≡ map (width_at suite.counters.items) (places_from 0 counters)
  pub sample : p.sample ≡ code_over suite a signals counters
  pub antecedent : p.antecedent ≡ led_section a.first atom_of One (written_form a.antecedent)
  pub consequent : p.consequent ≡ section_for atom_of One (written_form a.consequent)
  pub short_sample : length p.sample ≤ 4096
  pub short_antecedent : instructions_in p.antecedent.blocks ≤ 4096
  pub short_consequent : instructions_in p.consequent.blocks ≤ 4096
  pub light_antecedent : largest_place (written_form a.antecedent) ≤ 65535
  pub light_consequent : largest_place (written_form a.consequent) ≤ 65535

-- Why code was not made: it would be too long, or memory ran out.
abbrev pub IsCodeFault : Suite → Assertion → List Bool → List Bool → CompileFault → Type 0
IsCodeFault suite a signals counters CodeTooLong =
    StandsOver suite a signals counters CodeTooLong
IsCodeFault suite a signals counters Memory = Unit {0}
IsCodeFault suite a signals counters fault = ⊥

abbrev pub IsSideFault : Sequence → CompileFault → Type 0
IsSideFault side CodeTooLong = HasLongSection (written_form side)
IsSideFault side Memory = Unit {0}
IsSideFault side fault = ⊥

-- The least limits of a program are within the most that there may be.
pub record AreModest (l : LeastLimits) : Type 0 where
  pub history : l.history ≤ 4096
  pub stack : l.stack ≤ 1024
  pub attempts : l.attempts ≤ 1024
  pub obligations : l.obligations ≤ 1024
  pub budget : l.budget ≤ 16777216

-- a program that declares other limits
abbrev pub with_limits : ProgramData → Limits → ProgramData
with_limits p limits = record {
  header = record {
    limits = limits;
    disable = p.header.disable;
    atoms = p.header.atoms;
    name = p.header.name;
    clock = p.header.clock;
  };
  signals = p.signals;
  counters = p.counters;
  sample = p.sample;
  antecedent = p.antecedent;
  consequent = p.consequent;
}

abbrev pub declared_from : LeastLimits → Limits
declared_from l =
    record {
      history = l.history;
      stack = l.stack;
      attempts = l.attempts;
      obligations = l.obligations;
      budget = l.budget;
    }
