-- What a program of an assertion is.
use Rattle.std.specs.Prelude.{◌≡◌, ◌↔◌, ℕ, ◌+◌, ◌<◌, ◌≤◌, true, List, length, map, Option}
use Rattle.std.specs.Prelude.{Some, None, Contains, AllPairs}
use Rattle.std.specs.Prelude.{slice_get, string_bytes}
use Rattle.std.specs.List.{AllByRecursion, AllZip}
use Rattle.expressions.specs.declared.name.Origin.TheVariants.{Signal, Counter}
use Rattle.expressions.specs.declared.name.Origin.{Origin}
use Rattle.expressions.specs.declared.name.Name.{Name}
use Rattle.expressions.specs.declared.expr.Expr.{Expr}
use Rattle.expressions.specs.Terms.{Term, width_of}
use Rattle.expressions.specs.Expressions.{term_of}
use Rattle.assertions.specs.declared.sequence.Boolean.{Boolean}
use Rattle.assertions.specs.declared.sequence.Boolean.TheVariants.{One}
use Rattle.assertions.specs.declared.signal.Signal.{Signal as Watched}
use Rattle.assertions.specs.declared.assertion.Assertion.{Assertion}
use Rattle.assertions.specs.declared.suite.Suite.{Suite}
use Rattle.assertions.specs.Segments.{AdmitsEmpty}
use Rattle.assertions.specs.Shapes.{written_form, shape}
use Rattle.assertions.specs.Listed.{EachBoolean, IsListed, IsListedOption}
use Rattle.bytecode_programs.specs.Values.{ProgramData, SlotData}
use Rattle.assertions.specs.Reads.{Reads}
use Rattle.compiler.specs.Codes.{Slots}
use Rattle.compiler.specs.Samples.{Held, sample_code}
use Rattle.compiler.specs.Laws.{EachPart, OfName, program_terms}
use Rattle.positions.specs.Sequences.{atom_of}
use Rattle.positions.specs.Laws.{section_for, led_section}

-- What a program holds of a suite: the places of signals, and counters, in the order of its slots.
pub record Layout : Type 0 where
  pub signals : List ℕ
  pub counters : List Held

-- Slot 0 is the constant 1; then come the signals, then the counters.
pub record IsLaidOut (l : Layout) (at : Slots) : Type 0 where
  pub signals : (i place : ℕ) → slice_get l.signals i ≡ Some place → at Signal place ≡ 1 + i
  pub counters : (i : ℕ) (h : Held) → slice_get l.counters i ≡ Some h →
      at Counter h.place ≡ 1 + (length l.signals + i)

-- a signal that is held, and the width of it
pub record HoldsSignal (suite : Suite) (l : Layout) (place width : ℕ) : Type 0 where
  pub slot : ℕ
  pub held : slice_get l.signals slot ≡ Some place
  pub signal : Watched
  pub is : slice_get suite.names.items place ≡ Some signal
  pub wide : signal.width ≡ width

-- a counter that is held, and the width of it
pub record HoldsCounter (l : Layout) (place width : ℕ) : Type 0 where
  pub slot : ℕ
  pub counter : Held
  pub held : slice_get l.counters slot ≡ Some counter
  pub is : counter.place ≡ place
  pub wide : counter.counter.width ≡ width

abbrev pub HoldsAt : Suite → Layout → Origin → ℕ → ℕ → Type 0
HoldsAt suite l Signal place width = HoldsSignal suite l place width
HoldsAt suite l Counter place width = HoldsCounter l place width

abbrev pub HoldsName : Suite → Layout → Name → Type 0
HoldsName suite l name = HoldsAt suite l name.origin name.place name.width

-- a part of an expression that can be sampled
pub record IsSampledIn (suite : Suite) (l : Layout) (e : Term) : Type 0 where
  pub name : OfName (HoldsName suite l) e
  pub narrow : width_of e ≤ 128

-- the atom of a disabling boolean, if there is one
abbrev pub disabling_atom : Option Boolean → Option ℕ
disabling_atom None = None
disabling_atom (Some b) = atom_of b

-- the slot of a signal of the suite
pub record IsSlotOf (suite : Suite) (place : ℕ) (slot : SlotData) : Type 0 where
  pub signal : Watched
  pub is : slice_get suite.names.items place ≡ Some signal
  pub width : slot.width ≡ signal.width
  pub path : slot.path ≡ string_bytes signal.path

-- These are the places of what an assertion reads, itself or through counters: exactly those, each
-- once, in the suite's order.
pub record AreReadPlaces (suite : Suite) (a : Assertion) (origin : Origin) (places : List ℕ) :
    Type 0 where
  pub exactly : (place : ℕ) → Contains places place ↔ Reads suite a origin place
  pub rising : AllPairs (λ x y. x < y) places

-- The program of an assertion of a suite: it holds what the assertion reads, and has an atom for
-- each boolean of its list, in order, and for each of its sides the section that follows it.
pub record IsProgramOf (suite : Suite) (a : Assertion) (p : ProgramData) : Type 0 where
  pub name : p.header.name ≡ string_bytes a.name
  pub clock : p.header.clock ≡ string_bytes suite.clock
  -- what it holds
  pub layout : Layout
  pub slots : AllZip (IsSlotOf suite) layout.signals p.signals
  pub held : AllByRecursion (λ (h : Held). slice_get suite.counters.items h.place ≡ Some h.counter)
      layout.counters
  pub widths : p.counters ≡ map (λ (h : Held). h.counter.width) layout.counters
  pub reads_signals : AreReadPlaces suite a Signal layout.signals
  pub reads_counters : AreReadPlaces suite a Counter (map (λ (h : Held). h.place) layout.counters)
  -- its sample code
  pub booleans : List Expr
  pub found : map (λ place. slice_get suite.booleans.items place) a.booleans.items
      ≡ map (λ e. Some e) booleans
  pub atoms : p.header.atoms ≡ length booleans
  pub sampled : AllByRecursion (EachPart (IsSampledIn suite layout))
      (program_terms (map term_of booleans) layout.counters)
  pub at : Slots
  pub laid : IsLaidOut layout at
  pub sample : p.sample ≡ sample_code at (map term_of booleans) layout.counters
  -- its sections
  pub antecedent : p.antecedent ≡ led_section a.first atom_of One (written_form a.antecedent)
  pub consequent : p.consequent ≡ section_for atom_of One (written_form a.consequent)
  pub disable : p.header.disable ≡ disabling_atom a.disabling
  -- what is asked of the assertion
  pub antecedent_listed :
      EachBoolean (IsListed (length a.booleans.items)) (written_form a.antecedent)
  pub consequent_listed :
      EachBoolean (IsListed (length a.booleans.items)) (written_form a.consequent)
  pub disabling_listed : IsListedOption (length a.booleans.items) a.disabling
  pub fills : AdmitsEmpty (shape a.consequent) → ⊥
  pub led : a.first ≡ true → AdmitsEmpty (shape a.antecedent) → ⊥
