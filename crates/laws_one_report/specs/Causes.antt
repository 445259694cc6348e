-- Why an assertion of a text has no program, by what the text says.
use Rattle.std.specs.Prelude.{◌≡◌, ℕ, List, Some, slice_get}
use Rattle.parser_grammar.specs.Trees.{AssertionForm, ItemForm}
use Rattle.types_names.specs.Scopes.{Scope}
use Rattle.types.specs.Texts.{assertions_of, label_text}
use Rattle.compiler.specs.declared.fault.CompileFault.{CompileFault}
use Rattle.compiler.specs.declared.fault.CompileFault.TheVariants.{TooManyAtoms, CodeTooLong}
use Rattle.compiler.specs.declared.fault.CompileFault.TheVariants.{TooManySlots, TextTooLong}
use Rattle.compiler.specs.declared.fault.CompileFault.TheVariants.{Memory}
use Rattle.compiler_laws.specs.Small.{HasManyBooleans, IsSmallText}
use Rattle.vcd_reader.specs.Dump.{Contents}
use Rattle.cli_faults.specs.declared.fault.Fault.TheVariants.{Compile}
use Rattle.suite_over_dump.specs.Suites.{scope_over}
use Rattle.cli.specs.Reported.{HasItems}
use Rattle.cli.specs.Outcomes.{IsNotCompiled}
use Rattle.cli.specs.Builds.{SaysNone}
use Rattle.laws_one_report.specs.ReadInText.{ReadsMany, HasLongName}

-- K1: over 127 booleans are written. K2: the assertion isn't small. K3: it reads over 255 signals
-- and counters. K4: its name, its clock's path or that of a signal that it reads has over 65,535
-- bytes. So many assertions stand before it.
abbrev pub IsCompileCause : Scope → List ItemForm → ℕ → AssertionForm → CompileFault → Type 0
IsCompileCause s items before a TooManyAtoms = HasManyBooleans s items a
IsCompileCause s items before a CodeTooLong = IsSmallText s items a → ⊥
IsCompileCause s items before a TooManySlots = ReadsMany s items a
IsCompileCause s items before a TextTooLong = HasLongName s items before a
IsCompileCause s items before a Memory = Unit {0}

-- It stands of the assertion at a place among those of the text.
pub record HasCause (c : Contents) (text : List ℕ) (place : ℕ) (fault : CompileFault) : Type 0 where
  pub items : List ItemForm
  pub spelled : HasItems text items
  pub assertion : AssertionForm
  pub is : slice_get (assertions_of items) place ≡ Some assertion
  pub cause : IsCompileCause (scope_over c.variables items) items place assertion fault

-- Some assertion of a text that isn't compiled has the cause.
abbrev pub FaultsHaveCauses : Type 0
FaultsHaveCauses =
    (c : Contents) (text : List ℕ) (fault : CompileFault) → IsNotCompiled c text fault →
    (place : ℕ) × HasCause c text place fault

-- The cause of a build's fault stands of an assertion of the name.
pub record HasNamedCause (c : Contents) (text name : List ℕ) (fault : CompileFault) : Type 0 where
  pub place : ℕ
  pub has : HasCause c text place fault
  pub named : label_text place has.assertion.label ≡ name

abbrev pub BuildFaultsHaveCauses : Type 0
BuildFaultsHaveCauses =
    (c : Contents) (text name : List ℕ) (fault : CompileFault) →
    SaysNone c text name (Compile fault) → HasNamedCause c text name fault
