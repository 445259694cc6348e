-- What bytes are as a program.
use Rattle.std.specs.Prelude.{◌≡◌, ℕ, Bool, List, IsTrue}
use Rattle.bytecode.specs.declared.fault.CodeFault.{CodeFault}
use Rattle.bytecode.specs.declared.fault.CodeFault.TheVariants as codes
use Rattle.bytecode_programs.specs.Values.{ProgramData, fits_program_in}
use Rattle.bytecode.specs.Spelling.{spelling_in}
use Rattle.bytecode.specs.Reading.{IsFirstFault}
use Rattle.verifier.specs.declared.refusal.Refusal.{Refusal}
use Rattle.verifier.specs.declared.refusal.Refusal.TheVariants as refusals
use Rattle.verifier.specs.Order.{IsFirstRefusal}
use Rattle.verifier.specs.Programs.{all_faults, IsAccepted}
use Rattle.cli_faults.specs.declared.fault.Fault.{Fault}
use Rattle.cli_faults.specs.declared.fault.Fault.TheVariants.{Code, Refused, Memory}

-- The bytes spell this program, in version 2 or in version 1.
pub record SpellsProgram (bytes : List ℕ) (program : ProgramData) : Type 0 where
  pub newer : Bool
  pub fits : IsTrue (fits_program_in newer program)
  pub spelled : bytes ≡ spelling_in newer program

-- They spell it, and the verifier accepts it.
pub record SpellsAccepted (bytes : List ℕ) (program : ProgramData) : Type 0 where
  pub spells : SpellsProgram bytes program
  pub accepted : IsAccepted program

-- They spell no program, and this is the first fault in reading order.
pub record IsMisspelled (bytes : List ℕ) (fault : CodeFault) : Type 0 where
  pub none : (program : ProgramData) → SpellsProgram bytes program → ⊥
  pub first : IsFirstFault bytes fault

-- They spell a program that the verifier doesn't accept, and this is its first fault.
pub record IsNotAccepted (bytes : List ℕ) (fault : Refusal) : Type 0 where
  pub program : ProgramData
  pub spells : SpellsProgram bytes program
  pub refused : IsAccepted program → ⊥
  pub first : IsFirstRefusal fault (all_faults program)

-- why bytes are no program that may run
abbrev pub WhyNotAccepted : List ℕ → Fault → Type 0
WhyNotAccepted bytes (Code codes.Memory) = ⊥
WhyNotAccepted bytes (Code e) = IsMisspelled bytes e
WhyNotAccepted bytes (Refused refusals.Memory) = ⊥
WhyNotAccepted bytes (Refused e) = IsNotAccepted bytes e
WhyNotAccepted bytes Memory = Unit {0}
WhyNotAccepted bytes _ = ⊥
