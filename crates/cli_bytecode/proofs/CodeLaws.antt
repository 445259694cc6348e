-- Bytes that spell no program: why they have no upgrade, and may not run.
use Rattle.std.proofs.Common.{◌≡◌, List, ℕ}
use Rattle.bytecode_programs.specs.Values.{ProgramData}
use Rattle.bytecode.specs.declared.fault.CodeFault.{CodeFault}
use Rattle.bytecode.specs.declared.fault.CodeFault.TheVariants as codes
use Rattle.bytecode.specs.Reading.{IsFirstFault}
use Rattle.cli_faults.specs.Faults.{code_fault}
use Rattle.cli_faults.specs.Codes.{SpellsProgram, IsMisspelled, WhyNotAccepted}
use Rattle.cli_bytecode.specs.Upgrades.{WhyNotUpgraded}

module _ (bytes : List ℕ) where
  misspelled : (e : CodeFault) → (e ≡ codes.Memory → ⊥) → ((p : ProgramData) → SpellsProgram bytes p → e ≡ codes.Memory)
      → IsFirstFault bytes e → IsMisspelled bytes e
  misspelled e other read first = record { none = λ p spells. other (read p spells); first = first }

  pub not_upgraded : (e : CodeFault) → ((p : ProgramData) → SpellsProgram bytes p → e ≡ codes.Memory)
      → IsFirstFault bytes e
      → WhyNotUpgraded bytes (code_fault e)
  not_upgraded codes.Magic read first = misspelled codes.Magic (λ e. cc) read first
  not_upgraded codes.Version read first = misspelled codes.Version (λ e. cc) read first
  not_upgraded (codes.Truncated at) read first = misspelled (codes.Truncated at) (λ e. cc) read first
  not_upgraded (codes.BadOpcode at) read first = misspelled (codes.BadOpcode at) (λ e. cc) read first
  not_upgraded (codes.BadField at) read first = misspelled (codes.BadField at) (λ e. cc) read first
  not_upgraded (codes.TrailingBytes at) read first = misspelled (codes.TrailingBytes at) (λ e. cc) read first
  not_upgraded codes.Memory read first = tt

  pub not_spelled : (e : CodeFault) → ((p : ProgramData) → SpellsProgram bytes p → e ≡ codes.Memory)
      → IsFirstFault bytes e
      → WhyNotAccepted bytes (code_fault e)
  not_spelled codes.Magic read first = misspelled codes.Magic (λ e. cc) read first
  not_spelled codes.Version read first = misspelled codes.Version (λ e. cc) read first
  not_spelled (codes.Truncated at) read first = misspelled (codes.Truncated at) (λ e. cc) read first
  not_spelled (codes.BadOpcode at) read first = misspelled (codes.BadOpcode at) (λ e. cc) read first
  not_spelled (codes.BadField at) read first = misspelled (codes.BadField at) (λ e. cc) read first
  not_spelled (codes.TrailingBytes at) read first = misspelled (codes.TrailingBytes at) (λ e. cc) read first
  not_spelled codes.Memory read first = tt
