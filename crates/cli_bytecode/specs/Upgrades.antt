-- What an upgrade of bytes comes to.
use Rattle.std.specs.Prelude.{◌≡◌, ℕ, List}
use Rattle.bytecode_programs.specs.Values.{ProgramData}
use Rattle.bytecode.specs.declared.fault.CodeFault.TheVariants as codes
use Rattle.bytecode.specs.Spelling.{spelling}
use Rattle.cli_faults.specs.declared.fault.Fault.{Fault}
use Rattle.cli_faults.specs.declared.fault.Fault.TheVariants.{Code, Memory}
use Rattle.cli_faults.specs.Codes.{SpellsProgram, IsMisspelled}

-- The bytes spell a program, in version 2 or in version 1, and the file is its spelling in
-- version 2.
pub record IsUpgrade (bytes file : List ℕ) : Type 0 where
  pub program : ProgramData
  pub spells : SpellsProgram bytes program
  pub written : file ≡ spelling program

-- why bytes have no upgrade
abbrev pub WhyNotUpgraded : List ℕ → Fault → Type 0
WhyNotUpgraded bytes (Code codes.Memory) = ⊥
WhyNotUpgraded bytes (Code e) = IsMisspelled bytes e
WhyNotUpgraded bytes Memory = Unit {0}
WhyNotUpgraded bytes _ = ⊥
