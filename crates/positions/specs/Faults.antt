-- When a table on the way to a section is not made.
use Rattle.std.specs.Prelude.{◌≡◌, ℕ, ◌<◌}
use Rattle.positions.specs.declared.fault.SectionFault.{SectionFault}
use Rattle.positions.specs.declared.fault.SectionFault.TheVariants.{TooLong}

-- The fault is no TooLong, unless a table has too many instructions.
abbrev pub IsLong : ℕ → SectionFault → Type 0
IsLong size fault = fault ≡ TooLong → 65535 < size
