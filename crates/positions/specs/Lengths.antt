-- When a sequence has no section.
use Rattle.std.specs.Prelude.{◌⊎◌, ◌<◌}
use Rattle.verifier.specs.Sections.{instructions_in}
use Rattle.assertions.specs.declared.sequence.Boolean.{Boolean}
use Rattle.assertions.specs.declared.sequence.Boolean.TheVariants.{One}
use Rattle.assertions.specs.Written.{Written}
use Rattle.positions.specs.Laws.{section_for}
use Rattle.positions.specs.Sequences.{atom_of, largest_place}

-- The section would have over 4,096 instructions, or a table on the way to it over 65,535.
abbrev pub HasLongSection : Written Boolean → Type 0
HasLongSection w = (4096 < instructions_in (section_for atom_of One w).blocks) ⊎
    (65535 < largest_place w)
