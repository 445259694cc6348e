-- The tables of sequences, over the atoms that stand for their booleans.
use Rattle.std.specs.Prelude.{ℕ, max, if◌then◌else◌, Option, Some, None}
use Rattle.bytecode_programs.specs.Values.{SectionData}
use Rattle.assertions.specs.declared.sequence.Boolean.{Boolean}
use Rattle.assertions.specs.declared.sequence.Boolean.TheVariants.{One, Listed}
use Rattle.assertions.specs.Written.{Written, boolean, delay, lead, repeat, or, and, intersect}
use Rattle.assertions.specs.Written.{throughout}
use Rattle.positions.specs.Plans.{weighs, plan}
use Rattle.positions.specs.Tables.{plan_table}
use Rattle.positions.specs.Sections.{bits, position_blocks}
use Rattle.positions.specs.Rows.{TableData, listed, rows_size, sift_data}

-- the atom of a boolean is its place in the assertion's list; the constant 1 has none
abbrev pub atom_of : Boolean → Option ℕ
atom_of One = None
atom_of (Listed place) = Some place

-- the table of a sequence, as code makes it
abbrev pub listed_for : Written Boolean → TableData
listed_for w = listed atom_of (plan_table (plan One w))

-- The most instructions that the table of a sequence, or of a part of it, makes up, of those that
-- are made: there is none of what weighs nothing.
abbrev pub at_least_own : Written Boolean → ℕ → ℕ
at_least_own w parts = if weighs w then max parts (rows_size (listed_for w).rows) else 0

abbrev pub largest_place : Written Boolean → ℕ
largest_place (boolean b) = at_least_own (boolean b) 0
largest_place (delay r least most s) =
    at_least_own (delay r least most s) (max (largest_place r) (largest_place s))
largest_place (lead least most s) = at_least_own (lead least most s) (largest_place s)
largest_place (repeat r least most) = at_least_own (repeat r least most) (largest_place r)
largest_place (or r s) = at_least_own (or r s) (max (largest_place r) (largest_place s))
largest_place (and r s) = at_least_own (and r s) (max (largest_place r) (largest_place s))
largest_place (intersect r s) = at_least_own (intersect r s)
    (max (largest_place r) (largest_place s))
largest_place (throughout b r) = at_least_own (throughout b r) (largest_place r)

-- what is kept of it
abbrev pub kept_for : Written Boolean → TableData
kept_for w = sift_data (listed_for w)

-- the section of such a table
abbrev pub coded_section : TableData → SectionData
coded_section d = record { start = bits d.starts; blocks = position_blocks 0 d.rows }
