-- The section of a table: a block for each position, an edge's code after the other's.
use Rattle.std.specs.Prelude.{ℕ, zero, suc, ◌+◌, ◌^◌, Bool, true, false, if◌then◌else◌, List}
use Rattle.std.specs.Prelude.{[], ◌∷◌, ◌++◌, length, map, bit_or, slice_index_or}
use Rattle.std.specs.Prelude.{Option, Some, None}
use Rattle.bytecode_programs.specs.declared.block_instr.BlockInstr.{BlockInstr}
use Rattle.bytecode_programs.specs.declared.block_instr.BlockInstr.TheVariants.{Unless, Enter}
use Rattle.bytecode_programs.specs.declared.block_instr.BlockInstr.TheVariants.{Accept, Stop}
use Rattle.bytecode_programs.specs.Values.{SectionData}
use Rattle.positions.specs.Tables.{Edge, Table}

-- how many instructions an edge takes
abbrev pub edge_size : {B : Type 0} → Edge B → ℕ
edge_size e = length e.wanted + (length e.enters + (if e.accepts then 1 else 0))

-- over the edge, to its end, where an atom is 0
abbrev pub guards : ℕ → List ℕ → List BlockInstr
guards end [] = []
guards end (n ∷ ns) = Unless n end ∷ guards end ns

abbrev pub enter_all : List ℕ → List BlockInstr
enter_all [] = []
enter_all (q ∷ qs) = Enter q ∷ enter_all qs

abbrev pub accept_if : Bool → List BlockInstr
accept_if true = Accept ∷ []
accept_if false = []

-- the code of an edge at base
abbrev pub edge_code : ℕ → Edge ℕ → List BlockInstr
edge_code base e =
    guards (base + edge_size e) e.wanted ++ (enter_all e.enters ++ accept_if e.accepts)

-- the block of a position, at base
abbrev pub position_block : ℕ → List (Edge ℕ) → List BlockInstr
position_block base [] = Stop ∷ []
position_block base (e ∷ es) = edge_code base e ++ position_block (base + edge_size e) es

-- the blocks of these positions, the first at base
abbrev pub position_blocks : ℕ → List (List (Edge ℕ)) → List (List BlockInstr)
position_blocks base [] = []
position_blocks base (row ∷ rows) =
    position_block base row ∷ position_blocks (base + length (position_block base row)) rows

-- a set of positions as a number
abbrev pub bits : List ℕ → ℕ
bits [] = 0
bits (q ∷ qs) = bit_or (bits qs) (2 ^ q)

-- the atoms of booleans; the constant 1 has none
abbrev pub with_atom : Option ℕ → List ℕ → List ℕ
with_atom None ns = ns
with_atom (Some n) ns = n ∷ ns

abbrev pub atoms_of : {B : Type 0} → (B → Option ℕ) → List B → List ℕ
atoms_of atom [] = []
atoms_of atom (b ∷ bs) = with_atom (atom b) (atoms_of atom bs)

-- an edge by its atoms
abbrev pub numbered_edge : {B : Type 0} → (B → Option ℕ) → Edge B → Edge ℕ
numbered_edge atom e =
    record { wanted = atoms_of atom e.wanted; enters = e.enters; accepts = e.accepts }

-- a position's edges by their atoms
abbrev pub coded : {B : Type 0} → (B → Option ℕ) → Table B → ℕ → List (Edge ℕ)
coded atom t p = map (numbered_edge atom) (t.row p)

-- the rows of so many positions from the first one on
abbrev pub rows_from : {A : Type 0} → (ℕ → A) → ℕ → ℕ → List A
rows_from row first zero = []
rows_from row first (suc count) = row first ∷ rows_from row (first + 1) count

abbrev pub section_of : {B : Type 0} → (B → Option ℕ) → Table B → SectionData
section_of atom t =
    record { start = bits t.starts; blocks = position_blocks 0 (rows_from (coded atom t) 0 t.size) }

-- what a row of atoms tells of a boolean
abbrev pub told_atom : Option ℕ → List Bool → Bool
told_atom None row = true
told_atom (Some n) row = slice_index_or row n true
