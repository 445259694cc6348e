-- Well formed code: there is a table of lists.
use Rattle.std.specs.Prelude.{◌≡◌, ℕ, ◌+◌, ◌-◌, ◌<◌, ◌≤◌, max, List, [], ◌∷◌, length, Some}
use Rattle.std.specs.Prelude.{slice_get}
use Rattle.bytecode_programs.specs.declared.flow.Flow.TheVariants.{Stops}
use Rattle.bytecode_programs.specs.declared.sample_instr.SampleInstr.{SampleInstr}
use Rattle.bytecode_programs.specs.Instructions.{FrameData, leaves, LeadsTo}
use Rattle.verifier.specs.Rules.{Rules, sample_rules}

-- An instruction at pc, of code that ends at end.
pub record IsFine {I : Type 0} (r : Rules I) (end : ℕ) (table : ℕ → List ℕ) (pc : ℕ) (i : I) :
    Type 0 where
  -- its list meets its rule, and what it leaves is the list of each of its successors
  pub after : List ℕ
  pub rule : r.effect i (table pc) ≡ leaves after
  pub sends : (to : ℕ) → LeadsTo (r.flow i) pc to → table to ≡ after
  -- it leads forward, inside the code
  pub forward : (to : ℕ) → LeadsTo (r.flow i) pc to → (pc < to) × (to < end)
  -- what it names is there
  pub names : r.names pc i ≡ []

-- The code that begins at base is typed by the table.
pub record IsCodeTyped {I : Type 0} (r : Rules I) (base : ℕ) (code : List I) (table : ℕ → List ℕ) :
    Type 0 where
  pub some : 0 < length code
  pub begins : table base ≡ []
  pub each :
      (k : ℕ) (i : I) → slice_get code k ≡ Some i →
      IsFine r (base + length code) table (base + k) i
  -- the last instruction ends it
  pub ends : (i : I) → slice_get code (length code - 1) ≡ Some i → r.flow i ≡ Stops
  -- every other instruction is a successor of an earlier one
  pub reached :
      (k : ℕ) → 0 < k → k < length code →
      (j : ℕ) × (i : I) × (j < k) × (slice_get code j ≡ Some i)
      × LeadsTo (r.flow i) (base + j) (base + k)

-- no list that is left is longer than 1,024
pub record AreShort {I : Type 0} (r : Rules I) (base : ℕ) (code : List I) (table : ℕ → List ℕ) :
    Type 0 where
  pub each :
      (k : ℕ) (i : I) (after : List ℕ) → slice_get code k ≡ Some i →
      r.effect i (table (base + k)) ≡ leaves after → length after ≤ 1024

-- the longest of the lists from pc on
abbrev pub longest_list : {I : Type 0} → (ℕ → List ℕ) → ℕ → List I → ℕ
longest_list table pc [] = 0
longest_list table pc (i ∷ is) = max (length (table pc)) (longest_list table (pc + 1) is)

-- The sample code is typed by some table, and no list that is left is longer than 1,024.
abbrev pub IsTypable : FrameData → List SampleInstr → Type 0
IsTypable f code =
    (table : ℕ → List ℕ) × IsCodeTyped (sample_rules f) 0 code table
    × AreShort (sample_rules f) 0 code table
