-- A life is at most the number of positions.
use Rattle.std.proofs.Common.{inl, inr, ℕ, zero, suc, ◌+◌, ◌-◌, ◌≤◌, List, [], ◌∷◌, length}
use Rattle.std.proofs.Common.{arith}
use Rattle.std.specs.Prelude.{slice_index, ◌==◌}
use Rattle.std.specs.Int.{bit_at}
use Rattle.std.proofs.lemmas.Bool.{cases_Bool}
use Rattle.bytecode_programs.specs.declared.block_instr.BlockInstr.{BlockInstr}
use Rattle.bytecode_programs.specs.declared.block_instr.BlockInstr.TheVariants.{Unless, Enter, Accept, Stop}
use Rattle.bytecode_programs.specs.declared.block_instr.BlockInstr.TheVariants.{AcceptFirst}
use Rattle.bytecode_programs.specs.Values.{SectionData}
use Rattle.verifier.specs.Limits.{longest_entered, lives_from, most_in, start_life}

entered-most : (next m : ℕ) (later : List ℕ) → ((k : ℕ) → slice_index later k ≤ m) → (b : List BlockInstr)
    → longest_entered next later b ≤ m
entered-most next m later few [] = omega arith
entered-most next m later few (Enter q ∷ is) = omega (arith, few (q - next), entered-most next m later few is)
entered-most next m later few (Unless atom target ∷ is) = omega (arith, entered-most next m later few is)
entered-most next m later few (Accept ∷ is) = omega (arith, entered-most next m later few is)
entered-most next m later few (AcceptFirst ∷ is) = omega (arith, entered-most next m later few is)
entered-most next m later few (Stop ∷ is) = omega (arith, entered-most next m later few is)

lives-most : (p : ℕ) (bs : List (List BlockInstr)) (k : ℕ) → slice_index (lives_from p bs) k ≤ length bs
lives-most p [] k = omega arith
lives-most p (b ∷ bs) zero =
    omega (arith, entered-most (p + 1) (length bs) (lives_from (p + 1) bs) (lives-most (p + 1) bs) b)
lives-most p (b ∷ bs) (suc k) = omega (arith, lives-most (p + 1) bs k)

most-most : (set p m : ℕ) (ls : List ℕ) → ((k : ℕ) → slice_index ls k ≤ m) → most_in set p ls ≤ m
most-most set p m [] few = omega arith
most-most set p m (l ∷ ls) few =
    let rest = most-most set (p + 1) m ls (λ k. few (suc k)) in
    elim (cases_Bool (bit_at set p == 1)) [
      | inl on ↦ rw on (omega (arith, few 0, rest))
      | inr off ↦ rw off (omega (arith, rest))
    ]

pub start_life-most : (s : SectionData) → length s.blocks ≤ 127 → start_life s ≤ 127
start_life-most s few =
    omega (arith, most-most s.start 0 (length s.blocks) (lives_from 0 s.blocks) (lives-most 0 s.blocks))
