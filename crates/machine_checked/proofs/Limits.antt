-- Lives fall from a position to those that its block enters, and longest paths from an instruction to the next.
use Rattle.std.proofs.Common.{◌≡◌, inl, inr, ℕ, zero, suc, ◌+◌, ◌-◌, ◌<◌, ◌≤◌, List, [], ◌∷◌}
use Rattle.std.proofs.Common.{length, map, Some, sym, ap, ◌∙◌, subst, arith}
use Rattle.std.specs.Prelude.{slice_get, slice_index, ◌==◌}
use Rattle.std.specs.Int.{bit_at}
use Rattle.std.proofs.lemmas.Bool.{cases_eq, cases_Bool, eq-eqb}
use Rattle.std.proofs.lemmas.Option.{slice_get_within}
use Rattle.bytecode_programs.specs.declared.block_instr.BlockInstr.{BlockInstr}
use Rattle.bytecode_programs.specs.declared.block_instr.BlockInstr.TheVariants.{Unless, Enter, Accept, Stop}
use Rattle.bytecode_programs.specs.declared.block_instr.BlockInstr.TheVariants.{AcceptFirst}
use Rattle.machine_checked.proofs.Typing.{IsFine, IsBlock, AreBlocks}
use Rattle.bytecode_programs.specs.Instructions.{block_flow}
use Rattle.verifier.specs.Limits.{longest_entered, lives_from, most_in, path_of, paths_from}

longest_entered-head : (next : ℕ) (later : List ℕ) (q : ℕ) (is : List BlockInstr) (i : BlockInstr) → i ≡ Enter q
    → slice_index later (q - next) ≤ longest_entered next later (i ∷ is)
longest_entered-head next later q is (Enter r) e =
    let same : r ≡ q = cc in
    omega (arith, ap (λ n. slice_index later (n - next)) same)
longest_entered-head next later q is (Unless atom target) e = cc
longest_entered-head next later q is Accept e = cc
longest_entered-head next later q is AcceptFirst e = cc
longest_entered-head next later q is Stop e = cc

longest_entered-tail : (next : ℕ) (later : List ℕ) (is : List BlockInstr) (i : BlockInstr)
    → longest_entered next later is ≤ longest_entered next later (i ∷ is)
longest_entered-tail next later is (Enter r) = omega arith
longest_entered-tail next later is (Unless atom target) = omega arith
longest_entered-tail next later is Accept = omega arith
longest_entered-tail next later is AcceptFirst = omega arith
longest_entered-tail next later is Stop = omega arith

longest_entered-at : (next : ℕ) (later : List ℕ) (b : List BlockInstr) (k q : ℕ) → slice_get b k ≡ Some (Enter q)
    → slice_index later (q - next) ≤ longest_entered next later b
longest_entered-at next later [] k q h = cc
longest_entered-at next later (i ∷ is) zero q h = let e : i ≡ Enter q = cc in longest_entered-head next later q is i e
longest_entered-at next later (i ∷ is) (suc k) q h =
    omega (arith, longest_entered-at next later is k q h, longest_entered-tail next later is i)

-- Lives fall along each Enter of the blocks from position p on.
abbrev pub Falls : (ℕ → ℕ) → ℕ → List (List BlockInstr) → Type 0
Falls life p [] = Unit {0}
Falls life p (b ∷ bs) =
    (1 ≤ life p) × ((k q : ℕ) → slice_get b k ≡ Some (Enter q) → life q + 1 ≤ life p) × Falls life (p + 1) bs

pub lives-fall : (life : ℕ → ℕ) (atoms positions p base : ℕ) (bs : List (List BlockInstr))
    → AreBlocks atoms positions p base bs → ((k : ℕ) → life (p + k) ≡ slice_index (lives_from p bs) k)
    → Falls life p bs
lives-fall life atoms positions p base [] blocks is = tt
lives-fall life atoms positions p base (b ∷ bs) blocks is =
    let here : life p ≡ 1 + longest_entered (p + 1) (lives_from (p + 1) bs) b =
    (let e : p ≡ p + 0 = omega arith in ap life e ∙ is 0) in (
      omega (arith, here),
      λ k q h.
          let fine = blocks.0.each k (Enter q) h in
          let e : q ≡ p + suc (q - (p + 1)) = omega (arith, fine.0) in
          let there : life q ≡ slice_index (lives_from (p + 1) bs) (q - (p + 1)) = ap life e ∙ is (suc (q - (p + 1))) in
          omega (arith, here, there, longest_entered-at (p + 1) (lives_from (p + 1) bs) b k q h),
      lives-fall life atoms positions (p + 1) (base + length b) bs blocks.1
          (λ k. let e : p + 1 + k ≡ p + suc k = omega arith in ap life e ∙ is (suc k)),
    )

-- no life of the set is above the most
pub most_in-at : (set p : ℕ) (ls : List ℕ) (k : ℕ) → bit_at set (p + k) ≡ 1 → slice_index ls k ≤ most_in set p ls
most_in-at set p [] k h = omega arith
most_in-at set p (l ∷ ls) zero h =
    let e : p + 0 ≡ p = omega arith in
    let bit : bit_at set p ≡ 1 = subst (λ n. bit_at set n ≡ 1) e h in
    rw (eq-eqb (bit_at set p) 1 bit) (omega arith)
most_in-at set p (l ∷ ls) (suc k) h =
    let e : p + suc k ≡ p + 1 + k = omega arith in
    let bit : bit_at set (p + 1 + k) ≡ 1 = subst (λ n. bit_at set n ≡ 1) e h in
    let rest = most_in-at set (p + 1) ls k bit in
    elim (cases_Bool (bit_at set p == 1)) [
      | inl on ↦ rw on (omega (arith, rest))
      | inr off ↦ rw off (omega (arith, rest))
    ]

-- an instruction's path is longer than those that it leads to
abbrev pub IsCosted : (ℕ → ℕ) → ℕ → BlockInstr → Type 0
IsCosted cost pc (Unless atom target) = (cost (pc + 1) + 1 ≤ cost pc) × (cost target + 1 ≤ cost pc)
IsCosted cost pc (Enter q) = cost (pc + 1) + 1 ≤ cost pc
IsCosted cost pc Accept = cost (pc + 1) + 1 ≤ cost pc
IsCosted cost pc AcceptFirst = cost (pc + 1) + 1 ≤ cost pc
IsCosted cost pc Stop = 1 ≤ cost pc

module _ (cost : ℕ → ℕ) (atoms positions p end : ℕ) where
  costed : (pc : ℕ) (later : List ℕ) (i : BlockInstr) → IsFine atoms positions p end pc i
      → cost pc ≡ path_of pc (block_flow i) later → ((k : ℕ) → cost (pc + 1 + k) ≡ slice_index later k)
      → IsCosted cost pc i
  costed pc later (Unless atom target) fine here is =
      let next : pc + 1 ≡ pc + 1 + 0 = omega arith in
      let there : target ≡ pc + 1 + (target - (pc + 1)) = omega (arith, fine.1) in
      let a = ap cost next ∙ is 0 in
      let b = ap cost there ∙ is (target - (pc + 1)) in
      (omega (arith, here, a), omega (arith, here, b))
  costed pc later (Enter q) fine here is =
      let next : pc + 1 ≡ pc + 1 + 0 = omega arith in omega (arith, here, ap cost next ∙ is 0)
  costed pc later Accept fine here is =
      let next : pc + 1 ≡ pc + 1 + 0 = omega arith in omega (arith, here, ap cost next ∙ is 0)
  costed pc later AcceptFirst fine here is =
      let next : pc + 1 ≡ pc + 1 + 0 = omega arith in omega (arith, here, ap cost next ∙ is 0)
  costed pc later Stop fine here is = omega (arith, here)

  pub paths-costed : (pc : ℕ) (is : List BlockInstr)
      → ((k : ℕ) → cost (pc + k) ≡ slice_index (paths_from pc (map block_flow is)) k) → (k : ℕ) (i : BlockInstr)
      → slice_get is k ≡ Some i → IsFine atoms positions p end (pc + k) i → IsCosted cost (pc + k) i
  paths-costed pc [] path k i h fine = cc
  paths-costed pc (j ∷ is) path zero i h fine =
      let same : j ≡ i = cc in
      let e : pc + 0 ≡ pc = omega arith in
      subst (λ n. IsCosted cost n i) (sym e)
      (subst (IsCosted cost pc) same
      (costed pc (paths_from (pc + 1) (map block_flow is)) j
      (subst (IsFine atoms positions p end pc) (sym same) (subst (λ n. IsFine atoms positions p end n i) e fine))
      (ap cost (sym e) ∙ path 0)
      (λ k. let s : pc + 1 + k ≡ pc + suc k = omega arith in ap cost s ∙ path (suc k))))
  paths-costed pc (j ∷ is) path (suc k) i h fine =
      let e : pc + suc k ≡ pc + 1 + k = omega arith in
      subst (λ n. IsCosted cost n i) (sym e)
      (paths-costed (pc + 1) is (λ m. let s : pc + 1 + m ≡ pc + suc m = omega arith in ap cost s ∙ path (suc m)) k i h
      (subst (λ n. IsFine atoms positions p end n i) e fine))

-- an instruction that isn't Stop has one after it
pub followed : (atoms positions p base : ℕ) (b : List BlockInstr) → IsBlock atoms positions p base b
    → (k : ℕ) (i : BlockInstr) → slice_get b k ≡ Some i → (i ≡ Stop → ⊥) → base + k + 1 < base + length b
followed atoms positions p base b block k i h other =
    let within = slice_get_within b k i h in
    elim (cases_eq (k + 1) (length b)) [
      | inl last ↦
          let e : length b - 1 ≡ k = omega arith in
          let stop : slice_get b k ≡ Some Stop = subst (λ n. slice_get b n ≡ Some Stop) e block.stops in
          let same : i ≡ Stop = cc in
          absurd (other same)
      | inr more ↦ omega arith
    ]

-- a block that ends in Stop isn't empty
pub IsBlock-length : (atoms positions p base : ℕ) (b : List BlockInstr) → IsBlock atoms positions p base b
    → 0 < length b
IsBlock-length atoms positions p base b block = omega (arith, slice_get_within b (length b - 1) Stop block.stops)
