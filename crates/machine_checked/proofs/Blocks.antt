-- A visit of a well formed section ends within the sum of its longest paths.
use Rattle.std.proofs.Common.{◌≡◌, inl, inr, ℕ, zero, suc, ◌+◌, ◌-◌, ◌^◌, ◌<◌, ◌≤◌, Bool, true}
use Rattle.std.proofs.Common.{false, List, length, Some, sym, subst, arith}
use Rattle.std.specs.Prelude.{slice_get, bit_or, if◌then◌else◌}
use Rattle.std.proofs.lemmas.Bool.{cases_eq, lt-ltb, le-ltb}
use Rattle.std.proofs.lemmas.Option.{slice_get-get_or}
use Rattle.std.proofs.lemmas.Nat.Bits.{bit_at_or, bit_at-pow_other, bit_at-zero}
use Rattle.bytecode_programs.specs.declared.block_instr.BlockInstr.{BlockInstr}
use Rattle.bytecode_programs.specs.declared.block_instr.BlockInstr.TheVariants.{Unless, Enter, Accept, Stop}
use Rattle.bytecode_programs.specs.declared.block_instr.BlockInstr.TheVariants.{AcceptFirst}
use Rattle.machine_checked.specs.Outcomes.{Ran, Meets}
use Rattle.machine_checked.specs.Blocks.{Visit}
use Rattle.machine_checked.specs.Blocks.{fetch, branch, obey, run, ended}
use Rattle.machine_checked.specs.Bounds.{EachIn}
use Rattle.machine_checked.proofs.Outcomes.{Meets-weaker}

pub EachIn-or : (P : ℕ → Type 0) (set q : ℕ) → EachIn P set → P q → EachIn P (bit_or set (2 ^ q))
EachIn-or P set q each here r h = elim (cases_eq r q) [
  | inl same ↦ subst P (sym same) here
  | inr other ↦ each r (omega (arith, bit_at_or set (2 ^ q) r, bit_at-pow_other q r other, h))
]

pub EachIn-none : (P : ℕ → Type 0) → EachIn P 0
EachIn-none P q h = absurd (omega (arith, bit_at-zero q, h))

-- What the run of a block needs of the instruction at pc: where it leads to costs less, what it enters passes, and
-- where it accepts, A holds.
abbrev pub Allows : ℕ → ℕ → (ℕ → ℕ) → (ℕ → Type 0) → Type 0 → ℕ → ℕ → BlockInstr → Type 0
Allows atoms positions cost P A end pc (Unless atom target) =
    (atom < atoms) × (pc < target) × (target < end) × (pc + 1 < end) × (cost (pc + 1) + 1 ≤ cost pc)
    × (cost target + 1 ≤ cost pc)
Allows atoms positions cost P A end pc (Enter q) =
    (q < positions) × P q × (pc + 1 < end) × (cost (pc + 1) + 1 ≤ cost pc)
Allows atoms positions cost P A end pc Accept = A × (pc + 1 < end) × (cost (pc + 1) + 1 ≤ cost pc)
Allows atoms positions cost P A end pc AcceptFirst = A × (pc + 1 < end) × (cost (pc + 1) + 1 ≤ cost pc)
Allows atoms positions cost P A end pc Stop = 1 ≤ cost pc

-- what a visit leaves
pub record Leaves (P : ℕ → Type 0) (A : Type 0) (v : Visit) : Type 0 where
  pub entered : EachIn P v.entered
  pub accepted : v.accepted ≡ true → A

-- the end of a visit leaves no more
pub Leaves-ended : (P : ℕ → Type 0) (A : Type 0) (v : Visit) → Leaves P A v → Leaves P A (ended v)
Leaves-ended P A v h = record { entered = by v.first; accepted = h.accepted }
  where
    by : (b : Bool) → EachIn P (if b then 0 else v.entered)
    by true = EachIn-none P
    by false = h.entered

abbrev pub Within : (ℕ → Type 0) → Type 0 → ℕ → ℕ → Visit → ℕ → Type 0
Within P A left cost w rest = Leaves P A w × (left ≤ rest + cost)

module _ (block : List BlockInstr) (base positions : ℕ) (atoms : List Bool) (cost : ℕ → ℕ) (P : ℕ → Type 0) (A : Type 0)
  where
    Allows-cost : (end pc : ℕ) (i : BlockInstr) → Allows (length atoms) positions cost P A end pc i → 1 ≤ cost pc
    Allows-cost end pc (Unless atom target) h = omega (arith, h.4)
    Allows-cost end pc (Enter q) h = omega (arith, h.3)
    Allows-cost end pc Accept h = omega (arith, h.2)
    Allows-cost end pc AcceptFirst h = omega (arith, h.2)
    Allows-cost end pc Stop h = h

    -- going on from another instruction of the block
    abbrev Goes : ℕ → (ℕ → Visit → Ran Visit) → Type 0
    Goes left go =
        (pc : ℕ) (v : Visit) → Leaves P A v → base ≤ pc → pc < base + length block → cost pc ≤ left
        → Meets (Within P A left (cost pc)) (go pc v)

    go-meets : (left : ℕ) (go : ℕ → Visit → Ran Visit) → Goes left go → (from pc : ℕ) (v : Visit) → Leaves P A v
        → base ≤ pc → pc < base + length block → cost pc + 1 ≤ cost from → cost from ≤ suc left
        → Meets (Within P A (suc left) (cost from)) (go pc v)
    go-meets left go goes from pc v leaves low high less fits =
        Meets-weaker (Within P A left (cost pc)) (Within P A (suc left) (cost from)) (go pc v)
        (λ w rest h. (h.0, omega (arith, h.1)))
        (goes pc v leaves low high (omega arith))

    branch-meets : (left : ℕ) (go : ℕ → Visit → Ran Visit) → Goes left go → (pc target : ℕ) (v : Visit) (b : Bool)
        → Leaves P A v → base ≤ pc → pc < target → target < base + length block → pc + 1 < base + length block
        → cost (pc + 1) + 1 ≤ cost pc → cost target + 1 ≤ cost pc → cost pc ≤ suc left
        → Meets (Within P A (suc left) (cost pc)) (branch (Some b) (pc + 1) target v go)
    branch-meets left go goes pc target v true leaves low up high next less_next less_target fits =
        go-meets left go goes pc (pc + 1) v leaves (omega arith) next less_next fits
    branch-meets left go goes pc target v false leaves low up high next less_next less_target fits =
        go-meets left go goes pc target v leaves (omega arith) high less_target fits

    obey-meets : (left : ℕ) (go : ℕ → Visit → Ran Visit) → Goes left go → (pc : ℕ) (v : Visit) (i : BlockInstr)
        → Leaves P A v → base ≤ pc → Allows (length atoms) positions cost P A (base + length block) pc i
        → cost pc ≤ suc left → Meets (Within P A (suc left) (cost pc)) (obey positions atoms pc v go left (Some i))
    obey-meets left go goes pc v (Unless atom target) leaves low allows fits =
        subst (λ o. Meets (Within P A (suc left) (cost pc)) (branch o (pc + 1) target v go))
        (sym (slice_get-get_or atoms atom true allows.0))
        (branch-meets left go goes pc target v _ leaves low allows.1 allows.2 allows.3 allows.4 allows.5 fits)
    obey-meets left go goes pc v (Enter q) leaves low allows fits =
        rw (lt-ltb q positions allows.0)
        (go-meets left go goes pc (pc + 1)
        (record { entered = bit_or v.entered (2 ^ q); accepted = v.accepted; first = v.first })
        (record { entered = EachIn-or P v.entered q leaves.entered allows.1; accepted = leaves.accepted })
        (omega arith) allows.2 allows.3 fits)
    obey-meets left go goes pc v Accept leaves low allows fits =
        go-meets left go goes pc (pc + 1) (record { entered = v.entered; accepted = true; first = v.first })
        (record { entered = leaves.entered; accepted = λ h. allows.0 }) (omega arith) allows.1 allows.2 fits
    obey-meets left go goes pc v AcceptFirst leaves low allows fits =
        go-meets left go goes pc (pc + 1) (record { entered = v.entered; accepted = true; first = true })
        (record { entered = leaves.entered; accepted = λ h. allows.0 }) (omega arith) allows.1 allows.2 fits
    obey-meets left go goes pc v Stop leaves low allows fits = (leaves, omega (arith, allows))

    -- the instruction at a place of the block
    fetched : (pc : ℕ) → base ≤ pc → pc < base + length block → (i : BlockInstr)
        × (slice_get block (pc - base) ≡ Some i)
        × (fetch block base pc ≡ Some i)
    fetched pc low high =
        let e = slice_get-get_or block (pc - base) Stop (omega arith) in
        (_, e, rw (le-ltb pc base low) e)

    pub run-meets : ((k : ℕ) (i : BlockInstr) → slice_get block k ≡ Some i
        → Allows (length atoms) positions cost P A (base + length block) (base + k) i) → (left pc : ℕ) (v : Visit)
        → Leaves P A v → base ≤ pc → pc < base + length block → cost pc ≤ left
        → Meets (Within P A left (cost pc)) (run block base positions atoms left pc v)
    run-meets allows zero pc v leaves low high fits =
        let f = fetched pc low high in
        let same : base + (pc - base) ≡ pc = omega arith in
        let a =
        subst (λ n. Allows (length atoms) positions cost P A (base + length block) n f.0) same
        (allows (pc - base) f.0 f.1) in
        absurd (omega (arith, Allows-cost (base + length block) pc f.0 a))
    run-meets allows (suc left) pc v leaves low high fits =
        let f = fetched pc low high in
        let same : base + (pc - base) ≡ pc = omega arith in
        let a =
        subst (λ n. Allows (length atoms) positions cost P A (base + length block) n f.0) same
        (allows (pc - base) f.0 f.1) in
        subst (λ o. Meets (Within P A (suc left) (cost pc))
        (obey positions atoms pc v (run block base positions atoms left) left o)) (sym f.2)
        (obey-meets left (run block base positions atoms left) (run-meets allows left) pc v f.0 leaves low a fits)
