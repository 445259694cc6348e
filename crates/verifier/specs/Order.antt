-- The order of faults: the lowest section, then the lowest pc, then the lowest number.
use Rattle.std.specs.Prelude.{◌≡◌, ◌⊎◌, ℕ, ◌<◌, List, [], ◌∷◌, Option, Some, None}
use Rattle.verifier.specs.declared.pool.Pool.TheVariants as pools
use Rattle.verifier.specs.declared.field.Field.{Field}
use Rattle.verifier.specs.declared.field.Field.TheVariants as fields
use Rattle.verifier.specs.declared.refusal.Refusal.{Refusal}
use Rattle.verifier.specs.declared.refusal.Refusal.TheVariants.{Operand, Underflow}
use Rattle.verifier.specs.declared.refusal.Refusal.TheVariants.{Overflow}
use Rattle.verifier.specs.declared.refusal.Refusal.TheVariants.{JumpRange, BackwardJump}
use Rattle.verifier.specs.declared.refusal.Refusal.TheVariants.{JoinMismatch, Unreached}
use Rattle.verifier.specs.declared.refusal.Refusal.TheVariants.{NoHalt}
use Rattle.verifier.specs.declared.refusal.Refusal.TheVariants.{SlotRange}
use Rattle.verifier.specs.declared.refusal.Refusal.TheVariants.{HistoryTooShort}
use Rattle.verifier.specs.declared.refusal.Refusal.TheVariants.{StackTooShort, Cycle}
use Rattle.verifier.specs.declared.refusal.Refusal.TheVariants.{PoolTooSmall}
use Rattle.verifier.specs.declared.refusal.Refusal.TheVariants.{BudgetTooSmall}
use Rattle.verifier.specs.declared.refusal.Refusal.TheVariants.{LimitTooLarge}
use Rattle.verifier.specs.declared.refusal.Refusal.TheVariants.{AcceptKind, Memory}
use Rattle.verifier.specs.Inference.{Found}

abbrev pub number_of : Refusal → ℕ
number_of (Operand pc) = 1
number_of (Underflow pc) = 2
number_of (Overflow pc) = 3
number_of (JumpRange pc) = 4
number_of (BackwardJump pc) = 5
number_of (JoinMismatch pc) = 6
number_of (Unreached pc) = 7
number_of NoHalt = 8
number_of (SlotRange pc) = 9
number_of (HistoryTooShort least) = 10
number_of (StackTooShort least) = 11
number_of (Cycle position) = 12
number_of (PoolTooSmall pool least) = 13
number_of (BudgetTooSmall least) = 14
number_of (LimitTooLarge field) = 15
number_of (AcceptKind pc) = 16
number_of Memory = 0

-- among those of one number: attempts before obligations, fields as in the file
abbrev pub field_place : Field → ℕ
field_place fields.History = 0
field_place fields.Stack = 1
field_place fields.Attempts = 2
field_place fields.Obligations = 3
field_place fields.Budget = 4
field_place fields.Atoms = 5
field_place fields.Slots = 6
field_place fields.Sample = 7
field_place fields.AntecedentPositions = 8
field_place fields.AntecedentCode = 9
field_place fields.ConsequentPositions = 10
field_place fields.ConsequentCode = 11

abbrev pub fault_part : Refusal → ℕ
fault_part (PoolTooSmall pools.Attempts least) = 0
fault_part (PoolTooSmall pools.Obligations least) = 1
fault_part (LimitTooLarge field) = field_place field
fault_part r = 0

-- one list of numbers is before the other or the same
abbrev pub IsUpTo : List ℕ → List ℕ → Type 0
IsUpTo [] ys = Unit {0}
IsUpTo (x ∷ xs) [] = ⊥
IsUpTo (x ∷ xs) (y ∷ ys) = (x < y) ⊎ ((x ≡ y) × IsUpTo xs ys)

abbrev pub found_place : Found → List ℕ
found_place f = f.section ∷ f.pc ∷ number_of f.refusal ∷ fault_part f.refusal ∷ []

abbrev pub IsIn : {A : Type 0} → A → List A → Type 0
IsIn x [] = ⊥
IsIn x (y ∷ ys) = (x ≡ y) ⊎ IsIn x ys

-- the first of the faults
pub record IsFirstFound (x : Found) (fs : List Found) : Type 0 where
  pub stands : IsIn x fs
  pub first : (y : Found) → IsIn y fs → IsUpTo (found_place x) (found_place y)

-- that fault, the first, is what was answered
pub record IsFirstRefusal (r : Refusal) (fs : List Found) : Type 0 where
  pub fault : Found
  pub first : IsFirstFound fault fs
  pub is : fault.refusal ≡ r

abbrev pub first_refusal : List Refusal → Option Refusal
first_refusal [] = None
first_refusal (r ∷ rs) = Some r
