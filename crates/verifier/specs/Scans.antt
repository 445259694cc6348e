-- What a scan over code keeps.
use Rattle.std.specs.Prelude.{◌≡◌, ◌⊎◌, ℕ, ◌+◌, max, List, [], ◌∷◌, length, drop, Option, Some}
use Rattle.std.specs.Prelude.{None}
use Rattle.verifier.specs.declared.refusal.Refusal.{Refusal}
use Rattle.verifier.specs.declared.refusal.Refusal.TheVariants.{Memory}
use Rattle.verifier.specs.Rules.{Rules}
use Rattle.verifier.specs.Inference.{Message, ArrivalData, agreed, arrival_at, told}
use Rattle.verifier.specs.Inference.{Found}
use Rattle.verifier.specs.Inference.{faults_from, code_faults, entry}
use Rattle.verifier.specs.Order.{IsFirstFound, fault_part}

-- the list that is agreed on
abbrev pub list_at : ArrivalData → List ℕ
list_at (agreed ws) = ws
list_at a = []

-- the longest list that is agreed on, from pc on
abbrev pub longest_agreed : {I : Type 0} → Rules I → ℕ → ℕ → List I → List Message → ℕ
longest_agreed r end pc [] ms = 0
longest_agreed r end pc (i ∷ is) ms =
    max (length (list_at (arrival_at pc ms)))
    (longest_agreed r end (pc + 1) is (told r end pc i ms))

abbrev pub entry_longest : {I : Type 0} → Rules I → List I → ℕ
entry_longest r instrs = longest_agreed r (length instrs) 0 instrs (entry 0)

-- the first of the faults at a place
abbrev pub IsHeadRefusal : Refusal → List Refusal → Type 0
IsHeadRefusal r rs = (rest : List Refusal) × (rs ≡ r ∷ rest)

-- memory, or the first of the faults at a place
abbrev pub IsHeadOr : Refusal → List Refusal → Type 0
IsHeadOr r rs = (r ≡ Memory) ⊎ IsHeadRefusal r rs

-- The first k instructions of code that begins at base were read without a fault, and what is left
-- of it decides.
-- Holds says what is kept of the messages so far.
pub record HasRead {I : Type 0} (r : Rules I) (base : ℕ) (instrs : List I)
    (Holds : List Message → Type 0) (longest end pc k : ℕ) : Type 0 where
  pub sent : List Message
  pub holds : Holds sent
  pub end_is : end ≡ base + length instrs
  pub pc_is : pc ≡ base + k
  pub left : faults_from r end pc (drop k instrs) sent ≡ code_faults r base instrs
  pub most :
      max longest (longest_agreed r end pc (drop k instrs) sent)
      ≡ longest_agreed r end base instrs (entry base)

-- the first of the faults, or none where none stands; among those of sample code and of sections
-- there is one of a number at a place
abbrev pub IsFirstOf : List Found → Option Found → Type 0
IsFirstOf fs None = fs ≡ []
IsFirstOf fs (Some x) = IsFirstFound x fs × (fault_part x.refusal ≡ 0)
