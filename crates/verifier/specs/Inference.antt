-- The faults of code: what arrives at each instruction, and what it then does wrong.
use Rattle.std.specs.Prelude.{ℕ, ◌+◌, ◌==◌, nat_le, nat_lt, if◌then◌else◌, List, [], ◌∷◌, ◌++◌}
use Rattle.std.specs.Prelude.{length, map}
use Rattle.std.specs.Str.{bytes_eq}
use Rattle.bytecode_programs.specs.declared.flow.Flow.{Flow}
use Rattle.bytecode_programs.specs.declared.flow.Flow.TheVariants.{Stops, GoesOn, Jumps, Branches}
use Rattle.verifier.specs.declared.refusal.Refusal.{Refusal}
use Rattle.verifier.specs.declared.refusal.Refusal.TheVariants.{Operand, Underflow}
use Rattle.verifier.specs.declared.refusal.Refusal.TheVariants.{Overflow}
use Rattle.verifier.specs.declared.refusal.Refusal.TheVariants.{JumpRange, BackwardJump}
use Rattle.verifier.specs.declared.refusal.Refusal.TheVariants.{JoinMismatch, Unreached}
use Rattle.verifier.specs.declared.refusal.Refusal.TheVariants.{NoHalt}
use Rattle.bytecode_programs.specs.Instructions.{Effect, leaves, too_few, misfit}
use Rattle.verifier.specs.Rules.{Rules}

-- A list that an instruction sends to one of its successors.
pub record Message : Type 0 where
  pub to : ℕ
  pub list : List ℕ

-- What arrives at an instruction: nothing, lists that are all alike, or lists of which two differ.
pub data ArrivalData : Type 0 where
  nothing : ArrivalData
  agreed : (list : List ℕ) → ArrivalData
  mismatch : ArrivalData

-- one list more
abbrev pub merge : List ℕ → ArrivalData → ArrivalData
merge ws nothing = agreed ws
merge ws (agreed vs) = if bytes_eq ws vs then agreed vs else mismatch
merge ws mismatch = mismatch

abbrev pub arrival_at : ℕ → List Message → ArrivalData
arrival_at pc [] = nothing
arrival_at pc (m ∷ ms) = if m.to == pc then merge m.list (arrival_at pc ms) else arrival_at pc ms

-- What an instruction that leads so sends, with what was sent before.
abbrev pub sends : ℕ → Flow → List ℕ → List Message → List Message
sends pc Stops ws ms = ms
sends pc GoesOn ws ms = record { to = pc + 1; list = ws } ∷ ms
sends pc (Jumps target) ws ms = record { to = target; list = ws } ∷ ms
sends pc (Branches target) ws ms =
    record { to = pc + 1; list = ws } ∷ record { to = target; list = ws } ∷ ms

-- The faults at pc, of code that ends at end. First those of the operands, where one list is
-- agreed on.
abbrev pub effect_faults : ℕ → Effect → List Refusal
effect_faults pc misfit = Operand pc ∷ []
effect_faults pc too_few = Underflow pc ∷ []
effect_faults pc (leaves after) = if nat_lt 1024 (length after) then Overflow pc ∷ [] else []

abbrev pub operand_faults : {I : Type 0} → Rules I → ℕ → I → ArrivalData → List Refusal
operand_faults r pc i (agreed ws) = effect_faults pc (r.effect i ws)
operand_faults r pc i a = []

abbrev pub target_faults : ℕ → ℕ → ℕ → List Refusal
target_faults end pc target =
    if nat_le end target then JumpRange pc ∷ []
    else (if nat_le target pc then BackwardJump pc ∷ [] else [])

abbrev pub jump_faults : ℕ → ℕ → Flow → List Refusal
jump_faults end pc (Jumps target) = target_faults end pc target
jump_faults end pc (Branches target) = target_faults end pc target
jump_faults end pc flow = []

abbrev pub arrival_faults : ℕ → ArrivalData → List Refusal
arrival_faults pc mismatch = JoinMismatch pc ∷ []
arrival_faults pc nothing = Unreached pc ∷ []
arrival_faults pc (agreed ws) = []

-- the last instruction doesn't end the code
abbrev pub end_faults : ℕ → ℕ → Flow → List Refusal
end_faults end pc Stops = []
end_faults end pc flow = if pc + 1 == end then NoHalt ∷ [] else []

abbrev pub faults_at : {I : Type 0} → Rules I → ℕ → ℕ → I → ArrivalData → List Refusal
faults_at r end pc i a =
    operand_faults r pc i a
    ++ (jump_faults end pc (r.flow i)
    ++ (arrival_faults pc a ++ (end_faults end pc (r.flow i) ++ r.names pc i)))

-- the list that is left where no fault stands
abbrev pub after_of : Effect → List ℕ
after_of (leaves after) = after
after_of e = []

abbrev pub left_by : {I : Type 0} → Rules I → I → ArrivalData → List ℕ
left_by r i (agreed ws) = after_of (r.effect i ws)
left_by r i a = []

abbrev pub if_faultless : List Refusal → List Message → List Message → List Message
if_faultless [] new ms = new
if_faultless (x ∷ xs) new ms = ms

-- What was sent once the instruction at pc was read: a faulty one sends nothing.
abbrev pub told : {I : Type 0} → Rules I → ℕ → ℕ → I → List Message → List Message
told r end pc i ms =
    if_faultless (faults_at r end pc i (arrival_at pc ms))
    (sends pc (r.flow i) (left_by r i (arrival_at pc ms)) ms) ms

-- A fault, and where it stands.
pub record Found : Type 0 where
  pub section : ℕ
  pub pc : ℕ
  pub refusal : Refusal

abbrev pub found : ℕ → ℕ → Refusal → Found
found section pc refusal = record { section = section; pc = pc; refusal = refusal }

-- The faults of the instructions from pc on, where these were sent below pc.
abbrev pub faults_from : {I : Type 0} → Rules I → ℕ → ℕ → List I → List Message → List Found
faults_from r end pc [] ms = []
faults_from r end pc (i ∷ is) ms =
    map (found r.section pc) (faults_at r end pc i (arrival_at pc ms))
    ++ faults_from r end (pc + 1) is (told r end pc i ms)

-- the first instruction has the empty list
abbrev pub entry : ℕ → List Message
entry base = record { to = base; list = [] } ∷ []

-- The faults of sample code or of a block, which begins at base.
abbrev pub code_faults : {I : Type 0} → Rules I → ℕ → List I → List Found
code_faults r base [] = found r.section base NoHalt ∷ []
code_faults r base (i ∷ is) = faults_from r (base + length (i ∷ is)) base (i ∷ is) (entry base)
