-- Instructions in order, as the checked machine runs them where they stand.
use Rattle.std.proofs.Common.{◌≡◌, ◌∙◌, ℕ, suc, ◌+◌, Bool, true, false, List, [], ◌∷◌}
use Rattle.std.proofs.Common.{◌++◌, length, map, Option, Some, None, refl, sym, ap, arith}
use Rattle.std.specs.Prelude.{slice_get, nat_le, if◌then◌else◌, ◌==◌}
use Rattle.std.proofs.lemmas.Bool.{le-leb}
use Rattle.std.proofs.lemmas.Option.{same_Some}
use Rattle.bytecode_programs.specs.declared.flow.Flow.{Flow}
use Rattle.bytecode_programs.specs.declared.flow.Flow.TheVariants.{Stops, GoesOn, Jumps, Branches}
use Rattle.bytecode_programs.specs.declared.limits.Limits.{Limits}
use Rattle.bytecode_programs.specs.declared.sample_instr.SampleInstr.{SampleInstr}
use Rattle.bytecode_programs.specs.declared.sample_instr.SampleInstr.TheVariants.{Halt}
use Rattle.bytecode_programs.specs.Instructions.{FrameData, Effect, leaves, too_few, misfit}
use Rattle.bytecode_programs.specs.Instructions.{sample_flow, sample_effect, is_there}
use Rattle.machine_checked.specs.Outcomes.{Ran, done, trapped, bad_operand, past_history}
use Rattle.machine_checked.specs.Samples.{Operand, operand, operand_width, results, Made, top, making}
use Rattle.machine_checked.specs.Samples.{reaches, follow, met, obey_sample, run_sample}
use Rattle.compiler.specs.Laws.{LeavesValue}
use Rattle.compiler.proofs.Steps.{State, state, onward, only_on, tested, stepped, step}
use Rattle.compiler.proofs.Steps.{steps}
use Rattle.compiler.proofs.Steps.{Puts}

-- these instructions stand from this place on
abbrev pub Stands : List SampleInstr → ℕ → List SampleInstr → Type 0
Stands code pc [] = Unit {0}
Stands code pc (i ∷ part) = (slice_get code pc ≡ Some i) × Stands code (pc + 1) part

stands-later :
    (x : SampleInstr) (code part : List SampleInstr) (pc : ℕ) → Stands code pc part →
    Stands (x ∷ code) (suc pc) part
stands-later x code [] pc h = tt
stands-later x code (i ∷ part) pc h =
    let on : suc pc + 1 ≡ suc (pc + 1) = omega arith in
    (h.0, rw on (stands-later x code part (pc + 1) h.1))

stands-first : (part after : List SampleInstr) → Stands (part ++ after) 0 part
stands-first [] after = tt
stands-first (i ∷ part) after = (
  refl,
  stands-later i (part ++ after) part 0 (stands-first part
      after),
)

pub stands-between :
    (before part after : List SampleInstr) →
    Stands (before ++ (part ++ after)) (length before) part
stands-between [] part after = stands-first part after
stands-between (x ∷ before) part after =
    stands-later x (before ++ (part ++ after)) part (length before)
    (stands-between before part after)

get-behind :
    (code : List SampleInstr) (i : SampleInstr) → slice_get (code ++ i ∷ []) (length code) ≡ Some i
get-behind [] i = refl
get-behind (x ∷ code) i = get-behind code i

module _ (f : FrameData) (d : Limits) (s : ℕ → ℕ → ℕ) where
  -- the first of the instructions
  pub first-step :
      (flow : Flow) (o : Option State) (part : List SampleInstr) (to : State) →
      onward (only_on flow o) (steps f d s part) ≡ Some to →
      (r : State) × (flow ≡ GoesOn) × (o ≡ Some r) × (steps f d s part r ≡ Some to)
  first-step GoesOn None part to h = cc
  first-step GoesOn (Some r) part to h = (r, refl, refl, h)
  first-step Stops o part to h = cc
  first-step (Jumps target) o part to h = cc
  first-step (Branches target) o part to h = cc

  abbrev Go : Type 0
  Go = ℕ → List Operand → Made → Ran Made

  -- on from what an instruction left
  abbrev on_from : SampleInstr → ℕ → List Operand → Go → ℕ → State → Ran Made
  on_from i pc xs go left to =
      follow (sample_flow i) pc (top xs == 0) to.operands to.made go left

  met-tested :
      (fits back : Bool) (i : SampleInstr) (pc : ℕ) (xs : List Operand) (go : Go) (left : ℕ)
      (r to : State) → tested fits back r ≡ Some to →
      (if fits
      then (if back then on_from i pc xs go left r else trapped past_history)
      else trapped bad_operand)
      ≡ on_from i pc xs go left to
  met-tested true true i pc xs go left r to h = ap (on_from i pc xs go left) (same_Some r to h)
  met-tested true false i pc xs go left r to h = cc
  met-tested false back i pc xs go left r to h = cc

  met-stepped :
      (there : Bool) (e : Effect) (i : SampleInstr) (pc : ℕ) (xs : List Operand) (made : Made)
      (go : Go) (left : ℕ) (to : State) → stepped f d s i (state xs made) there e ≡ Some to →
      met f d s i pc xs made go left there e ≡ on_from i pc xs go left to
  met-stepped false e i pc xs made go left to h = cc
  met-stepped true too_few i pc xs made go left to h = cc
  met-stepped true misfit i pc xs made go left to h = cc
  met-stepped true (leaves ws) i pc xs made go left to h =
      met-tested (nat_le (length ws) d.stack) (reaches d i) i pc xs go left
      (state (results f s i xs) (making i xs made)) to h

  module _ (code : List SampleInstr) where
    abbrev Run : ℕ → ℕ → State → Ran Made
    Run left pc r = run_sample f d s code left pc r.operands r.made

    pub run-straight :
        (part : List SampleInstr) (pc left : ℕ) (from to : State) → Stands code pc part →
        steps f d s part from ≡ Some to →
        Run (length part + left) pc from ≡ Run left (pc + length part) to
    run-straight [] pc left from to stand h =
        let none : pc + 0 ≡ pc = omega arith in
        let alone : length {A = SampleInstr} [] + left ≡ left = omega arith in
        ap (λ n. Run n pc from) alone
        ∙ (ap (λ r. Run left pc r) (same_Some from to h) ∙ ap (λ n. Run left n to) (sym none))
    run-straight (i ∷ part) pc left from to stand h =
        let more : length (i ∷ part) + left ≡ suc (length part + left) = omega arith in
        let on : pc + 1 + length part ≡ pc + length (i ∷ part) = omega arith in
        let first = first-step (sample_flow i) (step f d s i from) part to h in
        let xs : List Operand = from.operands in
        let go = run_sample f d s code (length part + left) in
        ap (λ n. Run n pc from) more
        ∙ (ap (λ o. obey_sample f d s pc xs from.made go (length part + left) o) stand.0
        ∙ (met-stepped (is_there f i) (sample_effect f i (map operand_width xs)) i pc xs from.made go
        (length part + left) first.0 first.2
        ∙ (ap (λ flow. follow flow pc (top xs == 0) first.0.operands first.0.made go
        (length part + left)) first.1
        ∙ (run-straight part (pc + 1) left first.0 to stand.1 first.3
        ∙ ap (λ n. Run left n to) on))))

  -- code that puts a value on any operands leaves it wherever it stands
  pub puts-leaves :
      (code : List SampleInstr) (w v room : ℕ) → Puts f d s code (operand w v) room →
      LeavesValue f d s code w v room
  puts-leaves code w v room h before after xs made left fits =
      run-straight (before ++ (code ++ after)) code (length before) left (state xs made)
      (state (operand w v ∷ xs) made) (stands-between before code after) (h xs made fits)

  -- to the Halt after code
  halts :
      (code : List SampleInstr) (left : ℕ) (made : Made) →
      run_sample f d s (code ++ Halt ∷ []) (suc left) (0 + length code) [] made ≡ done made left
  halts code left made =
      let none : 0 + length code ≡ length code = omega arith in
      rw none (rw (get-behind code Halt) (rw (le-leb 0 d.stack (omega arith)) refl))

  pub run-halt :
      (code : List SampleInstr) (left : ℕ) (opening made : Made) →
      steps f d s code (state [] opening) ≡ Some (state [] made) →
      run_sample f d s (code ++ Halt ∷ []) (length code + suc left) 0 [] opening ≡ done made left
  run-halt code left opening made h =
      run-straight (code ++ Halt ∷ []) code 0 (suc left) (state [] opening) (state [] made)
      (stands-between [] code (Halt ∷ [])) h
      ∙ halts code left made
