-- What the code's values stand for.
use Rattle.std.specs.Prelude.{ℕ, List, map, Option, Some, None}
use Rattle.std.specs.Global.{Vec}
use Rattle.bytecode_programs.specs.declared.block_instr.BlockInstr.{BlockInstr}
use Rattle.bytecode_programs.specs.Instructions.{FrameData, Effect, leaves, too_few, misfit}
use Rattle.bytecode_programs.specs.declared.sample_instr.SampleInstr.{SampleInstr}
use Rattle.verifier.specs.Rules.{Rules, sample_rules}
use Rattle.verifier.specs.declared.frame.Frame.{Frame}
use Rattle.verifier.specs.declared.stack.RuleOutcome.{RuleOutcome}
use Rattle.verifier.specs.declared.stack.RuleOutcome.TheVariants.{Leaves, TooFew, Misfit}

abbrev pub frame_data : Frame → FrameData
frame_data f = record { slots = f.slots.items; counters = f.counters.items; atoms = f.atoms }

-- the rules of sample code in a frame
abbrev pub rules_of : Frame → Rules SampleInstr
rules_of f = sample_rules (frame_data f)

-- an outcome, where this list is left
abbrev pub effect_when : RuleOutcome → List ℕ → Effect
effect_when Leaves ws = leaves ws
effect_when TooFew ws = too_few
effect_when Misfit ws = misfit

-- what a rule makes of operands that were taken, where this list is left
abbrev pub on_one : (ℕ → List ℕ → Effect) → Option ℕ → List ℕ → Effect
on_one rule None ws = too_few
on_one rule (Some w) ws = rule w ws

abbrev pub on_two : (ℕ → ℕ → List ℕ → Effect) → Option (ℕ × ℕ) → List ℕ → Effect
on_two rule None ws = too_few
on_two rule (Some p) ws = rule p.0 p.1 ws

abbrev pub on_three : (ℕ → ℕ → ℕ → List ℕ → Effect) → Option (ℕ × ℕ × ℕ) → List ℕ → Effect
on_three rule None ws = too_few
on_three rule (Some p) ws = rule p.0 p.1 p.2 ws

-- the blocks of a section
abbrev pub blocks_of : List (Vec BlockInstr) → List (List BlockInstr)
blocks_of bs = map (λ b. b.items) bs
