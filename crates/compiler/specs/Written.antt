-- Code that is written, instruction by instruction.
use Rattle.std.specs.Prelude.{◌≡◌, nat_lt, if◌then◌else◌, List, [], ◌∷◌, ◌++◌, length, Option, Some}
use Rattle.std.specs.Prelude.{None}
use Rattle.bytecode_programs.specs.declared.sample_instr.SampleInstr.{SampleInstr}

-- An instruction after code that has at most 4,096; none where it would have more.
abbrev pub with_instr : Option (List SampleInstr) → SampleInstr → Option (List SampleInstr)
with_instr None i = None
with_instr (Some code) i = if nat_lt (length code) 4096 then Some (code ++ i ∷ []) else None

abbrev pub written : Option (List SampleInstr) → List SampleInstr → Option (List SampleInstr)
written code [] = code
written code (i ∷ more) = written (with_instr code i) more

-- Code that was written, and then this after it.
pub record Writes (old new : Option (List SampleInstr)) (code : List SampleInstr) : Type 0 where
  pub is : new ≡ written old code
