-- What holds of the rules of sample code.
use Rattle.std.proofs.Common.{ℕ, Bool, true, false, [], ◌∷◌, cond, refl, arith}
use Rattle.verifier.specs.declared.refusal.Refusal.TheVariants.{SlotRange}
use Rattle.bytecode_programs.specs.Instructions.{FrameData, is_there}
use Rattle.verifier.specs.Rules.{sample_rules}
use Rattle.verifier.proofs.OrderLaws.{Rises, NamesRise}

named : (b : Bool) (pc : ℕ) → Rises 8 17 (cond b [] (SlotRange pc ∷ []))
named true pc = omega arith
named false pc = (omega arith, refl, omega arith)

pub sample_rise : (f : FrameData) → NamesRise (sample_rules f)
sample_rise f pc i = named (is_there f i) pc
