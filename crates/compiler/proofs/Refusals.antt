-- A program without a fault is refused for want of memory alone.
use Rattle.std.proofs.Common.{◌≡◌, ◌⊎◌, List, [], inl, inr, subst}
use Rattle.verifier.specs.declared.refusal.Refusal.{Refusal}
use Rattle.verifier.specs.declared.refusal.Refusal.TheVariants.{Memory}
use Rattle.verifier.specs.Inference.{Found}
use Rattle.verifier.specs.Order.{IsIn, IsFirstRefusal}
use Rattle.bytecode_programs.specs.Values.{ProgramData}
use Rattle.verifier.specs.Programs.{IsAccepted}

pub none-first : (r : Refusal) (fs : List Found) → fs ≡ [] → (r ≡ Memory) ⊎ IsFirstRefusal r fs → r ≡ Memory
none-first r fs none (inl is) = is
none-first r fs none (inr first) = absurd (subst (IsIn first.fault) none first.first.stands)

pub not-refused : (r : Refusal) (p : ProgramData) → IsAccepted p → (r ≡ Memory) ⊎ (IsAccepted p → ⊥) → r ≡ Memory
not-refused r p ok (inl is) = is
not-refused r p ok (inr never) = absurd (never ok)
