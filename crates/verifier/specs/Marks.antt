-- What the code keeps of what was sent in a block.
use Rattle.std.specs.Prelude.{◌≡◌, ℕ, ◌+◌, ◌==◌, ◌||◌, ◌&&◌, nat_lt, nat_le, Bool, true, false}
use Rattle.std.specs.Prelude.{List, [], Option, Some, None, slice_get}
use Rattle.verifier.specs.Order.{number_of}
use Rattle.verifier.specs.declared.fault.Fault.{Fault}
use Rattle.verifier.specs.Inference.{Message, ArrivalData, nothing, agreed, arrival_at}
use Rattle.verifier.specs.Inference.{Found}
use Rattle.verifier.specs.Inference.{found}

-- a mark says that a path arrives, with the empty list
abbrev pub marked : Bool → ArrivalData
marked true = agreed []
marked false = nothing

abbrev pub MarksReached : ℕ → List Bool → List Message → Type 0
MarksReached base marks ms =
    (k : ℕ) (mark : Bool) → slice_get marks k ≡ Some mark → marked mark ≡ arrival_at (base + k) ms

-- a fault of a section, if there is one
abbrev pub found_in : ℕ → Option Fault → Option Found
found_in section None = None
found_in section (Some f) = Some (found section f.pc f.refusal)

-- the one fault stands no later than the other, in one section
abbrev pub is_up_to : Fault → Fault → Bool
is_up_to f g =
    nat_lt f.pc g.pc || (f.pc == g.pc && nat_le (number_of f.refusal) (number_of g.refusal))
