-- What the code keeps of what was sent.
use Rattle.std.specs.Prelude.{◌≡◌, ℕ, ◌≤◌, List, reverse, Some, slice_get}
use Rattle.verifier.specs.Inference.{Message, ArrivalData, nothing, agreed, mismatch}
use Rattle.verifier.specs.Inference.{arrival_at}
use Rattle.verifier.specs.declared.arrival.Arrival.{Arrival}
use Rattle.verifier.specs.declared.arrival.Arrival.TheVariants.{Nothing, Agreed, Mismatch}

-- a list of widths is kept with its top at the end
abbrev pub arrived : Arrival → ArrivalData
arrived Nothing = nothing
arrived (Agreed list) = agreed (reverse list.items)
arrived Mismatch = mismatch

-- from this pc on, what is kept for each instruction is what arrives there
abbrev pub HoldsFrom : ℕ → List Arrival → List Message → Type 0
HoldsFrom pc pending ms =
    (k : ℕ) (a : Arrival) → pc ≤ k → slice_get pending k ≡ Some a → arrived a ≡ arrival_at k ms
