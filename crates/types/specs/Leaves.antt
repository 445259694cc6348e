-- The booleans of a sequence as often as they are written, and its form.
use Rattle.std.specs.Prelude.{Bool, true, false, ℕ, List, [], ◌∷◌, ◌++◌}
use Rattle.std.specs.List.{flat_map}
use Rattle.assertions.specs.declared.sequence.Boolean.{Boolean}
use Rattle.assertions.specs.declared.sequence.Boolean.TheVariants.{One, Listed}
use Rattle.assertions.specs.Written.{Written, boolean, delay, lead, repeat, or, and, intersect}
use Rattle.assertions.specs.Written.{throughout}
use Rattle.types.specs.Outlines.{map_written}

-- its booleans, one after the other, in the order in which they are written
abbrev pub leaves : {B : Type 0} → Written B → List B
leaves (boolean b) = b ∷ []
leaves (delay r least most s) = leaves r ++ leaves s
leaves (lead least most s) = leaves s
leaves (repeat r least most) = leaves r
leaves (or r s) = leaves r ++ leaves s
leaves (and r s) = leaves r ++ leaves s
leaves (intersect r s) = leaves r ++ leaves s
leaves (throughout b r) = b ∷ leaves r

-- the place of a boolean; the constant 1 has none
abbrev pub place_listed : Boolean → List ℕ
place_listed One = []
place_listed (Listed p) = p ∷ []

-- the places of a sequence's booleans, one for each that is written
abbrev pub sequence_places : Written Boolean → List ℕ
sequence_places w = flat_map place_listed (leaves w)

abbrev pub is_one : Boolean → Bool
is_one One = true
is_one (Listed p) = false

-- the form of a sequence, whichever places its booleans have: the constant 1 alone is told
abbrev pub form_of : Written Boolean → Written Bool
form_of w = map_written is_one w
