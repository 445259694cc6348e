-- How large a sequence is, as it is written, and a property.
use Rattle.std.specs.Prelude.{ℕ, ◌+◌}
use Rattle.import_properties.specs.declared.property.Property.{Property}
use Rattle.import_properties.specs.declared.property.Property.TheVariants as tree
use Rattle.assertions.specs.Written.{Written, boolean, delay, lead, repeat, or, and, intersect}
use Rattle.assertions.specs.Written.{throughout}

-- how many forms it has
abbrev pub size : {B : Type 0} → Written B → ℕ
size (boolean b) = 1
size (delay r least most s) = size r + size s + 1
size (lead least most s) = size s + 1
size (repeat r least most) = size r + 1
size (or r s) = size r + size s + 1
size (and r s) = size r + size s + 1
size (intersect r s) = size r + size s + 1
size (throughout b r) = size r + 1

-- how many forms a property has
abbrev pub property_size : Property → ℕ
property_size (tree.Sequence s) = 1
property_size (tree.Not' x p) = property_size p + 1
property_size (tree.And' x p y q) = property_size p + property_size q + 1
property_size (tree.Or' x p y q) = property_size p + property_size q + 1
property_size (tree.Implication' r x p) = property_size p + 1
property_size (tree.NextImplication' r x p) = property_size p + 1
property_size (tree.FollowedBy' r x p) = property_size p + 1
property_size (tree.NextFollowedBy' r x p) = property_size p + 1
property_size (tree.If' b x p) = property_size p + 1
property_size (tree.IfElse' b x p y q) = property_size p + property_size q + 1
property_size (tree.Implies' x p y q) = property_size p + property_size q + 1
property_size (tree.Iff' x p y q) = property_size p + property_size q + 1
property_size (tree.Next' n x p) = property_size p + 1
property_size (tree.Always' least most x p) = property_size p + 1
property_size (tree.Eventually' least most x p) = property_size p + 1
property_size (tree.Until' x p y q) = property_size p + property_size q + 1
property_size (tree.UntilWith' x p y q) = property_size p + property_size q + 1
