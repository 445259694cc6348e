use Rattle.std.proofs.Common.{◌+◌, ◌*◌}
use Rattle.import_rewriting.proofs.Sizes.{property_size}
use Rattle.import_rewriting.proofs.consequent.+consequent.Given as goal

abbrev pub decreases-consequent_of : goal.decreases-consequent_of
decreases-consequent_of l = 2 * property_size l.property.now

abbrev pub decreases-implies : goal.decreases-implies
decreases-implies l = 2 * property_size l.first.now + 2 * property_size l.second.now + 1
