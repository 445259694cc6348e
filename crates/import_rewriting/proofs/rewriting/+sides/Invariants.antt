use Rattle.std.proofs.Common.{◌+◌, ◌*◌}
use Rattle.import_rewriting.proofs.Sizes.{property_size}
use Rattle.import_rewriting.proofs.rewriting.+sides.Given as goal

abbrev pub decreases-sides_of : goal.decreases-sides_of
decreases-sides_of l = 2 * property_size l.property.now

abbrev pub decreases-sides_later : goal.decreases-sides_later
decreases-sides_later l = 2 * property_size l.body.now + 1
