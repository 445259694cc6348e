use Rattle.std.proofs.Common.{◌+◌, ◌*◌}
use Rattle.import_properties.specs.Shapes.{written_form}
use Rattle.import_rewriting.proofs.Sizes.{size}
use Rattle.import_rewriting.proofs.ends.+ends.Given as goal

abbrev pub decreases-ends_of : goal.decreases-ends_of
decreases-ends_of l = 512 * size (written_form l.antecedent.now)

abbrev pub decreases-ends_of_repetition : goal.decreases-ends_of_repetition
decreases-ends_of_repetition l = 512 * size (written_form l.body.now) + l.most + 1
