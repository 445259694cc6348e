use Rattle.std.proofs.Common.{rules}
use Rattle.import_checks.specs.Properties.{is_both}
use Rattle.import_checks.proofs.meanings.mean_together.Goals as goal

pub returns : goal.returns
returns c =
    λ yes none.
    is_both (c.are_halves.ensures (search rules)) (c.is_property.ensures (search rules)) (c.is_property-2.ensures yes)
