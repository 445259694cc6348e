use Rattle.std.proofs.Common.{arith}
use Rattle.assertions.specs.declared.sequence.Boolean.{Boolean}
use Rattle.assertions.specs.Written.{kernel}
use Rattle.assertions.proofs.Segments.{Matches-longest}
use Rattle.assertions.proofs.WeightLaws.{weight_covers}
use Rattle.assertions.proofs.laws.weight_law.Goals as goal

pub returns : goal.returns
returns c =
    λ holds true_one r i j ordered m. omega
    (arith, Matches-longest Boolean holds (kernel true_one r) i j m, weight_covers Boolean true_one r ordered)
