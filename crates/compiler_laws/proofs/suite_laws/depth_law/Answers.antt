use Rattle.std.proofs.Common.{arith}
use Rattle.compiler_laws.specs.Depths.{MeansShallow}
use Rattle.compiler_laws.proofs.DepthLaws.{spells-open}
use Rattle.compiler_laws.proofs.FileLaws.{of-items}
use Rattle.compiler_laws.proofs.suite_laws.depth_law.Goals as goal

pub returns : goal.returns
returns c = λ s columns items tokens file.
    of-items (MeansShallow s columns) (λ d t ts rest spelled low e is. let deep = spells-open s columns spelled e is in
    record { shallow = omega (arith, deep.within, low); near = deep.near }) file.spelled
