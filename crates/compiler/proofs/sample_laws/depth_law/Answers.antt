use Rattle.compiler.proofs.DepthLaws.{depth-bounds-code}
use Rattle.compiler.proofs.sample_laws.depth_law.Goals as goal

pub returns : goal.returns
returns c = depth-bounds-code
