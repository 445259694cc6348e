use Rattle.std.proofs.Common.{take, ap}
use Rattle.vcd_declarations.specs.Views.{path_in}
use Rattle.vcd_declarations.proofs.spelling.Spelling.path.Goals as goal

pub returns : goal.returns
unfolding path_in
returns c = ap (take c.args.self.now.end) c.deref.ensures.value
