use Rattle.compiler_laws.proofs.Lines.{are-one}
use Rattle.compiler_laws.proofs.program_laws.lines_are_one.Goals as goal

pub returns : goal.returns
returns c = are-one
