use Rattle.compiler_laws.proofs.Decides.{programs-decide}
use Rattle.compiler_laws.proofs.program_laws.programs_decide.Goals as goal

pub returns : goal.returns
returns c = programs-decide
