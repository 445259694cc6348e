use Rattle.compiler_laws.proofs.Lines.{by-meaning}
use Rattle.compiler_laws.proofs.program_laws.line_by_meaning.Goals as goal

pub returns : goal.returns
returns c = by-meaning
