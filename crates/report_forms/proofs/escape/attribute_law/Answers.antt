use Rattle.std.specs.Prelude.{chars}
use Rattle.report_forms.proofs.EscapeLaws.{read_back, told_same}
use Rattle.report_forms.proofs.escape.attribute_law.Goals as goal

pub returns-clause-read_back : goal.returns-clause-read_back
returns-clause-read_back c = read_back

pub returns-clause-same : goal.returns-clause-same
returns-clause-same c text = told_same (chars text)
