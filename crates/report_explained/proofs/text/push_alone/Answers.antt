use Rattle.report_forms.proofs.PieceLaws.{and_then}
use Rattle.report_explained.specs.ExplainedText.{alone_text}
use Rattle.report_explained.proofs.text.push_alone.Goals as goal

pub returns : goal.returns
unfolding alone_text
returns c = and_then c.in_ok-push_number.ensures c.in_ok-push_text.ensures
