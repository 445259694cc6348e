use Rattle.std.proofs.Common.{string_bytes}
use Rattle.report_page.proofs.DrawLaws.{no_mark, draws_bare}
use Rattle.report_page.proofs.picture.push_end_lines.Goals as goal

pub loop-end-init : goal.loop-end-init
loop-end-init c = no_mark (string_bytes c.args.text.now)

pub loop-end-preserved : goal.loop-end-preserved
loop-end-preserved c = draws_bare c.loop-end.invariant c.in_ok-push_upright.ensures
