use Rattle.std.proofs.Common.{◌∙◌}
use Rattle.report_suites.proofs.rows.suite_rows.Goals as goal

pub returns-clause-rows : goal.returns-clause-rows
returns-clause-rows c = λ k signals holds named.
    c.in_ok-count.ensures.signals ∙ c.in_ok-signals.ensures k signals holds named
