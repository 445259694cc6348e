use Rattle.axi4_rules.specs.Rules.{rule_line, reset_line, counter_line}
use Rattle.axi4_rules.proofs.lines.line_in.Goals as goal

pub returns-in-Rule : goal.returns-in-Rule
unfolding rule_line
returns-in-Rule c = rw c.in-Rule.is c.line_between.ensures

pub returns-in-Always : goal.returns-in-Always
unfolding reset_line
returns-in-Always c = rw c.in-Always.is c.line_between-in-Always.ensures

pub returns-in-Counter : goal.returns-in-Counter
unfolding counter_line
returns-in-Counter c = rw c.in-Counter.is c.line_between-in-Counter.ensures
