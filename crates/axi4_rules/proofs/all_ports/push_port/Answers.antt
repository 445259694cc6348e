use Rattle.std.proofs.Common.{◌∙◌, ◌++◌, ap}
use Rattle.axi4_rules.proofs.all_ports.push_port.Goals as goal

pub returns-clause-added : goal.returns-clause-added
returns-clause-added c = record {
  is = c.in_ok-push_line.ensures ∙ ap (λ l. c.args.text.now ++ l) c.in_ok-rules.ensures.text;
}
