use Rattle.std.proofs.Common.{sym, subst, List, ℕ}
use Rattle.axi4_rules.specs.Rules.{rule_line, of_channel, stable_row}
use Rattle.axi4_rules.specs.Seen.{port_data}
use Rattle.axi4_rules.specs.Wholes.{Adds}
use Rattle.axi4_rules.proofs.AddLaws.{all_done, map-map}
use Rattle.axi4_rules.proofs.blocks.push_stables.Goals as goal

pub returns : goal.returns
returns c =
    subst (Adds c.args.text.now c.loop-signal.text)
    (sym (map-map (λ (s : List ℕ). rule_line (of_channel (port_data c.args.port.now) c.args.channel.now s) stable_row)
    (λ s. s.now) c.args.payload.now))
    (all_done _ c.args.payload.now c.loop-signal.signal-index _ _ c.loop-signal-test.false c.loop-signal.invariant)
