use Rattle.std.proofs.Common.{map, take}
use Rattle.axi4_rules.specs.Rules.{rule_line, of_channel, stable_row}
use Rattle.axi4_rules.specs.Seen.{port_data}
use Rattle.axi4_rules.specs.Wholes.{Adds}
use Rattle.axi4_rules.proofs.blocks.push_stables.Given as goal

abbrev pub invariant-loop-signal : goal.invariant-loop-signal
invariant-loop-signal l =
    Adds l.fn.text l.text
    (map (λ s. rule_line (of_channel (port_data l.port) l.channel s.now) stable_row) (take l.signal-index l.payload))
