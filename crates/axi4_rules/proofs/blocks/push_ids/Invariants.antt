use Rattle.std.proofs.Common.{map, take}
use Rattle.std.specs.Fmt.{decimal}
use Rattle.axi4_rules.specs.Rules.{of_port}
use Rattle.axi4_rules.specs.Seen.{port_data}
use Rattle.axi4_rules.specs.Rows.{row_data, line_in}
use Rattle.axi4_rules.specs.Wholes.{Adds}
use Rattle.axi4_rules.proofs.blocks.push_ids.Given as goal

abbrev pub invariant-loop-id : goal.invariant-loop-id
invariant-loop-id l =
    Adds l.fn.text l.text
    (map (λ i. line_in l.form (of_port (port_data l.port) (decimal i)) (row_data l.row))
    (take l.id-index l.port.watch.items))
