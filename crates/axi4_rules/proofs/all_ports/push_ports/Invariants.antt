use Rattle.std.proofs.Common.{take}
use Rattle.std.specs.List.{flat_map}
use Rattle.axi4_rules.specs.Files.{table_of}
use Rattle.axi4_rules.specs.Seen.{line_data}
use Rattle.axi4_rules.specs.Wholes.{Adds}
use Rattle.axi4_rules.proofs.all_ports.push_ports.Given as goal

abbrev pub invariant-loop-line : goal.invariant-loop-line
invariant-loop-line l = Adds l.fn.text l.text (flat_map (λ p. table_of (line_data p)) (take l.line-index l.ports))
