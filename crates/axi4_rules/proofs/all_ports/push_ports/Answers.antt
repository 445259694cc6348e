use Rattle.std.proofs.Common.{sym, subst}
use Rattle.axi4_rules.specs.Files.{table_of}
use Rattle.axi4_rules.specs.Seen.{line_data}
use Rattle.axi4_rules.specs.Wholes.{Adds}
use Rattle.axi4_rules.proofs.FileLaws.{all_tables, flat_map-map}
use Rattle.axi4_rules.proofs.all_ports.push_ports.Goals as goal

pub returns-clause-added : goal.returns-clause-added
returns-clause-added c =
    subst (Adds c.args.text.now c.loop-line.text) (sym (flat_map-map table_of line_data c.args.ports.now))
    (all_tables _ c.args.ports.now c.loop-line.line-index _ _ c.loop-line-test.false c.loop-line.invariant)
