use Rattle.std.proofs.Common.{ℕ}
use Rattle.std.specs.Fmt.{decimal}
use Rattle.axi4_rules.specs.Rules.{of_port}
use Rattle.axi4_rules.specs.Seen.{port_data}
use Rattle.axi4_rules.specs.Rows.{row_data, line_in}
use Rattle.axi4_rules.proofs.AddLaws.{id_more}
use Rattle.axi4_rules.proofs.blocks.push_ids.Goals as goal

pub loop-id-preserved : goal.loop-id-preserved
loop-id-preserved c =
    id_more (λ (i : ℕ). line_in c.args.form (of_port (port_data c.args.port.now) (decimal i)) (row_data c.args.row))
    c.args.port.now.watch.items c.deref-id-items.result.now c.loop-id.id-index _ _ _ _ c.deref-id-items.ensures.value
    c.loop-id-test.true c.loop-id.invariant c.in_ok-push_id.ensures
