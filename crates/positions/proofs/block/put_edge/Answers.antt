use Rattle.std.proofs.Common.{◌∙◌, ◌+◌, ◌++◌, length, ap, sym, arith, append-nil}
use Rattle.positions.specs.Sections.{accept_if}
use Rattle.positions.specs.Views.{edge_data}
use Rattle.positions.proofs.BlockLaws.{edge-made}
use Rattle.positions.proofs.block.put_edge.Goals as goal

pub returns-in_ok-push : goal.returns-in_ok-push
returns-in_ok-push c =
    edge-made c.args.block.now.items c.put_guards.new.block.items c.put_entered.new.block.items c.push.new.self.items
    c.deref.result.now c.deref-2.result.now
    (c.args.base + length c.args.block.now.items) (c.args.base + (c.len.result + c.size.result))
    (edge_data c.args.edge.now) (omega (arith, c.size.ensures, c.len.ensures))
    c.deref.ensures.value c.deref-2.ensures.value c.in_ok-put_guards.ensures c.in_ok-put_entered.ensures
    (c.in_ok-push.ensures.items ∙ ap (λ b. c.put_entered.new.block.items ++ accept_if b) (sym c.if-edge.true))

pub returns-else-edge : goal.returns-else-edge
returns-else-edge c =
    edge-made c.args.block.now.items c.put_guards.new.block.items c.put_entered.new.block.items
    c.put_entered.new.block.items c.deref.result.now c.deref-2.result.now
    (c.args.base + length c.args.block.now.items) (c.args.base + (c.len.result + c.size.result))
    (edge_data c.args.edge.now) (omega (arith, c.size.ensures, c.len.ensures))
    c.deref.ensures.value c.deref-2.ensures.value c.in_ok-put_guards.ensures c.in_ok-put_entered.ensures
    (sym (append-nil c.put_entered.new.block.items)
    ∙ ap (λ b. c.put_entered.new.block.items ++ accept_if b) (sym c.if-edge.false))
