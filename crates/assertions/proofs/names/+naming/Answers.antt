use Rattle.std.proofs.Common.{map}
use Rattle.expressions.specs.Nodes.{node_term, seen_node, step_of}
use Rattle.assertions.specs.Names.{operand_names, part_names, names_in}
use Rattle.assertions.proofs.NameLaws.{behind-first, behind-two, sums-names, shifts-names, compared-names}
use Rattle.assertions.proofs.NameLaws.{connected-names, joined-names, chosen-names}
use Rattle.assertions.proofs.names.+naming.Goals as goal

pub add_node-returns-in_ok-add_node-in-Concat : goal.add_node-returns-in_ok-add_node-in-Concat
add_node-returns-in_ok-add_node-in-Concat t c =
    behind-first c.add_parts.result c.args.names.now.items (names_in (node_term c.in-Concat.first.value))
    c.add_node-in-Concat.new.names.items
    (part_names (map seen_node c.in-Concat.parts.items)) (names_in (node_term c.args.node.now))
    c.add_parts.new.names.items
    (rw c.deref-in-Concat.ensures at c.in_ok-add_node-in-Concat.ensures)
    (joined-names c.args.node.now c.in-Concat.field-0 c.in-Concat.first c.in-Concat.parts c.in-Concat.is)
    (rw c.deref-in-Concat-2.ensures.value at c.add_parts.ensures)

pub add_node-returns-in_ok-add_node-in-Arithmetic : goal.add_node-returns-in_ok-add_node-in-Arithmetic
add_node-returns-in_ok-add_node-in-Arithmetic t c =
    behind-first c.add_sums.result c.args.names.now.items (names_in (node_term c.in-Arithmetic.first.value))
    c.add_node-in-Arithmetic.new.names.items
    (operand_names (map step_of c.in-Arithmetic.steps.items)) (names_in (node_term c.args.node.now))
    c.add_sums.new.names.items
    (rw c.deref-in-Arithmetic.ensures at c.in_ok-add_node-in-Arithmetic.ensures)
    (sums-names c.args.node.now c.in-Arithmetic.field-0 c.in-Arithmetic.first c.in-Arithmetic.steps c.in-Arithmetic.is)
    (rw c.deref-in-Arithmetic-2.ensures.value at c.add_sums.ensures)

pub add_node-returns-in_ok-add_node-in-Shift : goal.add_node-returns-in_ok-add_node-in-Shift
add_node-returns-in_ok-add_node-in-Shift t c =
    behind-first c.add_shifts.result c.args.names.now.items (names_in (node_term c.in-Shift.first.value))
    c.add_node-in-Shift.new.names.items
    (operand_names (map step_of c.in-Shift.steps.items)) (names_in (node_term c.args.node.now))
    c.add_shifts.new.names.items
    (rw c.deref-in-Shift.ensures at c.in_ok-add_node-in-Shift.ensures)
    (shifts-names c.args.node.now c.in-Shift.field-0 c.in-Shift.first c.in-Shift.steps c.in-Shift.is)
    (rw c.deref-in-Shift-2.ensures.value at c.add_shifts.ensures)

pub add_node-returns-in_ok-add_node-in-Compare : goal.add_node-returns-in_ok-add_node-in-Compare
add_node-returns-in_ok-add_node-in-Compare t c =
    behind-first c.add_comparisons.result c.args.names.now.items (names_in (node_term c.in-Compare.first.value))
    c.add_node-in-Compare.new.names.items
    (operand_names (map step_of c.in-Compare.steps.items)) (names_in (node_term c.args.node.now))
    c.add_comparisons.new.names.items
    (rw c.deref-in-Compare.ensures at c.in_ok-add_node-in-Compare.ensures)
    (compared-names c.args.node.now c.in-Compare.field-0 c.in-Compare.first c.in-Compare.steps c.in-Compare.is)
    (rw c.deref-in-Compare-2.ensures.value at c.add_comparisons.ensures)

pub add_node-returns-in_ok-add_node-in-Connect : goal.add_node-returns-in_ok-add_node-in-Connect
add_node-returns-in_ok-add_node-in-Connect t c =
    behind-first c.add_connections.result c.args.names.now.items (names_in (node_term c.in-Connect.first.value))
    c.add_node-in-Connect.new.names.items
    (operand_names (map step_of c.in-Connect.steps.items)) (names_in (node_term c.args.node.now))
    c.add_connections.new.names.items
    (rw c.deref-in-Connect.ensures at c.in_ok-add_node-in-Connect.ensures)
    (connected-names c.args.node.now c.in-Connect.first c.in-Connect.steps c.in-Connect.is)
    (rw c.deref-in-Connect-2.ensures.value at c.add_connections.ensures)

pub add_node-returns-in_ok-add_node-in-Choose-2 : goal.add_node-returns-in_ok-add_node-in-Choose-2
add_node-returns-in_ok-add_node-in-Choose-2 t c =
    behind-two c.add_node-in-Choose-3.result c.args.names.now.items (names_in (node_term c.in-Choose.condition.value))
    c.add_node-in-Choose.new.names.items
    (names_in (node_term c.in-Choose.first.value)) c.add_node-in-Choose-2.new.names.items
    (names_in (node_term c.in-Choose.second.value))
    (names_in (node_term c.args.node.now)) c.add_node-in-Choose-3.new.names.items
    (rw c.deref-in-Choose.ensures at c.in_ok-add_node-in-Choose.ensures)
    (rw c.deref-in-Choose-2.ensures at c.in_ok-add_node-in-Choose-2.ensures)
    (chosen-names c.args.node.now c.in-Choose.field-0 c.in-Choose.condition c.in-Choose.first c.in-Choose.second
    c.in-Choose.is)
    (rw c.deref-in-Choose-3.ensures at c.add_node-in-Choose-3.ensures)
