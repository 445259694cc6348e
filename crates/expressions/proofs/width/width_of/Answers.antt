use Rattle.std.proofs.Common.{◌∙◌, ap, sym}
use Rattle.expressions.specs.Terms.{width_of}
use Rattle.expressions.proofs.Opened.{opens_group, opens_complement, opens_past, opens_sums, opens_shifts}
use Rattle.expressions.proofs.Opened.{opens_compare, opens_connect, opens_concat, opens_choose}
use Rattle.expressions.proofs.width.width_of.Goals as goal

pub returns-in-Group-clause-own : goal.returns-in-Group-clause-own
returns-in-Group-clause-own c =
    let o = opens_group c.args.node.now c.in-Group.width c.in-Group.field-1 c.in-Group.is c.requires in
    o.width.is ∙ sym (ap width_of o.term)

pub returns-in-Group-clause-some_bits : goal.returns-in-Group-clause-some_bits
returns-in-Group-clause-some_bits c =
    let o = opens_group c.args.node.now c.in-Group.width c.in-Group.field-1 c.in-Group.is c.requires in
    o.width.some_bits

pub returns-in-Group-clause-at_most_128 : goal.returns-in-Group-clause-at_most_128
returns-in-Group-clause-at_most_128 c =
    let o = opens_group c.args.node.now c.in-Group.width c.in-Group.field-1 c.in-Group.is c.requires in
    o.width.at_most_128

pub returns-in-Concat-clause-own : goal.returns-in-Concat-clause-own
returns-in-Concat-clause-own c =
    let o =
    opens_concat c.args.node.now c.in-Concat.width c.in-Concat.field-1 c.in-Concat.field-2 c.in-Concat.is
    c.requires in
    o.width.is ∙ sym (ap width_of o.term)

pub returns-in-Concat-clause-some_bits : goal.returns-in-Concat-clause-some_bits
returns-in-Concat-clause-some_bits c =
    let o =
    opens_concat c.args.node.now c.in-Concat.width c.in-Concat.field-1 c.in-Concat.field-2 c.in-Concat.is
    c.requires in
    o.width.some_bits

pub returns-in-Concat-clause-at_most_128 : goal.returns-in-Concat-clause-at_most_128
returns-in-Concat-clause-at_most_128 c =
    let o =
    opens_concat c.args.node.now c.in-Concat.width c.in-Concat.field-1 c.in-Concat.field-2 c.in-Concat.is
    c.requires in
    o.width.at_most_128

pub returns-in-Complement-clause-own : goal.returns-in-Complement-clause-own
returns-in-Complement-clause-own c =
    let o =
    opens_complement c.args.node.now c.in-Complement.width c.in-Complement.field-1 c.in-Complement.is c.requires
    in
    o.width.is ∙ sym (ap width_of o.term)

pub returns-in-Complement-clause-some_bits : goal.returns-in-Complement-clause-some_bits
returns-in-Complement-clause-some_bits c =
    let o =
    opens_complement c.args.node.now c.in-Complement.width c.in-Complement.field-1 c.in-Complement.is c.requires
    in
    o.width.some_bits

pub returns-in-Complement-clause-at_most_128 : goal.returns-in-Complement-clause-at_most_128
returns-in-Complement-clause-at_most_128 c =
    let o =
    opens_complement c.args.node.now c.in-Complement.width c.in-Complement.field-1 c.in-Complement.is c.requires
    in
    o.width.at_most_128

pub returns-in-Arithmetic-clause-own : goal.returns-in-Arithmetic-clause-own
returns-in-Arithmetic-clause-own c =
    let o =
    opens_sums c.args.node.now c.in-Arithmetic.width c.in-Arithmetic.field-1 c.in-Arithmetic.field-2
    c.in-Arithmetic.is c.requires in
    o.width.is ∙ sym (ap width_of o.chain.term)

pub returns-in-Arithmetic-clause-some_bits : goal.returns-in-Arithmetic-clause-some_bits
returns-in-Arithmetic-clause-some_bits c =
    let o =
    opens_sums c.args.node.now c.in-Arithmetic.width c.in-Arithmetic.field-1 c.in-Arithmetic.field-2
    c.in-Arithmetic.is c.requires in
    o.width.some_bits

pub returns-in-Arithmetic-clause-at_most_128 : goal.returns-in-Arithmetic-clause-at_most_128
returns-in-Arithmetic-clause-at_most_128 c =
    let o =
    opens_sums c.args.node.now c.in-Arithmetic.width c.in-Arithmetic.field-1 c.in-Arithmetic.field-2
    c.in-Arithmetic.is c.requires in
    o.width.at_most_128

pub returns-in-Shift-clause-own : goal.returns-in-Shift-clause-own
returns-in-Shift-clause-own c =
    let o =
    opens_shifts c.args.node.now c.in-Shift.width c.in-Shift.field-1 c.in-Shift.field-2 c.in-Shift.is c.requires
    in
    o.width.is ∙ sym (ap width_of o.chain.term)

pub returns-in-Shift-clause-some_bits : goal.returns-in-Shift-clause-some_bits
returns-in-Shift-clause-some_bits c =
    let o =
    opens_shifts c.args.node.now c.in-Shift.width c.in-Shift.field-1 c.in-Shift.field-2 c.in-Shift.is c.requires
    in
    o.width.some_bits

pub returns-in-Shift-clause-at_most_128 : goal.returns-in-Shift-clause-at_most_128
returns-in-Shift-clause-at_most_128 c =
    let o =
    opens_shifts c.args.node.now c.in-Shift.width c.in-Shift.field-1 c.in-Shift.field-2 c.in-Shift.is c.requires
    in
    o.width.at_most_128

pub returns-in-Choose-clause-own : goal.returns-in-Choose-clause-own
returns-in-Choose-clause-own c =
    let o =
    opens_choose c.args.node.now c.in-Choose.width c.in-Choose.field-1 c.in-Choose.field-2 c.in-Choose.field-3
    c.in-Choose.is c.requires in
    o.width.is ∙ sym (ap width_of o.term)

pub returns-in-Choose-clause-some_bits : goal.returns-in-Choose-clause-some_bits
returns-in-Choose-clause-some_bits c =
    let o =
    opens_choose c.args.node.now c.in-Choose.width c.in-Choose.field-1 c.in-Choose.field-2 c.in-Choose.field-3
    c.in-Choose.is c.requires in
    o.width.some_bits

pub returns-in-Choose-clause-at_most_128 : goal.returns-in-Choose-clause-at_most_128
returns-in-Choose-clause-at_most_128 c =
    let o =
    opens_choose c.args.node.now c.in-Choose.width c.in-Choose.field-1 c.in-Choose.field-2 c.in-Choose.field-3
    c.in-Choose.is c.requires in
    o.width.at_most_128

pub returns-in-Past-clause-own : goal.returns-in-Past-clause-own
returns-in-Past-clause-own c =
    let o = opens_past c.args.node.now c.in-Past.width c.in-Past.field-1 c.in-Past.field-2 c.in-Past.is c.requires in
    o.width.is ∙ sym (ap width_of o.term)

pub returns-in-Past-clause-some_bits : goal.returns-in-Past-clause-some_bits
returns-in-Past-clause-some_bits c =
    let o = opens_past c.args.node.now c.in-Past.width c.in-Past.field-1 c.in-Past.field-2 c.in-Past.is c.requires in
    o.width.some_bits

pub returns-in-Past-clause-at_most_128 : goal.returns-in-Past-clause-at_most_128
returns-in-Past-clause-at_most_128 c =
    let o = opens_past c.args.node.now c.in-Past.width c.in-Past.field-1 c.in-Past.field-2 c.in-Past.is c.requires in
    o.width.at_most_128

pub returns-in-Compare-clause-own : goal.returns-in-Compare-clause-own
returns-in-Compare-clause-own c =
    let o =
    opens_compare c.args.node.now c.in-Compare.field-0 c.in-Compare.field-1 c.in-Compare.field-2 c.in-Compare.is
    c.requires in
    sym o.one

pub returns-in-Connect-clause-own : goal.returns-in-Connect-clause-own
returns-in-Connect-clause-own c =
    let o = opens_connect c.args.node.now c.in-Connect.field-0 c.in-Connect.field-1 c.in-Connect.is c.requires in
    sym o.one
