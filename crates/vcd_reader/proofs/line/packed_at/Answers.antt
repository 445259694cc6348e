use Rattle.std.proofs.Common.{◌+◌, arith}
use Rattle.vcd_reader.proofs.LineLaws.{packed-1, packed-2, packed-3}
use Rattle.vcd_reader.proofs.line.packed_at.Goals as goal

pub returns-then-b-eq10 : goal.returns-then-b-eq10
returns-then-b-eq10 c =
    let bytes = c.args.bytes.now in
    let i = c.args.from in
    rw c.from.ensures
    (packed-1 bytes i c.requires c.if-a-le32.false (omega (arith, c.type_inv.bytes i)) c.if-b-eq10.true)

pub returns-then-c-eq10 : goal.returns-then-c-eq10
returns-then-c-eq10 c =
    let bytes = c.args.bytes.now in
    let i = c.args.from in
    rw (c.from-then-c-eq10.ensures, c.from-then-c-eq10-2.ensures)
    (packed-2 bytes i c.requires c.if-a-le32.false (omega (arith, c.type_inv.bytes i)) c.if-b-le32.false
    (omega (arith, c.type_inv.bytes (i + 1))) c.if-c-eq10.true)

pub returns : goal.returns
returns c =
    let bytes = c.args.bytes.now in
    let i = c.args.from in
    rw (c.from-2.ensures, c.from-3.ensures, c.from-4.ensures)
    (packed-3 bytes i c.requires c.if-a-le32.false (omega (arith, c.type_inv.bytes i)) c.if-b-le32.false
    (omega (arith, c.type_inv.bytes (i + 1))) c.if-c-le32.false (omega (arith, c.type_inv.bytes (i + 2)))
    c.if-d-ne10.false)
