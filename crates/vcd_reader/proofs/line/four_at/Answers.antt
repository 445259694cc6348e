use Rattle.std.proofs.Common.{◌+◌, ◌*◌, arith, refl}
use Rattle.vcd_reader.proofs.LineLaws.{four-at}
use Rattle.vcd_reader.proofs.line.four_at.Goals as goal

pub returns : goal.returns
returns c = λ few.
    four-at c.args.bytes.now c.args.at c.from-5.result
    (c.from.result + c.from-2.result * 256 + c.from-3.result * 65536 + c.from-4.result * 16777216)
    (λ k. omega (arith, c.type_inv.bytes k)) few
    (rw (c.from.ensures, c.from-2.ensures, c.from-3.ensures, c.from-4.ensures) refl)
    (rw c.from-5.ensures c.if-number-word.false)
