use Rattle.std.proofs.Common.{sym, refl}
use Rattle.vcd_reader.specs.Index.{codes_in}
use Rattle.vcd_reader.proofs.LineLaws.{scalar-at}
use Rattle.vcd_reader.proofs.line.scalar_on_line.Goals as goal

pub returns-clause-item : goal.returns-clause-item
returns-clause-item c =
    scalar-at (codes_in c.args.codes.now.variables.now) c.args.bytes.now c.args.at c.in_ok-packed.packed
    c.in_ok-code.code c.in_ok-packed.end c.requires.feed c.in_ok-code.ensures
    _ c.bit_value.result refl (sym c.if-not-is_bit_digit.ensures) c.bit_value.ensures c.in_ok-packed.ensures
