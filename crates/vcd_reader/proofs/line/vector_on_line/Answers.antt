use Rattle.std.proofs.Common.{arith}
use Rattle.vcd_reader.specs.Index.{codes_in}
use Rattle.vcd_reader.proofs.LineLaws.{vector-at}
use Rattle.vcd_reader.proofs.line.vector_on_line.Goals as goal

pub returns-clause-item : goal.returns-clause-item
returns-clause-item c =
    vector-at (codes_in c.args.codes.now.variables.now) c.args.bytes.now c.args.at c.in_ok-packed.packed
    c.in_ok-code.code c.in_ok-packed.end c.requires.feed c.in_ok-code.ensures
    c.number_at-number.result.0 c.number_at-number.result.1 c.requires.begins c.number_at-number.ensures
    (omega (arith, c.if-stop-at.false, c.number_at-number.ensures.low)) (omega arith) c.if-bytes-stop-ne32.false
    c.in_ok-packed.ensures
