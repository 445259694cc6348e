use Rattle.std.proofs.Common.{arith}
use Rattle.vcd_reader.proofs.LineLaws.{time-at}
use Rattle.vcd_reader.proofs.line.time_on_line.Goals as goal

pub returns-clause-item : goal.returns-clause-item
returns-clause-item c = λ declared.
    time-at declared c.args.bytes.now c.args.at c.digits_at-time.result.0 c.digits_at-time.result.1
    c.requires.feed c.requires.begins c.digits_at-time.ensures
    (omega arith) (omega arith) (omega arith) c.if-bytes-end-ne10.false
