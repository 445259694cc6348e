use Rattle.std.proofs.Common.{arith}
use Rattle.vcd_reader.proofs.reading.Reading.followed_by.Goals as goal

pub returns-in-Some-moved-clause-reading : goal.returns-in-Some-moved-clause-reading
returns-in-Some-moved-clause-reading c = λ declared bytes read other.
    let by = c.in-Ok.ensures in
    c.extended.ensures.reading declared bytes read
    (c.in-Some-moved.ensures.reading declared bytes c.args.self.high.items
    (omega (arith, by.1, c.len.ensures, c.args.self.high.ok.0)) (rw c.in-Some.is at other))
