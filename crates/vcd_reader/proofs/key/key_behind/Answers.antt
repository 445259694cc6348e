use Rattle.std.proofs.Common.{◌≡◌, [], drop}
use Rattle.std.proofs.Math.ListN.{drop_of_length-le}
use Rattle.vcd_reader.specs.Keys.{key_from}
use Rattle.vcd_reader.proofs.ScopeLaws.{key_from-step}
use Rattle.vcd_reader.proofs.key.key_behind.Goals as goal

pub loop-byte-preserved : goal.loop-byte-preserved
loop-byte-preserved c =
    rw c.from.ensures
    (rw (← key_from-step c.loop-byte.key c.args.text.now c.loop-byte.byte-index c.loop-byte-test.true)
    c.loop-byte.invariant)

pub returns : goal.returns
unfolding key_from
returns c =
    let nil : drop c.loop-byte.byte-index c.args.text.now ≡ [] =
    drop_of_length-le c.args.text.now c.loop-byte-test.false in
    rw nil at c.loop-byte.invariant
