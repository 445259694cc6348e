use Rattle.vcd_reader.proofs.ScopeLaws.{reversed-more}
use Rattle.vcd_reader.proofs.scopes.push_reversed.Goals as goal

pub loop-i-preserved : goal.loop-i-preserved
loop-i-preserved c =
    reversed-more c.args.path.now.items c.loop-i.path.items _ c.args.text.now c.loop-i.i c.loop-i-test.true
    c.loop-i.invariant c.in_ok-push.ensures.items
