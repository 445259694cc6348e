use Rattle.vcd_reader.proofs.PackedLaws.{known-push}
use Rattle.vcd_reader.proofs.packed.blank_page.Goals as goal

pub loop-i-preserved : goal.loop-i-preserved
loop-i-preserved c =
    λ texts. known-push texts c.loop-i.table.items _ c.in_ok-push.ensures.items (c.loop-i.invariant texts)
