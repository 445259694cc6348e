use Rattle.std.proofs.Common.{◌∙◌, sym}
use Rattle.source_files.proofs.GlobLaws.{after-short}
use Rattle.source_files.proofs.globs.after.Goals as goal

pub returns-in_default : goal.returns-in_default
returns-in_default c =
    after-short c.args.segment.now c.loop-wanted.rest.now c.loop-wanted.wanted-index c.loop-wanted-test.true
    c.in_default.len_below
    ∙ sym c.loop-wanted.invariant
