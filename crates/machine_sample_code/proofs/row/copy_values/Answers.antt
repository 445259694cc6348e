use Rattle.std.proofs.Common.{◌∙◌, length-set}
use Rattle.machine_sample_code.proofs.CopyLaws.{row-more}
use Rattle.machine_sample_code.proofs.row.copy_values.Goals as goal

pub loop-index-preserved : goal.loop-index-preserved
loop-index-preserved c =
    let i = c.loop-index.invariant in
    record {
      long = length-set c.loop-index.row _ _ ∙ i.long;
      copied =
          row-more c.args.at c.loop-index.index c.args.values.now c.args.row.now c.loop-index.row
          c.loop-index-test.true c.requires i.long i.copied;
    }
