use Rattle.clap.specs.Words.{app_of}
use Rattle.cli_words.proofs.RowLaws.{one_row, no_row}
use Rattle.cli_words.proofs.command.with_options.Goals as goal

pub loop-row-preserved : goal.loop-row-preserved
loop-row-preserved c =
    one_row c.args.rows.now c.loop-row.row-index _ (app_of c.loop-row.whole) _ _ c.loop-row-test.true
    c.in_ok-whole.ensures c.loop-row.invariant

pub returns : goal.returns
returns c =
    no_row c.args.rows.now c.loop-row.row-index (app_of c.loop-row.whole) _ c.loop-row-test.false c.loop-row.invariant
