use Rattle.std.proofs.Common.{◌≡◌, drop}
use Rattle.clap.specs.Words.{app_of}
use Rattle.cli_words.specs.Rows.{with_rows}
use Rattle.cli_words.proofs.command.with_options.Given as goal

-- the command so far, with what is left, is the whole
abbrev pub invariant-loop-row : goal.invariant-loop-row
invariant-loop-row l =
    with_rows (app_of l.whole) (drop l.row-index l.rows) ≡ with_rows (app_of l.initial.whole) l.rows
