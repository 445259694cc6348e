use Rattle.std.proofs.Common.{◌≡◌, drop}
use Rattle.clap.specs.Words.{app_of}
use Rattle.cli_words.specs.Rows.{with_commands}
use Rattle.cli_words.proofs.command.with_subcommands.Given as goal

-- the command so far, with what is left, is the whole
abbrev pub invariant-loop-row : goal.invariant-loop-row
invariant-loop-row l =
    with_commands (app_of l.whole) (drop l.row-index l.rows) ≡ with_commands (app_of l.initial.whole) l.rows
