-- What the rows of the tables of commands and options stand for.
use Rattle.std.specs.Prelude.{List, [], ◌∷◌, Some}
use Rattle.std.specs.List.{fold}
use Rattle.clap.specs.Words.{App, Rule, Text, new_app, with_rule, with_subcommand}
use Rattle.clap.specs.declared.builder.value_parser.ValueParser.TheVariants.{Unsigned}
use Rattle.cli_words.specs.declared.row.Kind.{Kind}
use Rattle.cli_words.specs.declared.row.Kind.TheVariants.{Needed, Free, Many, Flag, Word}
use Rattle.cli_words.specs.declared.row.Kind.TheVariants.{Words, Between, BetweenOr}
use Rattle.cli_words.specs.declared.row.Tie.{Tie}
use Rattle.cli_words.specs.declared.row.Tie.TheVariants.{Alone, UnlessPorts}
use Rattle.cli_words.specs.declared.row.Tie.TheVariants.{UnlessPortsOrTeam, NotBesideText}
use Rattle.cli_words.specs.declared.row.Tie.TheVariants.{WithTeam}
use Rattle.cli_words.specs.declared.row.OptionRow.{OptionRow}
use Rattle.cli_words.specs.declared.row.CommandRow.{CommandRow}
use Rattle.cli_words.specs.Words.{option_rule, flag_rule, many_rule, file_rule, word_rule}
use Rattle.cli_words.specs.Words.{words_rule, tied}

-- the rule of an option of this name and kind, as if it hung on no other
abbrev pub kind_rule : Text → Kind → Rule
kind_rule name Needed = file_rule name
kind_rule name Free = option_rule name
kind_rule name Many = many_rule name
kind_rule name Flag = flag_rule name
kind_rule name Word = word_rule name
kind_rule name Words = words_rule name
kind_rule name (Between least most) =
    record (option_rule name) { parser = Some (Unsigned least most) }
kind_rule name (BetweenOr least most default) = record (option_rule name) {
  defaults = default.now ∷ [];
  parser = Some (Unsigned least most);
}

-- the rule of an option that may hang on others
abbrev pub tie_rule : Tie → Rule → Rule
tie_rule Alone rule = rule
tie_rule UnlessPorts rule = tied rule
tie_rule UnlessPortsOrTeam rule = tied rule
tie_rule NotBesideText rule = tied rule
tie_rule WithTeam rule = tied rule

-- the rule of a row's option
abbrev pub row_rule : OptionRow → Rule
row_rule row = tie_rule row.tie (kind_rule row.name.now row.kind)

-- a command with the options of more rows
abbrev pub with_rows : App → List OptionRow → App
with_rows app rows = fold (λ a row. with_rule a (row_rule row)) app rows

-- the command of a row
abbrev pub command_app : CommandRow → App
command_app row = with_rows (new_app row.name.now) row.options.now

-- a command with the subcommands of more rows
abbrev pub with_commands : App → List CommandRow → App
with_commands app rows = fold (λ a row. with_subcommand a (command_app row).top) app rows
