-- Rows of tables, one after another.
use Rattle.std.proofs.Common.{◌≡◌, ◌∙◌, ℕ, ◌+◌, ◌<◌, ◌≤◌, ◌∷◌, List, length, get_or, drop, drop-cons, add-one, ap, sym}
use Rattle.std.proofs.Math.ListN.{drop_of_length-le}
use Rattle.clap.specs.Words.{App, with_rule, with_subcommand}
use Rattle.cli_words.specs.declared.row.CommandRow.{CommandRow}
use Rattle.cli_words.specs.declared.row.OptionRow.{OptionRow}
use Rattle.cli_words.specs.Rows.{command_app, row_rule, with_commands, with_rows}

cell : {X : Type 0} (rows : List X) (i : ℕ) (d : X) → i < length rows
    → drop i rows ≡ get_or rows i d ∷ drop (i + 1) rows
cell rows i d inside = rw add-one (drop-cons rows i d inside)

-- the option of the first row that is left is added
pub one_row : (rows : List OptionRow) (i : ℕ) (d : OptionRow) (a b z : App) → i < length rows
    → b ≡ with_rule a (row_rule (get_or rows i d)) → with_rows a (drop i rows) ≡ z → with_rows b (drop (i + 1) rows) ≡ z
one_row rows i d a b z inside is before =
    ap (λ (x : App). with_rows x (drop (i + 1) rows)) is
    ∙ sym (ap (λ (rs : List OptionRow). with_rows a rs) (cell rows i d inside)) ∙ before

-- no row is left
pub no_row : (rows : List OptionRow) (i : ℕ) (a z : App) → length rows ≤ i → with_rows a (drop i rows) ≡ z → a ≡ z
no_row rows i a z over before =
    sym (ap (λ (rs : List OptionRow). with_rows a rs) (drop_of_length-le rows over)) ∙ before

-- the command of the first row that is left is added
pub one_command : (rows : List CommandRow) (i : ℕ) (d : CommandRow) (a b z : App) → i < length rows
    → b ≡ with_subcommand a (command_app (get_or rows i d)).top → with_commands a (drop i rows) ≡ z
    → with_commands b (drop (i + 1) rows) ≡ z
one_command rows i d a b z inside is before =
    ap (λ (x : App). with_commands x (drop (i + 1) rows)) is
    ∙ sym (ap (λ (rs : List CommandRow). with_commands a rs) (cell rows i d inside)) ∙ before

-- no command is left
pub no_command : (rows : List CommandRow) (i : ℕ) (a z : App) → length rows ≤ i → with_commands a (drop i rows) ≡ z
    → a ≡ z
no_command rows i a z over before =
    sym (ap (λ (rs : List CommandRow). with_commands a rs) (drop_of_length-le rows over)) ∙ before
