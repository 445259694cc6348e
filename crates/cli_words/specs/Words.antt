-- svamon's command line, in the words of `clap`, which reads it: a command has a name, its rules
-- (options) and subcommands; `subcommand_of` says which subcommand words name, and with which
-- rows (an option's id, and the values after it or else its defaults).
use Rattle.std.specs.Prelude.{◌≡◌, ℕ, ◌≤◌, List, [], ◌∷◌, Option, Some, None, Ok, true, codes}
use Rattle.std.specs.Prelude.{String, string_bytes, Bool, false, ◌||◌, bytes_eq, map, unwrap_or}
use Rattle.std.specs.Global.{Global}
use Rattle.std.specs.Option.{option_map, option_map_or}
use Rattle.std.specs.Str.Parse.{ParsesUnsigned}
use Rattle.clap.specs.Words.{App, Row, Rule, Text, all_of, first_of, new_app, new_rule, one_of}
use Rattle.clap.specs.Words.{subcommand_of, subcommand_rows_of, with_rule, with_subcommand}
use Rattle.clap.specs.declared.parser.matches.ArgMatches.{ArgMatches}
use Rattle.clap.specs.declared.builder.action.ArgAction.TheVariants.{Append, SetTrue}
use Rattle.clap.specs.declared.builder.value_parser.ValueParser.TheVariants.{Unsigned}
use Rattle.cli_words.specs.declared.team_files.TeamFiles.{TeamFiles}
use Rattle.cli_words.specs.declared.request.Request.{Request}
use Rattle.cli_words.specs.declared.request.Request.TheVariants.{Check, Build, Verify}
use Rattle.cli_words.specs.declared.request.Request.TheVariants.{Run, Judge, Rules, Upgrade}
use Rattle.cli_words.specs.declared.request.Request.TheVariants.{Explain, Lint, Names, Import}

-- an option `--name`, of one value
abbrev pub option_rule : Text → Rule
option_rule name = record (new_rule name) { long = Some name; value_names = 1 }

-- an option `--name`, without a value
abbrev pub flag_rule : Text → Rule
flag_rule name = record (new_rule name) { long = Some name; action = Some SetTrue }

-- an option `--name`, of one value, which may be given again and again
abbrev pub many_rule : Text → Rule
many_rule name = record (option_rule name) { action = Some Append }

-- a file of a text, which may be given again and again; whether it has to be hangs on `--axi`
abbrev pub sva_rule : Rule
sva_rule = record (many_rule (codes "sva")) { is_free = false }

-- a file, which has to be given
abbrev pub file_rule : Text → Rule
file_rule name = record (option_rule name) { required = true }

-- a file that a word alone names, which has to be given
abbrev pub word_rule : Text → Rule
word_rule name = record (new_rule name) { value_names = 1; required = true }

-- files that words alone name, of which there has to be one
abbrev pub words_rule : Text → Rule
words_rule name = record (word_rule name) { action = Some Append }

-- a port file, which may be left out
abbrev pub axi_rule : Rule
axi_rule = option_rule (codes "axi")

-- an option with a number from 1 to the most, and the default where it isn't given
abbrev pub number_rule : Text → Text → ℕ → Rule
number_rule name default most = record (option_rule name) {
  defaults = default ∷ [];
  parser = Some (Unsigned 1 most);
}

-- the number of workers, 1 to 64, 4 where it isn't given
abbrev pub workers_rule : Rule
workers_rule = number_rule (codes "workers") (codes "4") 64

-- a window's size, 1 to 65,536, 1,024 where it isn't given
abbrev pub window_rule : Rule
window_rule = number_rule (codes "window") (codes "1024") 65536

-- a clock, which may be left out
abbrev pub start_rule : Rule
start_rule = record (option_rule (codes "start")) {
  parser = Some (Unsigned 0 281474976710655);
}

-- how many attempts are explained at most, 1 to 65,536, 1 where it isn't given
abbrev pub most_rule : Rule
most_rule = number_rule (codes "most") (codes "1") 65536

-- what stands for an open end, 1 to 127, which may be left out
abbrev pub bound_rule : Rule
bound_rule = record (option_rule (codes "bound")) { parser = Some (Unsigned 1 127) }

-- a command with an option for the dump, and another one
abbrev pub dump_app : Text → Rule → App
dump_app name other = with_rule (with_rule (new_app name) (file_rule (codes "vcd"))) other

-- a command that reads a dump, texts and ports
abbrev pub text_app : Text → App
text_app name = with_rule (dump_app name sva_rule) axi_rule

-- an option that is tied to others: it wants one of them, or can't stand beside them
abbrev pub tied : Rule → Rule
tied rule = record rule { is_free = false }

-- a command that reads a dump, and texts and ports, or a team's files and how names in them are
-- looked up
abbrev pub scoped_text_app : Text → App
scoped_text_app name =
    with_rule
    (with_rule (with_rule (text_app name) (tied (many_rule (codes "sv"))))
    (tied (option_rule (codes "scope")))) (tied bound_rule)

-- with all options for a team's files
abbrev pub team_app : Text → App
team_app name =
    with_rule
    (with_rule (with_rule (scoped_text_app name) (tied (option_rule (codes "clock"))))
    (tied (many_rule (codes "define")))) (tied (flag_rule (codes "split")))

-- with options for the assertions that are judged
abbrev pub chosen_app : Text → App
chosen_app name =
    with_rule (with_rule (team_app name) (many_rule (codes "only")))
    (flag_rule (codes "keep-going"))

-- with options for files into which other forms of the report are written
abbrev pub check_app : App
check_app =
    let team = with_rule (with_rule (chosen_app (codes "check")) workers_rule) window_rule in
    with_rule
    (with_rule (with_rule team (option_rule (codes "junit"))) (option_rule (codes "json")))
    (option_rule (codes "html"))

abbrev pub build_app : App
build_app =
    with_rule (with_rule (text_app (codes "build")) (file_rule (codes "name")))
    (file_rule (codes "out"))

abbrev pub verify_app : App
verify_app = with_rule (new_app (codes "verify")) (word_rule (codes "code"))

abbrev pub run_app : App
run_app =
    with_rule (with_rule (dump_app (codes "run") (file_rule (codes "code"))) workers_rule)
    window_rule

abbrev pub judge_app : App
judge_app = text_app (codes "judge")

abbrev pub explain_app : App
explain_app =
    let wanted = with_rule (with_rule (chosen_app (codes "explain")) start_rule) most_rule in
    with_rule wanted (option_rule (codes "gtkw"))

abbrev pub lint_app : App
lint_app = team_app (codes "lint")

abbrev pub names_app : App
names_app =
    with_rule (with_rule (with_rule (new_app (codes "names")) (file_rule (codes "vcd")))
    (option_rule (codes "match"))) (option_rule (codes "scope"))

-- with the files, and how names in them are looked up
abbrev pub scoped_app : App
scoped_app =
    with_rule
    (with_rule (with_rule (new_app (codes "import")) (words_rule (codes "files")))
    (option_rule (codes "scope"))) bound_rule

abbrev pub import_app : App
import_app =
    with_rule
    (with_rule
    (with_rule (with_rule scoped_app (option_rule (codes "vcd"))) (option_rule (codes "clock")))
    (many_rule (codes "define"))) (flag_rule (codes "split"))

abbrev pub rules_app : App
rules_app = with_rule (new_app (codes "rules")) (file_rule (codes "axi"))

abbrev pub upgrade_app : App
upgrade_app =
    with_rule (with_rule (new_app (codes "upgrade")) (word_rule (codes "code")))
    (file_rule (codes "out"))

-- `svamon`, which has a version and wants a subcommand
abbrev pub svamon_top : App
svamon_top = record (new_app (codes "svamon")) {
  top = record (new_app (codes "svamon")).top { has_version = true; subcommand_required = true };
}

-- with the first three of its commands
abbrev pub first_app : App
first_app =
    let first_two = with_subcommand (with_subcommand svamon_top check_app.top) build_app.top in
    with_subcommand first_two verify_app.top

abbrev pub svamon_app : App
svamon_app =
    let first_two = with_subcommand (with_subcommand svamon_top check_app.top) build_app.top in
    let first_four = with_subcommand (with_subcommand first_two verify_app.top) run_app.top in
    let first_six = with_subcommand (with_subcommand first_four judge_app.top) rules_app.top in
    let first_eight =
    with_subcommand (with_subcommand first_six upgrade_app.top) explain_app.top in
    let first_ten = with_subcommand (with_subcommand first_eight lint_app.top) names_app.top in
    with_subcommand first_ten import_app.top

-- what the rows give for an option, which is there or not
abbrev pub Gives : Text → List Row → Option (String Global) → Type 0
Gives name rows given = first_of name rows ≡ option_map string_bytes given

-- the texts that the rows give for an option, which may be none
abbrev pub GivesAll : Text → List Row → List (String Global) → Type 0
GivesAll name rows given = map string_bytes given ≡ unwrap_or (all_of name rows) []

-- whether the rows give an option without a value
abbrev pub GivesFlag : Text → List Row → Bool → Type 0
GivesFlag name rows given =
    given ≡ option_map_or (λ t. bytes_eq t (codes "true")) (first_of name rows) false

-- the number from 1 to a limit that the rows give for an option, in decimal digits
pub record IsNumber (name : Text) (limit : ℕ) (rows : List Row) (number : ℕ) : Type 0 where
  pub text : Text
  pub given : one_of name rows ≡ Some text
  pub digits : ParsesUnsigned {E = Unit {0}} 64 10 text (Ok number)
  pub least : 1 ≤ number
  pub most : number ≤ limit

-- the number that the rows give for an option, in decimal digits, where they give one
abbrev pub GivesNumber : Text → List Row → Option ℕ → Type 0
GivesNumber name rows None = first_of name rows ≡ None
GivesNumber name rows (Some number) =
    (text : Text) × (one_of name rows ≡ Some text)
    × ParsesUnsigned {E = Unit {0}} 64 10 text (Ok number)

-- what the rows give for an open end, from 1 to 127, where they give it
abbrev pub GivesBound : List Row → Option ℕ → Type 0
GivesBound rows None = GivesNumber (codes "bound") rows None
GivesBound rows (Some number) =
    GivesNumber (codes "bound") rows (Some number) × (1 ≤ number) × (number ≤ 127)

-- how many workers there are to be, and how many clocks a window is to have
abbrev pub HasTeam : List Row → ℕ → ℕ → Type 0
HasTeam rows workers window =
    IsNumber (codes "workers") 64 rows workers × IsNumber (codes "window") 65536 rows window

-- a dump, texts, and ports if there are any
abbrev pub HasText : List Row → String Global → List (String Global) → Option (String Global)
    → Type 0
HasText rows vcd sva axi =
    Gives (codes "vcd") rows (Some vcd) × GivesAll (codes "sva") rows sva
    × Gives (codes "axi") rows axi

-- which assertions are judged: those of some names alone, and whether without what is refused
abbrev pub HasChoice : List Row → List (String Global) → Bool → Type 0
HasChoice rows only keep_going =
    GivesAll (codes "only") rows only × GivesFlag (codes "keep-going") rows keep_going

-- an assertion's name, and the file to write
abbrev pub HasOutput : List Row → String Global → String Global → Type 0
HasOutput rows name out =
    Gives (codes "name") rows (Some name) × Gives (codes "out") rows (Some out)

-- which attempts are explained: those that began at a clock, if one is given, and how many at most
abbrev pub HasWanted : List Row → Option ℕ → ℕ → Type 0
HasWanted rows start most =
    GivesNumber (codes "start") rows start × IsNumber (codes "most") 65536 rows most

-- a dump, and which of its names are told: those with a text in them, and in a scope, if any
abbrev pub HasNames : List Row → String Global → Option (String Global) → Option (String Global)
    → Type 0
HasNames rows vcd matching scope =
    Gives (codes "vcd") rows (Some vcd) × Gives (codes "match") rows matching
    × Gives (codes "scope") rows scope

-- a team's files by the option or the words of a name, and how they are read: in which scope names
-- are looked up, what an open end is, whose clock counts, which macros are defined, and whether
-- what is too heavy becomes two
pub record HasTeamFiles (name : Text) (rows : List Row) (team : TeamFiles) : Type 0 where
  pub files : GivesAll name rows team.files.items
  pub scope : Gives (codes "scope") rows team.scope
  pub bound : GivesBound rows team.bound
  pub clock : Gives (codes "clock") rows team.clock
  pub define : GivesAll (codes "define") rows team.define.items
  pub split : GivesFlag (codes "split") rows team.split

-- the files into which other forms of the report are written, if there are any
abbrev pub HasForms : List Row → Option (String Global) → Option (String Global)
    → Option (String Global) → Type 0
HasForms rows junit json html =
    Gives (codes "junit") rows junit × Gives (codes "json") rows json
    × Gives (codes "html") rows html

-- a dump, and a program to run over it
abbrev pub HasProgram : List Row → String Global → String Global → Type 0
HasProgram rows vcd code =
    Gives (codes "vcd") rows (Some vcd) × Gives (codes "code") rows (Some code)

-- the command that makes such a request
abbrev pub command_of : Request → Text
command_of (Check vcd sva axi team only keep_going workers window junit json html) = codes "check"
command_of (Build vcd sva axi name out) = codes "build"
command_of (Verify code) = codes "verify"
command_of (Run vcd code workers window) = codes "run"
command_of (Judge vcd sva axi) = codes "judge"
command_of (Explain vcd sva axi team only keep_going start most gtkw) = codes "explain"
command_of (Lint vcd sva axi team) = codes "lint"
command_of (Names vcd matching scope) = codes "names"
command_of (Import team vcd) = codes "import"
command_of (Rules axi) = codes "rules"
command_of (Upgrade code out) = codes "upgrade"

-- the request has what the rows of its command give
abbrev pub IsGiven : List Row → Request → Type 0
IsGiven rows (Check vcd sva axi team only keep_going workers window junit json html) =
    HasText rows vcd sva.items axi × HasTeamFiles (codes "sv") rows team
    × HasChoice rows only.items keep_going × HasTeam rows workers window
    × HasForms rows junit json html
IsGiven rows (Build vcd sva axi name out) =
    HasText rows vcd sva.items axi × HasOutput rows name out
IsGiven rows (Verify code) = Gives (codes "code") rows (Some code)
IsGiven rows (Run vcd code workers window) =
    HasProgram rows vcd code × HasTeam rows workers window
IsGiven rows (Judge vcd sva axi) = HasText rows vcd sva.items axi
IsGiven rows (Explain vcd sva axi team only keep_going start most gtkw) =
    HasText rows vcd sva.items axi × HasTeamFiles (codes "sv") rows team
    × HasChoice rows only.items keep_going × HasWanted rows start most
    × Gives (codes "gtkw") rows gtkw
IsGiven rows (Lint vcd sva axi team) =
    HasText rows vcd sva.items axi × HasTeamFiles (codes "sv") rows team
IsGiven rows (Names vcd matching scope) = HasNames rows vcd matching scope
IsGiven rows (Import team vcd) =
    HasTeamFiles (codes "files") rows team × Gives (codes "vcd") rows vcd
IsGiven rows (Rules axi) = Gives (codes "axi") rows (Some axi)
IsGiven rows (Upgrade code out) =
    Gives (codes "code") rows (Some code) × Gives (codes "out") rows (Some out)

-- a request of the command of this name, by its rows
pub record IsRequest (name : Text) (rows : List Row) (request : Request) : Type 0 where
  pub command : command_of request ≡ name
  pub given : IsGiven rows request

-- the command that was entered makes this request, of its rows
pub record IsNamed (matches : ArgMatches) (request : Request) : Type 0 where
  pub rows : List Row
  pub entered : subcommand_rows_of matches ≡ Some (command_of request, rows)
  pub given : IsGiven rows request

-- the first word after the program's name asks for its version
abbrev pub asks_for_version : List Text → Bool
asks_for_version [] = false
asks_for_version (name ∷ []) = false
asks_for_version (name ∷ word ∷ words) =
    bytes_eq word (codes "--version") || bytes_eq word (codes "-V")

-- the words ask for this: they name its command, with these rows
pub record IsAsked (words : List Text) (request : Request) : Type 0 where
  pub rows : List Row
  pub named : subcommand_of svamon_app words ≡ Some (command_of request, rows)
  pub given : IsGiven rows request
