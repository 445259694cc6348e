use Rattle.std.proofs.Common.{◌∙◌, sym, ap, option_map}
use Rattle.clap.proofs.WalkLemmas.{first_value-rows, one_text-rows}
use Rattle.clap.specs.Words.{found_of, rows_of, one_text}
use Rattle.cli_words.proofs.NumberLaws.{number_given}
use Rattle.cli_words.proofs.read.given_number.Goals as goal

pub returns-in-None : goal.returns-in-None
returns-in-None c =
    sym (first_value-rows (found_of c.args.options.now) c.args.name.now) ∙ sym c.get_str.ensures
    ∙ ap (option_map (λ s. s.now)) c.in-None.is

pub returns-in-Some-get_one : goal.returns-in-Some-get_one
returns-in-Some-get_one c =
    let found = found_of c.args.options.now in
    let name = c.args.name.now in
    number_given name (one_text found name) (rows_of found) c.in-Some-get_one.number (sym (one_text-rows found name))
    c.in-Some-get_one.ensures.none (λ t e. (c.in-Some-get_one.ensures.value t e).0)
