use Rattle.std.proofs.Common.{◌∙◌, sym, ap, codes, Option, option_map, false}
use Rattle.std.specs.Option.{option_map_or}
use Rattle.std.specs.Str.{bytes_eq}
use Rattle.clap.proofs.WalkLemmas.{first_value-rows}
use Rattle.clap.specs.Words.{Text, found_of}
use Rattle.cli_words.proofs.read.is_given.Goals as goal

pub returns-in-Some : goal.returns-in-Some
returns-in-Some c =
    c.eq.ensures
    ∙ ap (λ (o : Option Text). option_map_or (λ t. bytes_eq t (codes "true")) o false)
    (sym (ap (option_map (λ s. s.now)) c.in-Some.is) ∙ c.get_str.ensures
    ∙ first_value-rows (found_of c.args.options.now) c.args.name.now)

pub returns-in-None : goal.returns-in-None
returns-in-None c =
    ap (λ (o : Option Text). option_map_or (λ t. bytes_eq t (codes "true")) o false)
    (sym (ap (option_map (λ s. s.now)) c.in-None.is) ∙ c.get_str.ensures
    ∙ first_value-rows (found_of c.args.options.now) c.args.name.now)
