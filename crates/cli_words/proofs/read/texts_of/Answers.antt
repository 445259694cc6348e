use Rattle.std.proofs.Common.{◌∙◌, [], sym, ap, List, Option, option_map, map, string_bytes}
use Rattle.std.specs.Prelude.{unwrap_or}
use Rattle.clap.proofs.WalkLemmas.{raw_values-rows}
use Rattle.clap.specs.Words.{Text, found_of}
use Rattle.cli_words.proofs.read.texts_of.Goals as goal

pub returns-in_ok-owned-in-Some : goal.returns-in_ok-owned-in-Some
returns-in_ok-owned-in-Some c =
    c.in_ok-owned-in-Some.ensures
    ∙ ap (λ (o : Option (List Text)). unwrap_or o [])
    (sym (ap (option_map (λ s. map (λ v. v.now) s.now)) c.in-Some.is) ∙ c.get_strs.ensures
    ∙ raw_values-rows (found_of c.args.options.now) c.args.name.now)

pub returns-in-None : goal.returns-in-None
returns-in-None c =
    ap (map string_bytes) c.new.ensures.items
    ∙ ap (λ (o : Option (List Text)). unwrap_or o [])
    (sym (ap (option_map (λ s. map (λ v. v.now) s.now)) c.in-None.is) ∙ c.get_strs.ensures
    ∙ raw_values-rows (found_of c.args.options.now) c.args.name.now)
