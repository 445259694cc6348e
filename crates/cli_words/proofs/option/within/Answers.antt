use Rattle.std.proofs.Common.{◌∙◌, ap, Some, Option}
use Rattle.clap.specs.declared.builder.value_parser.ValueParser.{ValueParser}
use Rattle.cli_words.proofs.option.within.Goals as goal

pub returns : goal.returns
returns c =
    let given = c.value_parser.ensures.given in
    c.value_parser.ensures.others
    ∙ ap (λ (p : Option ValueParser). record c.args.option { value_parser = p })
    (given.1 ∙ ap (λ (q : ValueParser). Some q) (given.2 ∙ c.unsigned.ensures))
