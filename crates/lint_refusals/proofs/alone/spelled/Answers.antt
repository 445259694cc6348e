use Rattle.std.proofs.Common.{◌∙◌, List, ℕ, sym, ap}
use Rattle.vcd_reader.specs.Held.{variables_of}
use Rattle.parser_grammar.specs.Views.{items_of}
use Rattle.suite_over_dump.specs.Dumps.{width_named}
use Rattle.lint_refusals.specs.Alone.{clockless}
use Rattle.lint_refusals.specs.Refused.{is_one_bit}
use Rattle.lint_refusals.proofs.alone.spelled.Goals as goal

pub returns : goal.returns
returns c =
    let vs = variables_of c.args.front.now.meant.dump.now in
    clockless c.args.tokens.now (items_of c.args.file.now) c.requires
    (ap (λ (path : List ℕ). is_one_bit (width_named vs path)) (sym (c.as_str.ensures.value ∙ c.in_ok-clock.ensures))
    ∙ sym c.is_clock.ensures ∙ c.if-is_clock.false) c.in_ok-refusal.ensures
