use Rattle.std.proofs.Common.{◌∙◌, ◌+◌, sym, ap, map, drop}
use Rattle.axi4_rules.specs.Lines.{all_numbers}
use Rattle.axi4_rules.proofs.ListLaws.{with_front}
use Rattle.axi4_rules.proofs.NumberLaws.{number_more, numbers_end}
use Rattle.axi4_rules.proofs.values.numbers.Goals as goal

pub loop-text-preserved : goal.loop-text-preserved
loop-text-preserved c =
    let left = all_numbers (map (λ t. t.now) (drop (c.loop-text.text-index + 1) c.args.texts.now)) in
    c.loop-text.invariant
    ∙ number_more c.args.texts.now c.loop-text.text-index _ _ c.in-Some.number c.loop-text-test.true
    (sym c.number.ensures ∙ c.in-Some.is)
    ∙ ap (λ l. with_front l left) (sym c.in_ok-push-in-Some.ensures.items)

pub returns : goal.returns
returns c =
    sym (c.loop-text.invariant
    ∙ numbers_end c.args.texts.now c.loop-text.text-index c.loop-text.found.items c.loop-text-test.false)
