use Rattle.std.proofs.Common.{◌∙◌, ◌++◌, sym, ap, map}
use Rattle.axi4_rules.proofs.ListLaws.{filled_skips, filled_more}
use Rattle.axi4_rules.proofs.text.without_empty.Goals as goal

pub loop-text-preserved-then-is_empty : goal.loop-text-preserved-then-is_empty
loop-text-preserved-then-is_empty c =
    c.loop-text.invariant
    ∙ ap (λ l. map (λ t. t.now) c.loop-text.found.items ++ l)
    (filled_skips c.args.texts.now c.loop-text.text-index _ c.loop-text-test.true
    (sym c.is_empty.ensures ∙ c.if-is_empty.true))

pub loop-text-preserved : goal.loop-text-preserved
loop-text-preserved c =
    c.loop-text.invariant
    ∙ filled_more c.args.texts.now c.loop-text.found.items _ c.loop-text.text-index _ c.loop-text-test.true
    (sym c.is_empty.ensures ∙ c.if-is_empty.false) c.in_ok-push.ensures.items
