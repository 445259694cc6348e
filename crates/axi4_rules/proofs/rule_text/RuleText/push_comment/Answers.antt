use Rattle.std.proofs.Common.{◌∙◌, ◌++◌, ap}
use Rattle.axi4_rules.specs.Texts.{tokens}
use Rattle.axi4_rules.proofs.TokenLaws.{tokens-comment}
use Rattle.axi4_rules.proofs.GrowthLaws.{nothing_added, not_true}
use Rattle.axi4_rules.proofs.rule_text.RuleText.push_comment.Goals as goal

pub returns : goal.returns
returns c =
    nothing_added c.push_line.result _ _ _ c.push_line.ensures
    (ap tokens (c.in_ok-push_str.ensures.bytes ∙ ap (λ l. l ++ c.args.comment.now) c.in_ok-line.ensures.ok)
    ∙ tokens-comment c.args.comment.now (not_true _ c.requires))
