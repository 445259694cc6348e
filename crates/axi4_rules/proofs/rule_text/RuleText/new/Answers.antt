use Rattle.std.proofs.Common.{◌∙◌, ap, refl}
use Rattle.axi4_rules.specs.Texts.{tokens}
use Rattle.axi4_rules.proofs.TokenLaws.{tokens-nil}
use Rattle.axi4_rules.proofs.rule_text.RuleText.new.Goals as goal

pub invariant_of-result : goal.invariant_of-result
invariant_of-result c = λ more. rw (c.new.ensures.bytes, tokens-nil) refl

pub returns : goal.returns
returns c = ap tokens c.new.ensures.bytes ∙ tokens-nil
