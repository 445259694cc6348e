use Rattle.std.proofs.Common.{◌∙◌, string_bytes}
use Rattle.axi4_rules.proofs.GrowthLaws.{stays_whole, line_added}
use Rattle.axi4_rules.proofs.rule_text.RuleText.push_line.Goals as goal

pub invariant_of-self : goal.invariant_of-self
invariant_of-self c =
    stays_whole c.push_str-2.result (string_bytes c.self.inside.text) _ c.as_str.result.now (string_bytes c.args.line)
    c.push_str-2.ensures.bytes (c.as_str.ensures.value ∙ c.in_ok-push_str.ensures.bytes) c.self.invariant

pub returns : goal.returns
returns c =
    line_added c.push_str-2.result (string_bytes c.self.inside.text) _ c.as_str.result.now (string_bytes c.args.line)
    c.args.self.now c.push_str-2.ensures.bytes (c.as_str.ensures.value ∙ c.in_ok-push_str.ensures.bytes)
    c.self.invariant c.self.view_is
