use Rattle.std.proofs.Common.{◌∙◌, sym}
use Rattle.std.specs.Prelude.{nat_eq}
use Rattle.std.specs.List.{starts_with}
use Rattle.std.proofs.lemmas.Str.Pattern.{starts_text}
use Rattle.axi4_rules.proofs.ListLaws.{any_seen_fails, any_seen_passes}
use Rattle.axi4_rules.proofs.draft.begins_with_any.Goals as goal

pub returns-then-starts_with : goal.returns-then-starts_with
returns-then-starts_with c =
    sym
    (c.loop-key.invariant
    ∙ any_seen_passes (starts_with nat_eq c.args.field.now) (λ k. k.now) c.args.keys.now c.loop-key.key-index _
    c.loop-key-test.true
    (sym (starts_text _ _ _ c.starts_with.ensures.cases) ∙ c.if-starts_with.true))

pub loop-key-preserved : goal.loop-key-preserved
loop-key-preserved c =
    c.loop-key.invariant
    ∙ any_seen_fails (starts_with nat_eq c.args.field.now) (λ k. k.now) c.args.keys.now c.loop-key.key-index _
    c.loop-key-test.true
    (sym (starts_text _ _ _ c.starts_with.ensures.cases) ∙ c.if-starts_with.false)
