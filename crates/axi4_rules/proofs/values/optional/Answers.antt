use Rattle.std.proofs.Common.{map, None, Some, ◌∙◌, ap, sym, ◌++◌}
use Rattle.std.specs.Option.{option_map, option_to_list}
use Rattle.axi4_rules.specs.Lines.{optional, values}
use Rattle.axi4_rules.proofs.ListLaws.{drop-end}
use Rattle.axi4_rules.proofs.FieldLaws.{lacks, strips, values-next, first_value, second_value, all_values}
use Rattle.axi4_rules.proofs.values.optional.Goals as goal

pub loop-field-preserved-in_default : goal.loop-field-preserved-in_default
loop-field-preserved-in_default c =
    c.loop-field.invariant
    ∙ ap (λ l. option_to_list (option_map (λ t. t.now) c.loop-field.found) ++ l)
    (values-next c.args.key.now c.args.fields.now c.loop-field.field-index _ None c.loop-field-test.true
    (lacks _ _ c.in_default.ensures.cases))

pub loop-field-preserved : goal.loop-field-preserved
loop-field-preserved c =
    first_value c.loop-field.found _ _ c.in-Some.value.now (sym c.is_some.ensures ∙ c.if-is_some.false)
    (c.loop-field.invariant
    ∙ ap (λ l. option_to_list (option_map (λ t. t.now) c.loop-field.found) ++ l)
    (values-next c.args.key.now c.args.fields.now c.loop-field.field-index _ (Some c.in-Some.value.now)
    c.loop-field-test.true (strips _ _ _ c.in-Some.ensures.cases)))

pub returns-then-is_some : goal.returns-then-is_some
unfolding optional
returns-then-is_some c =
    sym
    (second_value c.loop-field.found _ _ c.in-Some.value.now (sym c.is_some.ensures ∙ c.if-is_some.true)
    (c.loop-field.invariant
    ∙ ap (λ l. option_to_list (option_map (λ t. t.now) c.loop-field.found) ++ l)
    (values-next c.args.key.now c.args.fields.now c.loop-field.field-index _ (Some c.in-Some.value.now)
    c.loop-field-test.true (strips _ _ _ c.in-Some.ensures.cases))))

pub returns : goal.returns
unfolding optional
returns c =
    all_values c.loop-field.found _
    (c.loop-field.invariant
    ∙ ap (λ l. option_to_list (option_map (λ t. t.now) c.loop-field.found) ++ values c.args.key.now
    (map (λ f. f.now) l)) (drop-end c.args.fields.now c.loop-field.field-index c.loop-field-test.false))
