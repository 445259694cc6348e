use Rattle.std.proofs.Common.{◌≡◌, rules, true, false}
use Rattle.std.specs.Prelude.{unwrap_or, is_some, None}
use Rattle.import_elaboration.specs.declared.part.Part.TheVariants as part
use Rattle.import_properties.specs.declared.condition.Condition.TheVariants.{Leaf}
use Rattle.import_properties.specs.Properties.{form_of}
use Rattle.import_checks.specs.Properties.{endless, is_plain, is_strong, is_not, is_if, is_if_else, is_overlapped}
use Rattle.import_checks.specs.Properties.{is_next_tick, is_pair, is_implies_after, is_followed_by}
use Rattle.import_checks.specs.Properties.{is_next_followed_by}
use Rattle.import_checks.specs.Properties.{is_nexttime, is_always, is_eventually, is_case}
use Rattle.import_checks.specs.Properties.{rest_of, no_rest, no_item, no_values, item}
use Rattle.import_checks.proofs.PartLaws.{part_as}
use Rattle.import_checks.proofs.CaseLaws.{rest_more, rest_last}
use Rattle.import_checks.proofs.properties.+properties.Goals as goal

pub is_property-returns-in-Some-Strength : goal.is_property-returns-in-Some-Strength
is_property-returns-in-Some-Strength t c =
    λ yes.
    let at-is : c.in-Some-Strength.field-0 ≡ part.Strength c.in-Some-Strength.body = search rules in
    let at = part_as c.args.parts.now c.args.id c.in-Some-Strength.field-0
    (part.Strength c.in-Some-Strength.body) c.in-Some-Strength.ensures at-is in
    is_strong at (c.is_property.ensures yes)

pub is_property-returns-in-Sequence : goal.is_property-returns-in-Sequence
is_property-returns-in-Sequence t c =
    λ yes.
    rw c.in-Sequence.is (is_plain (c.is_sequence.ensures yes))

pub is_implied-returns-else-not-is_sequence : goal.is_implied-returns-else-not-is_sequence
is_implied-returns-else-not-is_sequence t c =
    λ yes.
    let at-is : c.in-Some-Implication.field-0 ≡ part.Implication c.in-Some-Implication.first
    c.in-Some-Implication.second = search rules in
    let at = part_as c.args.parts.now c.args.id c.in-Some-Implication.field-0
    (part.Implication c.in-Some-Implication.first c.in-Some-Implication.second) c.in-Some-Implication.ensures at-is
    in
    is_overlapped at (c.is_sequence.ensures (search rules)) (c.is_property.ensures yes)

pub is_next_implied-returns : goal.is_next_implied-returns
is_next_implied-returns t c =
    λ yes.
    let at-is : c.in-Some-NextImplication.field-0 ≡ part.NextImplication c.in-Some-NextImplication.first
    c.in-Some-NextImplication.second = search rules in
    let at = part_as c.args.parts.now c.args.id c.in-Some-NextImplication.field-0
    (part.NextImplication c.in-Some-NextImplication.first c.in-Some-NextImplication.second)
    c.in-Some-NextImplication.ensures at-is in
    is_next_tick at (c.is_sequence.ensures (search rules)) (c.is_property.ensures yes)

pub is_followed-returns : goal.is_followed-returns
is_followed-returns t c =
    λ yes.
    let at-is : c.in-Some-FollowedBy.field-0 ≡ part.FollowedBy c.in-Some-FollowedBy.first c.in-Some-FollowedBy.second =
    search rules in
    let at = part_as c.args.parts.now c.args.id c.in-Some-FollowedBy.field-0
    (part.FollowedBy c.in-Some-FollowedBy.first c.in-Some-FollowedBy.second) c.in-Some-FollowedBy.ensures at-is in
    is_followed_by at (c.is_sequence.ensures (search rules)) (c.is_property.ensures yes)

pub is_next_followed-returns : goal.is_next_followed-returns
is_next_followed-returns t c =
    λ yes.
    let at-is : c.in-Some-NextFollowedBy.field-0 ≡ part.NextFollowedBy c.in-Some-NextFollowedBy.first
    c.in-Some-NextFollowedBy.second = search rules in
    let at = part_as c.args.parts.now c.args.id c.in-Some-NextFollowedBy.field-0
    (part.NextFollowedBy c.in-Some-NextFollowedBy.first c.in-Some-NextFollowedBy.second)
    c.in-Some-NextFollowedBy.ensures at-is in
    is_next_followed_by at (c.is_sequence.ensures (search rules)) (c.is_property.ensures yes)

pub is_if-returns : goal.is_if-returns
is_if-returns t c =
    λ yes.
    let at-is : c.in-Some-If.field-0 ≡ part.If c.in-Some-If.value c.in-Some-If.inside = search rules in
    let at = part_as c.args.parts.now c.args.id c.in-Some-If.field-0
    (part.If c.in-Some-If.value c.in-Some-If.inside) c.in-Some-If.ensures at-is in
    is_if at (c.is_truth.ensures (search rules)) (c.is_property.ensures yes)

pub is_if_else-returns : goal.is_if_else-returns
is_if_else-returns t c =
    λ yes.
    let at-is : c.in-Some-IfElse.field-0 ≡ part.IfElse c.in-Some-IfElse.value c.in-Some-IfElse.first
    c.in-Some-IfElse.second = search rules in
    let at = part_as c.args.parts.now c.args.id c.in-Some-IfElse.field-0
    (part.IfElse c.in-Some-IfElse.value c.in-Some-IfElse.first c.in-Some-IfElse.second) c.in-Some-IfElse.ensures
    at-is in
    is_if_else at (c.is_truth.ensures (search rules)) (c.is_property.ensures (search rules))
    (c.is_property-2.ensures yes)

pub is_pair-returns : goal.is_pair-returns
is_pair-returns t c =
    λ yes.
    is_pair c.args.pair c.in-Some.ensures (c.is_property.ensures (search rules)) (c.is_property-2.ensures yes)

pub is_not-returns : goal.is_not-returns
is_not-returns t c =
    λ yes.
    let at-is : c.in-Some-Not.field-0 ≡ part.Not c.in-Some-Not.inside = search rules in
    let at = part_as c.args.parts.now c.args.id c.in-Some-Not.field-0
    (part.Not c.in-Some-Not.inside) c.in-Some-Not.ensures at-is in
    is_not at (c.is_property.ensures yes)

pub is_next-returns : goal.is_next-returns
is_next-returns t c =
    λ yes.
    let same : c.in-Some-Next.ticks ≡ c.args.count = search rules in
    let at-is : c.in-Some-Next.field-0 ≡ part.Next c.in-Some-Next.ticks c.in-Some-Next.inside = search rules in
    let at = part_as c.args.parts.now c.args.id c.in-Some-Next.field-0
    (part.Next c.in-Some-Next.ticks c.in-Some-Next.inside) c.in-Some-Next.ensures at-is in
    rw same at (is_nexttime at (c.is_property.ensures yes))

pub is_always-returns : goal.is_always-returns
is_always-returns t c =
    λ yes.
    let at-is : c.in-Some-Always.field-0 ≡ part.Always c.in-Some-Always.count c.in-Some-Always.inside = search rules in
    let at = part_as c.args.parts.now c.args.id c.in-Some-Always.field-0
    (part.Always c.in-Some-Always.count c.in-Some-Always.inside) c.in-Some-Always.ensures at-is in
    let range : c.unwrap_or.result ≡ unwrap_or c.in-Some-Always.count endless = search rules in
    is_always at (rw range at (c.has_count.ensures (search rules))) (c.is_property.ensures yes)

pub is_eventually-returns : goal.is_eventually-returns
is_eventually-returns t c =
    λ yes.
    let at-is : c.in-Some-Eventually.field-0 ≡ part.Eventually c.in-Some-Eventually.count c.in-Some-Eventually.inside =
    search rules in
    let at = part_as c.args.parts.now c.args.id c.in-Some-Eventually.field-0
    (part.Eventually c.in-Some-Eventually.count c.in-Some-Eventually.inside) c.in-Some-Eventually.ensures at-is in
    let range : c.unwrap_or.result ≡ unwrap_or c.in-Some-Eventually.count endless = search rules in
    is_eventually at (rw range at (c.has_count.ensures (search rules))) (c.is_property.ensures yes)

pub is_case-returns-in-Some : goal.is_case-returns-in-Some
is_case-returns-in-Some t c =
    λ yes.
    let at-is : c.in-Some-Case.field-0 ≡ part.Case c.in-Some-Case.value c.in-Some-Case.last = search rules in
    let at = part_as c.args.parts.now c.args.id c.in-Some-Case.field-0
    (part.Case c.in-Some-Case.value c.in-Some-Case.last) c.in-Some-Case.ensures at-is in
    is_case at (c.is_rest.ensures yes) c.in-Some.ensures

pub is_implied-returns-else-not-is_boolean : goal.is_implied-returns-else-not-is_boolean
is_implied-returns-else-not-is_boolean t c =
    λ yes.
    let at-is : c.in-Some-Implies.field-0 ≡ part.Implies c.in-Some-Implies.first c.in-Some-Implies.second = search
    rules in
    let at = part_as c.args.parts.now c.args.id c.in-Some-Implies.field-0
    (part.Implies c.in-Some-Implies.first c.in-Some-Implies.second) c.in-Some-Implies.ensures at-is in
    rw c.in-Some.ensures (is_implies_after at (c.is_boolean.ensures (search rules)) (c.is_property-in-Some.ensures yes))

pub is_rest-returns-in-Nothing : goal.is_rest-returns-in-Nothing
is_rest-returns-in-Nothing t c =
    λ yes.
    let none : c.args.last ≡ None = search rules in
    rw (none, c.in-Nothing.is) no_rest

pub is_rest-returns-then-is_some : goal.is_rest-returns-then-is_some
is_rest-returns-then-is_some t c =
    λ yes.
    let k = c.in-Some-choice_at in
    let some : is_some k.choice.values ≡ true = search rules in
    rw c.in-Some.is
    (rest_more c.args.parts.now c.args.bound c.in-Some.id k.choice k.ensures (rest_of c.args.rest) some
    (c.is_rest.ensures yes))

pub is_rest-returns-in-Asked : goal.is_rest-returns-in-Asked
is_rest-returns-in-Asked t c =
    λ yes.
    let k = c.in-Some-choice_at in
    let none : is_some k.choice.values ≡ false = search rules in
    rw (c.in-Some.is, c.in-Asked.is)
    (rest_last c.args.parts.now c.args.bound c.in-Some.id k.choice k.ensures (form_of c.in-Asked.property.now) none
    (c.is_property.ensures yes))

pub peeled-returns-in_default : goal.peeled-returns-in_default
peeled-returns-in_default t c =
    let none : c.args.last ≡ None = search rules in
    rw none no_item

pub peeled-returns-in_default-values : goal.peeled-returns-in_default-values
peeled-returns-in_default-values t c =
    let none : c.in_ok-choice.choice.values ≡ None = search rules in
    rw c.in-Some.is (no_values c.in_ok-choice.ensures none c.in_ok-left.ensures)

pub peeled-returns-else-not-is_property : goal.peeled-returns-else-not-is_property
peeled-returns-else-not-is_property t c =
    let k = c.in-If-Leaf-default in
    let leaf : k.field-0 ≡ Leaf k.place = search rules in
    let left = rw (c.in-Asked.is, k.is, leaf) at c.in_ok-left.ensures in
    let body = rw c.deref.ensures at (c.is_property.ensures (search rules)) in
    rw c.in-Some.is
    (item c.in_ok-choice.ensures c.in-Some-values.is (c.is_one_of.ensures (search rules)) body left)

pub peeled-returns-else-not-is_property-2 : goal.peeled-returns-else-not-is_property-2
peeled-returns-else-not-is_property-2 t c =
    let k = c.in-IfElse-Leaf-default-default in
    let leaf : k.field-0 ≡ Leaf k.place = search rules in
    let left = rw (c.in-Asked.is, k.is, leaf) at c.in_ok-left.ensures in
    let body = rw c.deref-in-IfElse-Leaf-default-default.ensures
    at (c.is_property-in-IfElse-Leaf-default-default.ensures (search rules)) in
    rw (c.in-Some.is, c.deref-in-IfElse-Leaf-default-default-2.ensures)
    (item c.in_ok-choice.ensures c.in-Some-values.is
    (c.is_one_of-in-IfElse-Leaf-default-default.ensures (search rules)) body left)
