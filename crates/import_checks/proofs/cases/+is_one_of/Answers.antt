use Rattle.std.proofs.Common.{◌≡◌, ◌+◌, ◌-◌, arith, rules, subst}
use Rattle.import_trees.specs.declared.operator.Infix.TheVariants as infixes
use Rattle.import_elaboration.specs.declared.value.Value.TheVariants as values
use Rattle.import_checks.specs.Properties.{IsOneOf, IsTest, one_test, more_tests}
use Rattle.import_checks.proofs.PartLaws.{value_as}
use Rattle.import_checks.proofs.cases.+is_one_of.Goals as goal

pub returns-then-count-eq1 : goal.returns-then-count-eq1
returns-then-count-eq1 t c = λ yes. rw c.if-count-eq1.true (one_test (c.is_test.ensures yes))

pub returns-else-not-is_test : goal.returns-else-not-is_test
returns-else-not-is_test t c =
    λ yes. let o = c.args.parts.now in
    let k = c.in-Some-Infix-Or-default-default in
    let is : k.field-0 ≡ values.Infix infixes.Or k.before k.test = search rules in
    let whole = value_as o c.args.whole k.field-0 (values.Infix infixes.Or k.before k.test) k.ensures is in
    let e : c.args.count - 1 + 1 ≡ c.args.count = omega arith in
    let at : c.in-Some.last ≡ c.args.first + (c.args.count - 1) = omega (arith, c.in-Some.ensures) in
    let test = subst (λ n. IsTest o k.test c.args.value n) at
    (c.is_test-in-Some-Infix-Or-default-default.ensures (search rules)) in
    subst (λ n. IsOneOf o c.args.value c.args.first n c.args.whole) e
    (more_tests (c.is_one_of.ensures yes) test whole)
