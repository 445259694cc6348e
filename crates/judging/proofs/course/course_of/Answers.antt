use Rattle.std.proofs.Common.{◌≡◌, ℕ, ◌+◌, ◌-◌, List, Bool, [], ◌∷◌, length, length-append, ap, ◌∙◌, arith}
use Rattle.std.specs.Prelude.{slice_get}
use Rattle.assertions.specs.Attempts.{decision}
use Rattle.assertions.specs.Shapes.{shape, value_in, is_true_at, expression_at}
use Rattle.assertions.specs.Verdicts.{antecedent_of}
use Rattle.expressions.specs.declared.expr.Expr.{Expr}
use Rattle.expressions.specs.Rows.{samples_of}
use Rattle.judging.specs.Tables.{HasSeen}
use Rattle.judging.proofs.DecisionLaws.{seen_more, found_here, found_later, seen_decides}
use Rattle.judging.proofs.course.course_of.Goals as goal

pub returns-in-Some-clause-seen : goal.returns-in-Some-clause-seen
returns-in-Some-clause-seen c =
    let all = c.args.suite.now.booleans.items in
    let places = c.args.assertion.now.booleans.items in
    let t = samples_of c.args.rows.now in
    let tick = c.loop-below.below - 1 in
    seen_more all places t c.args.start tick c.loop-below.seen.values c.push.new.self c.in_ok-values.values.items
    c.loop-below.invariant.seen c.in_ok-push.ensures.ok (omega arith)
    (λ i. c.in_ok-values.ensures i
    ∙ ap (λ (l : List Expr). is_true_at t (expression_at l (slice_get c.as_slice.result.now i)) tick)
    c.as_slice-all.ensures.value
    ∙ ap (λ (l : List ℕ). is_true_at t (expression_at all (slice_get l i)) tick) c.as_slice.ensures.value)

pub returns-in-Some-clause-found : goal.returns-in-Some-clause-found
returns-in-Some-clause-found c =
    let value =
    value_in c.args.suite.now.booleans.items c.args.assertion.now.booleans.items (samples_of c.args.rows.now) in
    let r = antecedent_of c.args.assertion.now in
    let s = shape c.args.assertion.now.consequent in
    let start = c.args.start in
    let below = c.loop-below.below in
    let long : start + length c.push.new.self ≡ below =
    omega (
      arith,
      c.loop-below.invariant.long,
      ap (λ (l : List (List Bool)). length l) c.in_ok-push.ensures.ok,
      length-append c.loop-below.seen.values (c.in_ok-values.values.items ∷ []),
    ) in
    found_here (λ n. decision value r s n start) (start + 1) below (c.args.end + 1) c.in-Some.decision (omega arith)
    c.loop-below.invariant.found
    (seen_decides value r s start below c.push.new.self c.in_ok-decision.field-0 (returns-in-Some-clause-seen c) long
    c.in_ok-decision.ensures ∙ c.in-Some.is)

pub loop-below-preserved : goal.loop-below-preserved
loop-below-preserved c =
    let all = c.args.suite.now.booleans.items in
    let places = c.args.assertion.now.booleans.items in
    let t = samples_of c.args.rows.now in
    let value = value_in all places t in
    let r = antecedent_of c.args.assertion.now in
    let s = shape c.args.assertion.now.consequent in
    let start = c.args.start in
    let below = c.loop-below.below in
    let tick = below - 1 in
    let seen : HasSeen value start c.push.new.self =
    seen_more all places t start tick c.loop-below.seen.values c.push.new.self c.in_ok-values.values.items
    c.loop-below.invariant.seen c.in_ok-push.ensures.ok (omega arith)
    (λ i. c.in_ok-values.ensures i
    ∙ ap (λ (l : List Expr). is_true_at t (expression_at l (slice_get c.as_slice.result.now i)) tick)
    c.as_slice-all.ensures.value
    ∙ ap (λ (l : List ℕ). is_true_at t (expression_at all (slice_get l i)) tick) c.as_slice.ensures.value) in
    let long : start + length c.push.new.self ≡ below =
    omega (
      arith,
      c.loop-below.invariant.long,
      ap (λ (l : List (List Bool)). length l) c.in_ok-push.ensures.ok,
      length-append c.loop-below.seen.values (c.in_ok-values.values.items ∷ []),
    ) in
    record {
      seen = seen;
      long = omega arith;
      found =
          found_later (λ n. decision value r s n start) (start + 1) below (c.args.end + 1) (omega arith)
          c.loop-below.invariant.found
          (seen_decides value r s start below c.push.new.self c.in_ok-decision.field-0 seen long
          c.in_ok-decision.ensures ∙ c.in_default.is);
    }
