use Rattle.std.proofs.Common.{◌∙◌, sym, refl, arith, ◌+◌, ◌&&◌, not}
use Rattle.assertions.specs.Quantifiers.{some_in}
use Rattle.assertions.proofs.Quantifiers.{first_true-found}
use Rattle.judging.specs.Tables.{marks, has_link}
use Rattle.judging.specs.Courses.{value_over}
use Rattle.judging.proofs.CauseLaws.{none_law, some_law}
use Rattle.judging.proofs.cause.cause_of.Goals as goal

pub ticks_with_end-requires : goal.ticks_with_end-requires
ticks_with_end-requires c = omega (arith, c.in_ok-seen.ensures.long, c.len-below.ensures.len, c.ranges.end.fits)

pub returns-in-None : goal.returns-in-None
returns-in-None c =
    let value = value_over c.args.suite.now c.args.rows.now c.args.assertion.now in
    none_law value c.args.assertion.now c.args.start c.args.end c.in_ok-seen.seen.values c.in_ok-sides.sides
    c.in_ok-seen.ensures.seen c.in_ok-seen.ensures.long c.in_ok-sides.ensures c.first_broken.result c.len-below.result
    c.as_slice-ends.result.now c.len-below.ensures.len c.as_slice-ends.ensures.value c.first_broken.ensures c.in-None.is

pub overflow_add-result : goal.overflow_add-result
overflow_add-result c =
    let sides = c.in_ok-sides.sides in
    let found =
    first_true-found 0 c.len-below.result
    (λ e. marks c.as_slice-ends.result.now (e + 1) && not (some_in e sides.room (has_link sides.consequents e)))
    c.in-Some.place (sym c.first_broken.ensures ∙ c.in-Some.is) in
    omega (arith, found.below, c.in_ok-seen.ensures.long, c.len-below.ensures.len, c.ranges.end.fits)

pub returns : goal.returns
returns c =
    let value = value_over c.args.suite.now c.args.rows.now c.args.assertion.now in
    some_law value c.args.assertion.now c.args.start c.args.end c.in_ok-seen.seen.values c.in_ok-sides.sides
    c.in_ok-seen.ensures.seen c.in_ok-seen.ensures.long c.in_ok-sides.ensures c.first_broken.result c.len-below.result
    c.as_slice-ends.result.now c.len-below.ensures.len c.as_slice-ends.ensures.value c.first_broken.ensures
    c.in-Some.place (record { ends = c.in_ok-ends-in-Some.ends; broken = c.args.start + c.in-Some.place })
    c.in-Some.is refl c.in_ok-ends-in-Some.ensures
