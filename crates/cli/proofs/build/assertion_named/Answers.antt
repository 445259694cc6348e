use Rattle.std.proofs.Common.{◌≡◌, ◌∙◌, ◌+◌, ◌≤◌, List, sym, subst, take, length, string_bytes}
use Rattle.std.specs.List.{AllByRecursion}
use Rattle.std.specs.Cmp.Lexicographic.{same_text, other_text}
use Rattle.std.proofs.lemmas.List.{take_all}
use Rattle.assertions.specs.declared.assertion.Assertion.{Assertion}
use Rattle.report_programs.proofs.ListLaws.{at-place, up-to, program-pushed}
use Rattle.cli.proofs.build.assertion_named.Goals as goal

pub loop-assertion-init : goal.loop-assertion-init
loop-assertion-init c = tt

pub returns-then-eq : goal.returns-then-eq
returns-then-eq c =
    let all = c.args.suite.now.assertions.items in
    let i = c.loop-assertion.assertion-index in
    let a = c.assertion-item.result in
    record {
      place = i;
      is = at-place c.deref-assertion-items.result.now all i a c.deref-assertion-items.ensures.value
          c.loop-assertion-test.true c.assertion-item.is;
      named = sym c.as_str.ensures.value
          ∙ same_text c.as_str.result.now c.args.name.now c.if-eq.ensures;
    }

pub loop-assertion-preserved : goal.loop-assertion-preserved
loop-assertion-preserved c =
    let all = c.args.suite.now.assertions.items in
    let i = c.loop-assertion.assertion-index in
    let a = c.assertion-item.result in
    program-pushed (λ (it : Assertion). string_bytes it.name ≡ c.args.name.now → ⊥) (take i all)
    (take (i + 1) all) a
    (up-to c.deref-assertion-items.result.now all i a c.deref-assertion-items.ensures.value
    c.loop-assertion-test.true c.assertion-item.is)
    (λ same. other_text c.as_str.result.now c.args.name.now c.if-eq.ensures
    (c.as_str.ensures.value ∙ same))
    c.loop-assertion.invariant

pub returns : goal.returns
returns c =
    let all = c.args.suite.now.assertions.items in
    let i = c.loop-assertion.assertion-index in
    let over : length all ≤ i =
    subst (λ (xs : List Assertion). length xs ≤ i) c.deref-assertion-items.ensures.value
    c.loop-assertion-test.false in
    subst (AllByRecursion (λ (it : Assertion). string_bytes it.name ≡ c.args.name.now → ⊥))
    (take_all i all over) c.loop-assertion.invariant
