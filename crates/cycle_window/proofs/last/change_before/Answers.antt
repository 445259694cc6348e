use Rattle.std.proofs.Common.{◌∙◌, ◌≡◌, [], List, sym, ap, refl, arith}
use Rattle.vcd_reader.specs.declared.step.Change.{Change}
use Rattle.vcd_reader.specs.declared.step.Step.{Step}
use Rattle.cycle_window.specs.Changes.{changes_to, last_of}
use Rattle.cycle_window.proofs.LastLaws.{last_of-step, or_else-some, or_else-not}
use Rattle.cycle_window.proofs.last.change_before.Goals as goal

pub returns-then-is_some : goal.returns-then-is_some
unfolding last_of
returns-then-is_some c =
    let last : c.last_change-last.result
    ≡ last_of c.args.code c.index-steps-at.result.changes.items =
    c.last_change-last.ensures [] refl
    ∙ ap (λ (xs : List Change). last_of c.args.code xs)
    (c.deref.ensures.value ∙ ap (λ (s : Step). s.changes.items) (sym c.index-steps-at.is)) in
    let here =
    last_of-step c.args.steps.now c.args.code c.loop-at.at c.index-steps-at.result
    c.last_change-last.result (omega arith) (omega arith) c.index-steps-at.is last in
    sym (c.loop-at.invariant.same ∙ here ∙ or_else-some _ _ (sym c.is_some.ensures ∙ c.if-is_some.true))

pub loop-at-preserved : goal.loop-at-preserved
unfolding last_of
loop-at-preserved c =
    let last : c.last_change-last.result
    ≡ last_of c.args.code c.index-steps-at.result.changes.items =
    c.last_change-last.ensures [] refl
    ∙ ap (λ (xs : List Change). last_of c.args.code xs)
    (c.deref.ensures.value ∙ ap (λ (s : Step). s.changes.items) (sym c.index-steps-at.is)) in
    let here =
    last_of-step c.args.steps.now c.args.code c.loop-at.at c.index-steps-at.result
    c.last_change-last.result (omega arith) (omega arith) c.index-steps-at.is last in
    record {
      inside = omega arith;
      same = c.loop-at.invariant.same ∙ here
          ∙ or_else-not _ _ (sym c.is_some.ensures ∙ c.if-is_some.false);
    }

pub returns : goal.returns
unfolding last_of changes_to
returns c =
    let e : c.loop-at.at ≡ 0 = omega arith in
    sym (c.loop-at.invariant.same
    ∙ ap (λ (n : _). last_of c.args.code (changes_to c.args.steps.now n)) e)
