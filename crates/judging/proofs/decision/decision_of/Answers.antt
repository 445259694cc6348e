use Rattle.std.proofs.Common.{◌≡◌, ◌+◌, ◌&&◌, ◌||◌, not, Bool, List, length, ap, ◌∙◌}
use Rattle.assertions.specs.declared.sequence.Boolean.{Boolean}
use Rattle.assertions.specs.Quantifiers.{some_in, each_in}
use Rattle.assertions.specs.Attempts.{decide, decision, goes_on, has_end, is_failed, all_kept}
use Rattle.assertions.specs.Shapes.{shape}
use Rattle.assertions.specs.Verdicts.{antecedent_of}
use Rattle.judging.specs.Tables.{marks, has_link, seen_value}
use Rattle.judging.proofs.DecisionLaws.{goes_on_law, has_end_law, failed_law, kept_law}
use Rattle.judging.proofs.decision.decision_of.Goals as goal

pub returns : goal.returns
unfolding decision
returns c =
    let values = c.args.seen.now.values in
    let value = seen_value values in
    let n = length values in
    let r = antecedent_of c.args.assertion.now in
    let s = shape c.args.assertion.now.consequent in
    let sides = c.in_ok-sides.sides in
    let are = c.in_ok-sides.ensures in
    let there = sides.ends.items in
    let rows = sides.consequents in
    let len : c.len-below.result ≡ n = c.len-below.ensures.len in
    let same : c.as_slice-ends.result.now ≡ there = c.as_slice-ends.ensures.value in
    let all = c.outlook_of-all.result in
    let on : c.some_mark-goes_on.result ≡ goes_on value r n 0 =
    c.some_mark-goes_on.ensures
    ∙ ap (λ (l : List Bool). some_in (c.len-below.result + 1) sides.count (marks l)) same
    ∙ ap (λ k. some_in (k + 1) sides.count (marks there)) len
    ∙ goes_on_law Boolean value n r s sides.count sides.room there sides.obligations.items rows are.seen are.ends
    are.long in
    let ended : all.ends ≡ has_end value r n 0 =
    c.outlook_of-all.ensures.ends
    ∙ ap (λ (l : List Bool). some_in 0 c.len-below.result (λ e. marks l (e + 1))) same
    ∙ ap (λ k. some_in 0 k (λ e. marks there (e + 1))) len
    ∙ has_end_law Boolean value n r s sides.count sides.room there sides.obligations.items rows are.seen are.ends in
    let broken : all.broken ≡ is_failed value r s n 0 =
    c.outlook_of-all.ensures.broken
    ∙ ap (λ (l : List Bool). some_in 0 c.len-below.result
    (λ e. marks l (e + 1) && not (some_in e sides.room (has_link rows e)))) same
    ∙ ap (λ k. some_in 0 k (λ e. marks there (e + 1) && not (some_in e sides.room (has_link rows e)))) len
    ∙ failed_law Boolean value n r s sides.count sides.room there sides.obligations.items rows are.seen are.ends
    are.wide are.obliged are.consequents in
    let kept : all.kept ≡ all_kept value r s n 0 =
    c.outlook_of-all.ensures.kept
    ∙ ap (λ (l : List Bool). each_in 0 c.len-below.result
    (λ e. not (marks l (e + 1)) || some_in e (c.len-below.result + 1) (has_link rows e))) same
    ∙ ap (λ k. each_in 0 k (λ e. not (marks there (e + 1)) || some_in e (k + 1) (has_link rows e))) len
    ∙ kept_law Boolean value n r s sides.count sides.room there sides.obligations.items rows are.seen are.ends
    are.wide are.obliged are.consequents in
    c.choose.ensures
    ∙ ap (λ b. decide b c.some_mark-goes_on.result all.ends all.kept) broken
    ∙ ap (λ b. decide (is_failed value r s n 0) b all.ends all.kept) on
    ∙ ap (λ b. decide (is_failed value r s n 0) (goes_on value r n 0) b all.kept) ended
    ∙ ap (λ b. decide (is_failed value r s n 0) (goes_on value r n 0) (has_end value r n 0) b) kept
