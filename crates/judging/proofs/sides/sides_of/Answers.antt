use Rattle.std.proofs.Common.{◌≡◌, ◌+◌, ◌&&◌, nat_le, List, Bool, length, subst, ap, ◌∙◌, arith, ℕ}
use Rattle.assertions.specs.declared.sequence.Boolean.{Boolean}
use Rattle.assertions.specs.Segments.{is_match}
use Rattle.assertions.specs.Shapes.{shape}
use Rattle.assertions.specs.Verdicts.{antecedent_of}
use Rattle.judging.specs.Tables.{marks, seen_value, held_at, IsRow, IsRelation}
use Rattle.judging.proofs.DecisionLaws.{first_row, leading}
use Rattle.judging.proofs.sides.sides_of.Goals as goal

pub returns : goal.returns
returns c =
    let values = c.args.seen.now.values in
    let value = seen_value values in
    let h = held_at values in
    let n = length values in
    let r = antecedent_of c.args.assertion.now in
    let q = shape c.args.assertion.now.antecedent in
    let s = shape c.args.assertion.now.consequent in
    let count = c.max-count.result + 1 in
    let room = c.len-below.result + c.most_ticks-2.result + 1 in
    let ends = c.in_ok-ends.ends.items in
    let len : c.len-below.result ≡ n = c.len-below.ensures.len in
    let start =
    subst (λ (l : List Bool). IsRelation (is_match h q) l c.in_ok-antecedents.antecedents)
    c.as_slice.ensures.value c.in_ok-antecedents.ensures in
    let found =
    (first_row Boolean value n q count c.in_ok-start.start.items c.row.result.now c.in_ok-antecedents.antecedents
    (omega arith) c.in_ok-start.ensures start c.row.ensures).1 in
    record {
      seen = omega arith;
      long = omega arith;
      wide = omega arith;
      ends = leading Boolean value n r count c.row.result.now ends c.in_ok-ends.ensures found;
      obliged =
          subst
          (λ (p : ℕ × List Bool).
          IsRow (λ e. nat_le (e + 1) p.0 && marks p.1 (e + 1)) room c.in_ok-obligations.obligations.items)
          (ap (λ (k : ℕ). (k, c.as_slice-2.result.now)) len ∙ ap (λ (l : List Bool). (n, l)) c.as_slice-2.ensures.value)
          c.in_ok-obligations.ensures;
      consequents =
          subst (λ (l : List Bool). IsRelation (is_match h s) l c.in_ok-consequents.consequents)
          c.as_slice-3.ensures.value c.in_ok-consequents.ensures;
    }
