use Rattle.std.proofs.Common.{false, sym, ◌∙◌, ap, arith, inl, inr}
use Rattle.std.proofs.lemmas.Option.{slice_get_past}
use Rattle.std.proofs.lemmas.Bool.{cases_lt}
use Rattle.assertions.specs.Shapes.{is_true_at, expression_at}
use Rattle.expressions.specs.Rows.{samples_of}
use Rattle.judging.proofs.RowLaws.{get_or_past}
use Rattle.judging.proofs.seen.values_at.Goals as goal

pub returns : goal.returns
returns c =
    λ i. elim (cases_lt i c.loop-place.place-index) [
      | inl below ↦ c.loop-place.invariant.each i below
      | inr past ↦
          let none = slice_get_past c.args.places.now i (omega arith) in
          get_or_past c.loop-place.values.items false i (omega (arith, c.loop-place.invariant.long))
          ∙ sym (ap (λ o. is_true_at (samples_of c.args.rows.now) (expression_at c.args.all.now o) c.args.tick) none)
    ]
