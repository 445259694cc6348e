use Rattle.std.proofs.Common.{◌≡◌, length, sym, ◌∙◌, arith, below_more, refl, inl, inr}
use Rattle.std.proofs.Math.ListN.{get_or-append}
use Rattle.std.proofs.lemmas.Option.{slice_get_read, slice_get_past}
use Rattle.std.proofs.lemmas.Bool.{cases_lt}
use Rattle.expressions.proofs.RowLaws.{get_or_end, get_or_past}
use Rattle.expressions.proofs.counting.next_row.Goals as goal

pub loop-place-preserved : goal.loop-place-preserved
loop-place-preserved c =
    let long : length c.loop-place.row.items ≡ c.loop-place.place = omega (arith, c.loop-place.invariant.long) in
    record {
      long = omega (arith, c.in_ok-push.ensures.len, c.loop-place.invariant.long);
      each = below_more _ _
          (λ j below. rw c.in_ok-push.ensures.items (get_or-append c.loop-place.row.items _ 0 j (omega arith)
          ∙ c.loop-place.invariant.each j below))
          (let found =
          slice_get_read c.args.all.now (length c.args.all.now) c.loop-place.place c.index-all-place.result refl
          (omega arith) c.index-all-place.is in
          rw (c.in_ok-push.ensures.items, found)
          (get_or_end c.loop-place.row.items c.next.result 0 c.loop-place.place (sym long)
          ∙ rw c.cell-now.ensures at c.next.ensures));
    }

pub returns : goal.returns
returns c =
    let long : length c.loop-place.row.items ≡ c.loop-place.place = omega (arith, c.loop-place.invariant.long) in
    λ i. elim (cases_lt i c.loop-place.place) [
      | inl below ↦ c.loop-place.invariant.each i below
      | inr past ↦
          let no_counter = slice_get_past c.args.all.now i (omega arith) in
          rw no_counter (get_or_past c.loop-place.row.items 0 i (omega arith))
    ]
