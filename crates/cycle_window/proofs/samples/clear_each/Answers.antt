use Rattle.std.proofs.Common.{◌≡◌, ◌∙◌, ◌<◌, Some, length, sym, ap, arith}
use Rattle.std.specs.Prelude.{slice_get}
use Rattle.std.proofs.lemmas.List.{length-set}
use Rattle.std.proofs.lemmas.Option.{slice_get-get_or, slice_get_within}
use Rattle.cycle_window.specs.declared.samples.Samples.{Samples}
use Rattle.cycle_window.specs.Samples.{IsCleared}
use Rattle.cycle_window.proofs.SampleLaws.{get-other, to-more}
use Rattle.cycle_window.proofs.samples.clear_each.Goals as goal

pub loop-place-preserved : goal.loop-place-preserved
loop-place-preserved c =
    let n = c.loop-place.place in
    let all = c.loop-place.all.items in
    let inv = c.loop-place.invariant in
    let one : Samples = c.index_mut.result.now in
    let new : Samples = c.clear.new.self in
    let inside : n < length all = omega (arith, inv.long, c.args.all.now.ok.0, c.loop-place-test.true) in
    let at : slice_get c.args.all.now.items n ≡ Some one =
    sym (inv.rest n (omega arith)) ∙ slice_get-get_or all n one inside
    ∙ ap (λ (s : Samples). Some s) (sym c.index_mut.ensures.value) in
    record {
      long = length-set all n new ∙ inv.long;
      first = to-more (λ i. IsCleared) c.args.all.now.items all n one new at c.clear.ensures
          inv.first;
      rest = λ i le.
          get-other all n i new (omega (arith, le)) ∙ inv.rest i (omega (arith, le));
    }

pub returns-clause-cleared : goal.returns-clause-cleared
returns-clause-cleared c = λ i s t was is.
    let inside = slice_get_within c.args.all.now.items i s was in
    c.loop-place.invariant.first i s t (omega (arith, inside, c.args.all.now.ok.0, c.loop-place-test.false)) was is
