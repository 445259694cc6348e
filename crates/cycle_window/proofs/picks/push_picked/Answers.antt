use Rattle.std.proofs.Common.{◌≡◌, ◌∙◌, Option, Some, get_or, refl, ap, sym, arith}
use Rattle.std.specs.Prelude.{slice_get}
use Rattle.std.proofs.lemmas.List.{append-nil}
use Rattle.std.proofs.lemmas.Option.{slice_get-get_or}
use Rattle.cycle_window.specs.declared.samples.Samples.{Samples}
use Rattle.cycle_window.specs.Samples.{value_in, value_at}
use Rattle.cycle_window.specs.Values.{numbers}
use Rattle.cycle_window.proofs.PickLaws.{mapped-more}
use Rattle.cycle_window.proofs.picks.push_picked.Goals as goal

pub loop-pick-init : goal.loop-pick-init
loop-pick-init c = record { values = sym (append-nil _); len = omega arith; capacity = refl }

pub loop-pick-preserved : goal.loop-pick-preserved
loop-pick-preserved c =
    let old = c.loop-pick.invariant in
    let all = c.args.all.now in
    let picks = c.args.picks.now in
    let tick = c.args.tick in
    let i = c.loop-pick.pick-index in
    let p = get_or picks i 0 in
    let one : Samples = c.index-all-pick.result in
    let value = c.at.result in
    let at : slice_get all p ≡ Some one =
    slice_get-get_or all p one (c.requires.below i c.loop-pick-test.true)
    ∙ ap (λ (s : Samples). Some s) (sym c.index-all-pick.is) in
    let is : value ≡ value_at all tick p =
    c.at.ensures ∙ ap (λ (s : Samples). get_or (numbers s.values) tick 0) (sym c.index-all-pick.is)
    ∙ sym (ap (λ (o : Option Samples). value_in o tick) at) in
    record {
      values = mapped-more (value_at all tick) c.args.values.now.items c.loop-pick.values.items _ picks i
          value c.loop-pick-test.true is old.values c.push_reserved.ensures.items;
      len = omega (arith, c.push_reserved.ensures.len, old.len);
      capacity = c.push_reserved.ensures.capacity ∙ old.capacity;
    }
