use Rattle.std.proofs.Common.{◌≡◌, ◌∙◌, ◌≤◌, ℕ, Option, Some, get_or, ap, sym, subst, arith, inl, inr}
use Rattle.std.specs.Prelude.{slice_get}
use Rattle.std.proofs.lemmas.List.{get_or_default}
use Rattle.std.proofs.lemmas.Option.{slice_get-get_or}
use Rattle.cycle_window.specs.declared.samples.Samples.{Samples}
use Rattle.cycle_window.specs.Samples.{stay_in, stay_at}
use Rattle.std.proofs.lemmas.Bool.{cases_lt}
use Rattle.cycle_window.proofs.picks.least_stay.Goals as goal

pub loop-pick-preserved : goal.loop-pick-preserved
loop-pick-preserved c =
    let old = c.loop-pick.invariant in
    let all = c.args.all.now in
    let picks = c.args.picks.now in
    let tick = c.args.tick in
    let here = c.loop-pick.pick-index in
    let p = get_or picks here 0 in
    let one : Samples = c.index-all-pick.result in
    let note = c.index.result.now in
    let at : slice_get all p ≡ Some one =
    slice_get-get_or all p one (c.requires.below here c.loop-pick-test.true)
    ∙ ap (λ (s : Samples). Some s) (sym c.index-all-pick.is) in
    let is : c.from.result ≡ stay_at all tick p =
    c.from.ensures ∙ c.index.ensures
    ∙ ap (λ (s : Samples). get_or s.stays.items tick note) (sym c.index-all-pick.is)
    ∙ get_or_default one.stays.items tick note 0 (c.requires.inside p one at)
    ∙ sym (ap (λ (o : Option Samples). stay_in o tick) at) in
    record {
      most = omega (arith, old.most, c.min-least.ensures);
      least = λ i lt. elim (cases_lt i here) [
        | inl less ↦ omega (arith, old.least i less, c.min-least.ensures)
        | inr more ↦
            let same : i ≡ here = omega (arith, lt, more) in
            subst (λ (k : ℕ). c.min-least.result ≤ stay_at all tick (get_or picks k 0)) (sym same)
            (omega (arith, is, c.min-least.ensures))
      ];
      greatest = λ n le notes.
          let before = old.greatest n le (λ i lt. notes i (omega (arith, lt))) in
          let own = notes here (omega arith) in
          omega (arith, before, own, c.min-least.ensures, is);
    }
