use Rattle.std.proofs.Common.{◌≡◌, ◌∙◌, ◌<◌, ℕ, List, [], length, get_or, arith, subst, sym, ap}
use Rattle.std.proofs.lemmas.List.{get_or_default, take_all, length-set, length-map}
use Rattle.vcd_reader.specs.declared.variable.VarId.{VarId}
use Rattle.cycle_window.specs.Picks.{ArePicks}
use Rattle.cycle_window.specs.Variables.{places, AreCodesBelow}
use Rattle.cycle_window.proofs.PickLaws.{shared-more, bindable-grown, picks-none}
use Rattle.cycle_window.proofs.shared.shared_among.Goals as goal

abbrev none : VarId
none = record { place = 0 }

pub loop-variable-init : goal.loop-variable-init
loop-variable-init c = record {
  bindable = λ i v lt. absurd (omega arith);
  wide = subst (λ (n : ℕ). AreCodesBelow c.args.dump.now c.args.wanted.now n)
      (sym c.in_ok-likely.ensures) c.table_len.ensures;
  picks = subst (λ (ps : List ℕ). ArePicks (places c.new-variables.result.items) ps [])
      (sym c.in_ok-picks.ensures.items) (picks-none _);
}

pub loop-variable-preserved : goal.loop-variable-preserved
loop-variable-preserved c =
    let old = c.loop-variable.invariant in
    let i = c.loop-variable.variable-index in
    let wanted = c.args.wanted.now in
    let lt : i < length wanted = omega arith in
    let v = get_or wanted i none in
    let here = get_or_default wanted i none v lt in
    let placed = c.in_ok-place.ensures in
    record {
      bindable = bindable-grown c.args.dump.now c.loop-variable.variables.items
          c.place_of.new.variables.items v old.bindable (c.requires i none lt) placed.same
          placed.new;
      wide = subst (λ (n : ℕ). AreCodesBelow c.args.dump.now wanted n) (sym (length-set _ _ _))
          old.wide;
      picks = shared-more c.loop-variable.variables.items c.place_of.new.variables.items
          c.loop-variable.picks.items _ wanted i c.in_ok-place.place v lt here old.picks placed.more
          placed.same placed.inside placed.here c.in_ok-push.ensures.items;
    }

pub invariant_of-result : goal.invariant_of-result
invariant_of-result c =
    let vs = c.loop-variable.variables.items in
    let long : length (places vs) ≡ length vs = length-map vs (λ (v : VarId). v.place) in
    record {
      below = λ i lt.
          let b = c.loop-variable.invariant.picks.below i lt in omega (arith, b, long);
    }

pub returns-clause-same : goal.returns-clause-same
returns-clause-same c =
    c.loop-variable.invariant.picks.stand
    ∙ ap places (take_all c.loop-variable.variable-index c.args.wanted.now (omega arith))
