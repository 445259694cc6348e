use Rattle.std.proofs.Common.{
  ◌≡◌,
  ◌∙◌,
  ◌+◌,
  ◌<◌,
  ◌++◌,
  ◌∷◌,
  [],
  ℕ,
  List,
  true,
  false,
  sym,
  ap,
  arith,
  length,
  suc,
  get_or,
  append_assoc,
}
use Rattle.std.proofs.lemmas.List.{append-nil}
use Rattle.vcd_reader.specs.declared.step.Change.{Change}
use Rattle.vcd_reader.specs.declared.step.Step.{Step}
use Rattle.vcd_reader.specs.Variables.{size_of}
use Rattle.vcd_reader.specs.Held.{steps_in, variables_of}
use Rattle.cycle_window.specs.Ticks.{is_tick, ticks_below}
use Rattle.cycle_window.specs.Changes.{changes_to, last_of}
use Rattle.cycle_window.proofs.LastLaws.{last_of-code, changes_to-more}
use Rattle.cycle_window.proofs.TickLaws.{ticks-yes, ticks-no}
use Rattle.cycle_window.proofs.HeldLaws.{edge-tick}
use Rattle.cycle_window.proofs.clocks.ticks_between.Goals as goal

pub loop-k-init : goal.loop-k-init
loop-k-init c = record {
  inside = c.requires.order;
  last = c.change_before-last.ensures
      ∙ ap (λ (xs : List Step). last_of c.args.code (changes_to xs c.args.from)) c.steps-steps.ensures;
  ticks = λ c' h.
      ap (λ (xs : List ℕ). ticks_below c'.steps c.args.code c.args.from ++ xs)
      c.new-ticks.ensures.items ∙ append-nil _;
}

pub is_edge-edge-requires-clause-before : goal.is_edge-edge-requires-clause-before
is_edge-edge-requires-clause-before c = λ x e.
    last_of-code c.args.code (changes_to (steps_in c.args.dump.now) c.loop-k.k) x
    (sym c.loop-k.invariant.last ∙ e) ∙ c.requires.code

pub is_edge-edge-requires-clause-after : goal.is_edge-edge-requires-clause-after
is_edge-edge-requires-clause-after c = λ x e.
    last_of-code c.args.code _ x
    (sym (c.last_change-after.ensures (changes_to (steps_in c.args.dump.now) c.loop-k.k)
    (sym c.loop-k.invariant.last)) ∙ e) ∙ c.requires.code

pub loop-k-preserved-then-not-edge : goal.loop-k-preserved-then-not-edge
loop-k-preserved-then-not-edge c =
    let S = steps_in c.args.dump.now in
    let steps = c.steps-steps.ensures in
    let lt : c.loop-k.k < length S = omega (arith, ap (λ (xs : List Step). length xs) steps) in
    let at : c.index-steps-k.result ≡ get_or S c.loop-k.k c.index-steps-k.result =
    c.index-steps-k.is
    ∙ ap (λ (xs : List Step). get_or xs c.loop-k.k c.index-steps-k.result) steps in
    let changes : c.deref.result.now ≡ c.index-steps-k.result.changes.items =
    c.deref.ensures.value ∙ ap (λ (s : Step). s.changes.items) (sym c.index-steps-k.is) in
    let after : c.last_change-after.result ≡ last_of c.args.code (changes_to S (c.loop-k.k + 1)) =
    c.last_change-after.ensures (changes_to S c.loop-k.k) (sym c.loop-k.invariant.last)
    ∙ ap (λ (xs : List Change). last_of c.args.code (changes_to S c.loop-k.k ++ xs)) changes
    ∙ ap (last_of c.args.code)
    (sym (changes_to-more S c.loop-k.k c.index-steps-k.result lt at)) in
    record {
      inside = omega arith;
      last = after;
      ticks = λ c' h.
          let edge : false ≡ is_tick c'.steps c.args.code c.loop-k.k =
          sym c.if-not-edge.true
          ∙ edge-tick c.args.dump.now c' h c.args.code c.loop-k.k
          (size_of (variables_of c.args.dump.now) c.args.clock.place) c.loop-k.last
          c.last_change-after.result c.is_edge-edge.result c.requires.bit
          c.loop-k.invariant.last after c.is_edge-edge.ensures in
          c.loop-k.invariant.ticks c' h ∙ sym (ticks-no c'.steps c.args.code c.loop-k.k (sym edge))
          ∙ ap (ticks_below c'.steps c.args.code)
          (let e : suc c.loop-k.k ≡ c.loop-k.k + 1 = omega arith in e);
    }

pub loop-k-preserved : goal.loop-k-preserved
loop-k-preserved c =
    let S = steps_in c.args.dump.now in
    let steps = c.steps-steps.ensures in
    let lt : c.loop-k.k < length S = omega (arith, ap (λ (xs : List Step). length xs) steps) in
    let at : c.index-steps-k.result ≡ get_or S c.loop-k.k c.index-steps-k.result =
    c.index-steps-k.is
    ∙ ap (λ (xs : List Step). get_or xs c.loop-k.k c.index-steps-k.result) steps in
    let changes : c.deref.result.now ≡ c.index-steps-k.result.changes.items =
    c.deref.ensures.value ∙ ap (λ (s : Step). s.changes.items) (sym c.index-steps-k.is) in
    let after : c.last_change-after.result ≡ last_of c.args.code (changes_to S (c.loop-k.k + 1)) =
    c.last_change-after.ensures (changes_to S c.loop-k.k) (sym c.loop-k.invariant.last)
    ∙ ap (λ (xs : List Change). last_of c.args.code (changes_to S c.loop-k.k ++ xs)) changes
    ∙ ap (last_of c.args.code)
    (sym (changes_to-more S c.loop-k.k c.index-steps-k.result lt at)) in
    record {
      inside = omega arith;
      last = after;
      ticks = λ c' h.
          let edge : true ≡ is_tick c'.steps c.args.code c.loop-k.k =
          sym c.if-not-edge.false
          ∙ edge-tick c.args.dump.now c' h c.args.code c.loop-k.k
          (size_of (variables_of c.args.dump.now) c.args.clock.place) c.loop-k.last
          c.last_change-after.result c.is_edge-edge.result c.requires.bit
          c.loop-k.invariant.last after c.is_edge-edge.ensures in
          ap (λ (xs : List ℕ). ticks_below c'.steps c.args.code c.args.from ++ xs)
          c.in_ok-push.ensures.items
          ∙ sym (append_assoc (ticks_below c'.steps c.args.code c.args.from) c.loop-k.ticks.items
          (c.loop-k.k ∷ []))
          ∙ ap (λ (xs : List ℕ). xs ++ c.loop-k.k ∷ []) (c.loop-k.invariant.ticks c' h)
          ∙ sym (ticks-yes c'.steps c.args.code c.loop-k.k (sym edge))
          ∙ ap (ticks_below c'.steps c.args.code)
          (let e : suc c.loop-k.k ≡ c.loop-k.k + 1 = omega arith in e);
    }

pub returns : goal.returns
returns c = λ c' h.
    let end : c.loop-k.k ≡ c.args.to = omega arith in
    c.loop-k.invariant.ticks c' h ∙ ap (ticks_below c'.steps c.args.code) end
