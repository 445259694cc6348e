use Rattle.std.proofs.Common.{◌+◌, map, drop, arith}
use Rattle.parser_grammar.specs.ReadExpressions.{links_of, parts_of}
use Rattle.parser_grammar.specs.Views.{tree_of, link_of}
use Rattle.types_names.specs.Views.{scope_of}
use Rattle.types_names.proofs.Lists.{links-at, parts-at, when_ok}
use Rattle.types_names.proofs.TreeSteps.{is-Concatenation, is-Chain, is-Choice}
use Rattle.types_signals.proofs.SeeLaws.{width-concatenation, width-chain, fault-concatenation, fault-chain}
use Rattle.types_signals.proofs.SeeLaws.{fault-choice, link-step, part-step, link-fault-step, part-fault-step}
use Rattle.types_signals.proofs.SeeLaws.{small-step}
use Rattle.types_signals.proofs.expression.+expressions.Goals as goal

pub see-returns-in_ok-whole-in-Concatenation-clause-width :
    goal.see-returns-in_ok-whole-in-Concatenation-clause-width
see-returns-in_ok-whole-in-Concatenation-clause-width t c =
    let k = c.in-Concatenation in
    let is =
    is-Concatenation c.args.expr.now k.token k.first k.parts c.deref.result.now
    c.deref-in-Concatenation.result.now k.is c.deref.ensures c.deref-in-Concatenation.ensures.value in
    width-concatenation (scope_of c.args.scope.now) _ k.token _ _ c.in_ok-first-in-Concatenation.first.width _ is
    c.in_ok-first-in-Concatenation.ensures.width c.in_ok-whole-in-Concatenation.ensures.width

pub see-returns-in_ok-whole-in-Concatenation-clause-fault :
    goal.see-returns-in_ok-whole-in-Concatenation-clause-fault
see-returns-in_ok-whole-in-Concatenation-clause-fault t c =
    let k = c.in-Concatenation in
    let is =
    is-Concatenation c.args.expr.now k.token k.first k.parts c.deref.result.now
    c.deref-in-Concatenation.result.now k.is c.deref.ensures c.deref-in-Concatenation.ensures.value in
    let held =
    width-concatenation (scope_of c.args.scope.now) _ k.token _ _ c.in_ok-first-in-Concatenation.first.width _ is
    c.in_ok-first-in-Concatenation.ensures.width c.in_ok-whole-in-Concatenation.ensures.width in
    fault-concatenation (scope_of c.args.scope.now) c.args.sought _ k.token _ _
    c.in_ok-whole-in-Concatenation.whole.width c.wide_fault-wide.result c.in_ok-first-in-Concatenation.first.fault
    c.in_ok-whole-in-Concatenation.whole.fault _ is held
    c.wide_fault-wide.ensures c.in_ok-first-in-Concatenation.ensures.fault c.in_ok-whole-in-Concatenation.ensures.fault
    c.earlier.ensures

pub see-returns-in_ok-first-in-Chain-clause-width :
    goal.see-returns-in_ok-first-in-Chain-clause-width
see-returns-in_ok-first-in-Chain-clause-width t c =
    let k = c.in-Chain in
    let is =
    is-Chain c.args.expr.now k.first k.links c.deref-in-Chain.result.now c.deref-in-Chain-2.result.now k.is
    c.deref-in-Chain.ensures c.deref-in-Chain-2.ensures.value in
    when_ok c.see_links.result
    (λ r h. width-chain (scope_of c.args.scope.now) _ _ _ c.in_ok-first-in-Chain.first.width r.width is
    c.in_ok-first-in-Chain.ensures.width h) c.see_links.ensures.width

pub see-returns-in_ok-first-in-Chain-clause-fault :
    goal.see-returns-in_ok-first-in-Chain-clause-fault
see-returns-in_ok-first-in-Chain-clause-fault t c =
    let k = c.in-Chain in
    let is =
    is-Chain c.args.expr.now k.first k.links c.deref-in-Chain.result.now c.deref-in-Chain-2.result.now k.is
    c.deref-in-Chain.ensures c.deref-in-Chain-2.ensures.value in
    when_ok c.see_links.result
    (λ r h. fault-chain (scope_of c.args.scope.now) c.args.sought _ _ _ c.in_ok-first-in-Chain.first.fault r.fault
    is c.in_ok-first-in-Chain.ensures.fault h) c.see_links.ensures.fault

pub see-returns-in_ok-no-in-Choice-clause-fault : goal.see-returns-in_ok-no-in-Choice-clause-fault
see-returns-in_ok-no-in-Choice-clause-fault t c =
    let k = c.in-Choice in
    let is =
    is-Choice c.args.expr.now k.condition k.yes k.no c.deref-in-Choice.result.now c.deref-in-Choice-2.result.now
    c.deref-in-Choice-3.result.now k.is c.deref-in-Choice.ensures c.deref-in-Choice-2.ensures
    c.deref-in-Choice-3.ensures in
    fault-choice (scope_of c.args.scope.now) c.args.sought _ _ _ _ c.in_ok-condition-in-Choice.condition.fault
    c.in_ok-yes-in-Choice.yes.fault c.in_ok-no-in-Choice.no.fault _ _ is
    c.in_ok-condition-in-Choice.ensures.fault c.in_ok-yes-in-Choice.ensures.fault c.in_ok-no-in-Choice.ensures.fault
    c.earlier-in-Choice.ensures c.earlier-in-Choice-2.ensures

pub see_links-loop-link-preserved : goal.see_links-loop-link-preserved
see_links-loop-link-preserved t c =
    let x = c.link-item.result in
    let rest = links_of (map link_of (drop (c.loop-link.link-index + 1) c.args.links.now)) in
    let at = links-at c.args.links.now c.loop-link.link-index x c.loop-link-test.true c.link-item.is in
    record {
      held =
          small-step (scope_of c.args.scope.now) c.binary_of.result c.loop-link.whole.width
          c.in_ok-operand.operand.width _ _ c.loop-link.invariant.held c.in_ok-operand.ensures.width
          c.binary_width.ensures;
      width =
          link-step (scope_of c.args.scope.now) c.args.sought x.0 (tree_of x.1) rest _ c.loop-link.whole.width
          c.in_ok-operand.operand.width _ _ at c.in_ok-operand.ensures.width
          (rw (← c.binary_of.ensures) c.binary_width.ensures) c.loop-link.invariant.width;
      fault =
          link-fault-step (scope_of c.args.scope.now) c.args.sought x.0 (tree_of x.1) rest _ c.loop-link.whole.fault
          c.in_ok-operand.operand.fault _ _ at c.in_ok-operand.ensures.fault c.earlier.ensures
          c.loop-link.invariant.fault;
    }

pub see_parts-loop-part-preserved : goal.see_parts-loop-part-preserved
see_parts-loop-part-preserved t c =
    let x = c.part-item.result in
    let rest = parts_of (map tree_of (drop (c.loop-part.part-index + 1) c.args.parts.now)) in
    let at = parts-at c.args.parts.now c.loop-part.part-index x c.loop-part-test.true c.part-item.is in
    record {
      held = omega arith;
      width =
          part-step (scope_of c.args.scope.now) c.args.sought (tree_of x) rest _ c.loop-part.whole.width
          c.in_ok-operand.operand.width _ _ at c.in_ok-operand.ensures.width c.min.ensures
          c.loop-part.invariant.width;
      fault =
          part-fault-step (scope_of c.args.scope.now) c.args.sought (tree_of x) rest _ c.loop-part.whole.fault
          c.in_ok-operand.operand.fault _ _ at c.in_ok-operand.ensures.fault c.earlier.ensures
          c.loop-part.invariant.fault;
    }
