use Rattle.std.proofs.Common.{refl}
use Rattle.parser_grammar.specs.Views.{tree_of}
use Rattle.types_names.specs.Columns.{signals}
use Rattle.types_names.specs.Views.{scope_of, columns_in}
use Rattle.types_names.proofs.Lists.{links-at, parts-at, when_ok}
use Rattle.types_names.proofs.TreeSteps.{is-Concatenation, is-Chain, is-Choice}
use Rattle.types_signals.proofs.ListingLaws.{listed-joined, listed-step, signals-concatenation, signals-chain}
use Rattle.types_signals.proofs.ListingLaws.{signals-choice, signals-link, signals-part}
use Rattle.types_signals.proofs.listing.+expressions.Goals as goal

pub list_expression-returns-in_ok-list_expression-in-Concatenation :
    goal.list_expression-returns-in_ok-list_expression-in-Concatenation
list_expression-returns-in_ok-list_expression-in-Concatenation t c =
    let k = c.in-Concatenation in
    let is =
    is-Concatenation c.args.expr.now k.field-0 k.first k.parts c.deref.result.now
    c.deref-in-Concatenation.result.now k.is c.deref.ensures c.deref-in-Concatenation.ensures.value in
    when_ok c.list_parts.result
    (λ r h. listed-joined _ _ _ (columns_in c.args.columns.now) (columns_in c.list_expression.new.columns)
    (columns_in c.list_parts.new.columns) (signals-concatenation (scope_of c.args.scope.now) _ _ _ _ is)
    c.in_ok-list_expression-in-Concatenation.ensures h) c.list_parts.ensures

pub list_expression-returns-in_ok-list_expression-in-Chain : goal.list_expression-returns-in_ok-list_expression-in-Chain
list_expression-returns-in_ok-list_expression-in-Chain t c =
    let k = c.in-Chain in
    let is =
    is-Chain c.args.expr.now k.first k.links c.deref-in-Chain.result.now c.deref-in-Chain-2.result.now k.is
    c.deref-in-Chain.ensures c.deref-in-Chain-2.ensures.value in
    when_ok c.list_links.result
    (λ r h. listed-joined _ _ _ (columns_in c.args.columns.now)
    (columns_in c.list_expression-in-Chain.new.columns) (columns_in c.list_links.new.columns)
    (signals-chain (scope_of c.args.scope.now) _ _ _ is) c.in_ok-list_expression-in-Chain.ensures h)
    c.list_links.ensures

pub list_expression-returns-in_ok-list_expression-in-Choice-2 :
    goal.list_expression-returns-in_ok-list_expression-in-Choice-2
list_expression-returns-in_ok-list_expression-in-Choice-2 t c =
    let k = c.in-Choice in
    let is =
    is-Choice c.args.expr.now k.condition k.yes k.no c.deref-in-Choice.result.now c.deref-in-Choice-2.result.now
    c.deref-in-Choice-3.result.now k.is c.deref-in-Choice.ensures c.deref-in-Choice-2.ensures
    c.deref-in-Choice-3.ensures in
    when_ok c.list_expression-in-Choice-3.result
    (λ r h. listed-joined _ _ _ (columns_in c.args.columns.now) (columns_in c.list_expression-in-Choice.new.columns)
    (columns_in c.list_expression-in-Choice-3.new.columns) (signals-choice (scope_of c.args.scope.now) _ _ _ _ is)
    c.in_ok-list_expression-in-Choice.ensures
    (listed-joined (signals (scope_of c.args.scope.now) (tree_of c.deref-in-Choice-2.result.now))
    (signals (scope_of c.args.scope.now) (tree_of c.deref-in-Choice-3.result.now)) _
    (columns_in c.list_expression-in-Choice.new.columns) (columns_in c.list_expression-in-Choice-2.new.columns)
    (columns_in c.list_expression-in-Choice-3.new.columns) (record { is = refl })
    c.in_ok-list_expression-in-Choice-2.ensures h))
    c.list_expression-in-Choice-3.ensures

pub list_links-loop-link-preserved : goal.list_links-loop-link-preserved
list_links-loop-link-preserved t c =
    let x = c.link-item.result in
    let at = links-at c.args.links.now c.loop-link.link-index x c.loop-link-test.true c.link-item.is in
    listed-step _ _ _ (columns_in c.loop-link.columns) _ _
    (signals-link (scope_of c.args.scope.now) _ x.0 (tree_of x.1) _ at) c.in_ok-list_expression.ensures
    c.loop-link.invariant

pub list_parts-loop-part-preserved : goal.list_parts-loop-part-preserved
list_parts-loop-part-preserved t c =
    let x = c.part-item.result in
    let at = parts-at c.args.parts.now c.loop-part.part-index x c.loop-part-test.true c.part-item.is in
    listed-step _ _ _ (columns_in c.loop-part.columns) _ _ (signals-part (scope_of c.args.scope.now) _ (tree_of x) _ at)
    c.in_ok-list_expression.ensures c.loop-part.invariant
