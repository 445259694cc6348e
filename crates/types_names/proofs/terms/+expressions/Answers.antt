use Rattle.std.proofs.Common.{rules, length, sym, ap, ◌∙◌, refl}
use Rattle.std.proofs.lemmas.Bool.{eqb-true, eqb-false}
use Rattle.parser_grammar.specs.declared.expression.ExprTree.TheViews.{the_lemmas}
use Rattle.parser_grammar.specs.Views.{tree_of}
use Rattle.expressions.specs.Terms as terms
use Rattle.expressions.specs.Terms.{Term}
use Rattle.expressions.specs.Expressions.{term_of}
use Rattle.types_names.specs.Meanings.{binary_term, unary_term, call_term}
use Rattle.types_names.specs.Views.{scope_of, columns_in}
use Rattle.types_names.proofs.Lists.{links-at, links-end, parts-at, parts-end, when_ok}
use Rattle.types_names.proofs.TreeSteps.{is-Number, is-Path, is-Concatenation, is-Past, is-Call, is-Unary}
use Rattle.types_names.proofs.TreeSteps.{is-Chain, is-Choice}
use Rattle.types_names.proofs.TypedLaws.{ready-concatenation, ready-past, ready-call, ready-unary, ready-chain}
use Rattle.types_names.proofs.TypedLaws.{ready-choice, ready-link, ready-part, path-sound, path-listed}
use Rattle.types_names.proofs.TypedLaws.{room-for-part, narrow-step, first-narrow, means-number, means-path}
use Rattle.types_names.proofs.TypedLaws.{means-concatenation, means-past, means-call, means-unary, means-chain}
use Rattle.types_names.proofs.TypedLaws.{means-choice, chains-step, chains-end, joins-step, joins-end}
use Rattle.types_names.proofs.TypedLaws.{joins-group, joins-more}
use Rattle.types_names.proofs.terms.+expressions.Goals as goal

pub chain-typed_expression-requires : goal.chain-typed_expression-requires
chain-typed_expression-requires t c =
    let x = c.link-item.result in
    let at = links-at c.args.links.now c.loop-link.link-index x c.loop-link-test.true c.link-item.is in
    let r =
    ready-link (scope_of c.args.scope.now) (columns_in c.args.columns.now) _ x.0 (tree_of x.1) _ at
    c.loop-link.invariant.sound c.loop-link.invariant.listed in
    (search (rules, the_lemmas), (r.0.sound, r.0.listed))

pub chain-loop-link-preserved : goal.chain-loop-link-preserved
chain-loop-link-preserved t c =
    let s = scope_of c.args.scope.now in
    let cs = columns_in c.args.columns.now in
    let x = c.link-item.result in
    let at = links-at c.args.links.now c.loop-link.link-index x c.loop-link-test.true c.link-item.is in
    let r = ready-link s cs _ x.0 (tree_of x.1) _ at c.loop-link.invariant.sound c.loop-link.invariant.listed in
    let made =
    c.in_ok-whole.ensures
    ∙ ap (λ op. binary_term op (term_of c.loop-link.whole) (term_of c.in_ok-operand.operand)) c.binary_of.ensures
    in
    record {
      sound = r.1.sound;
      listed = r.1.listed;
      means =
          λ e h. c.loop-link.invariant.means e
          (chains-step s cs _ x.0 (tree_of x.1) _ (term_of c.loop-link.whole) (term_of c.in_ok-operand.operand)
          (term_of c.in_ok-whole.whole) e at c.in_ok-operand.ensures made h);
    }

pub chain-returns : goal.chain-returns
chain-returns t c =
    c.loop-link.invariant.means (term_of c.loop-link.whole)
    (chains-end (scope_of c.args.scope.now) (columns_in c.args.columns.now) _ (term_of c.loop-link.whole)
    (links-end c.args.links.now c.loop-link.link-index c.loop-link-test.false))

pub join-returns-then-is_empty : goal.join-returns-then-is_empty
join-returns-then-is_empty t c =
    let none = eqb-true (length c.args.parts.now) 0 (sym c.is_empty.ensures ∙ c.if-is_empty.true) in
    when_ok c.group.result
    (λ e h. joins-group (scope_of c.args.scope.now) (columns_in c.args.columns.now) c.args.parts.now
    (term_of c.args.first) (term_of e) none h) c.group.ensures

pub join-typed_expression-requires : goal.join-typed_expression-requires
join-typed_expression-requires t c =
    let x = c.part-item.result in
    let at = parts-at c.args.parts.now c.loop-part.part-index x c.loop-part-test.true c.part-item.is in
    let r =
    ready-part (scope_of c.args.scope.now) (columns_in c.args.columns.now) _ (tree_of x) _ at
    c.loop-part.invariant.sound c.loop-part.invariant.listed in
    (search (rules, the_lemmas), (r.0.sound, r.0.listed))

pub join-concat-requires : goal.join-concat-requires
join-concat-requires t c =
    let x = c.part-item.result in
    let at = parts-at c.args.parts.now c.loop-part.part-index x c.loop-part-test.true c.part-item.is in
    room-for-part (scope_of c.args.scope.now) (columns_in c.args.columns.now) _ (tree_of x) _
    (term_of c.loop-part.whole) (term_of c.in_ok-operand.operand) at c.loop-part.invariant.narrow
    c.in_ok-operand.ensures

pub join-loop-part-preserved : goal.join-loop-part-preserved
join-loop-part-preserved t c =
    let s = scope_of c.args.scope.now in
    let cs = columns_in c.args.columns.now in
    let x = c.part-item.result in
    let at = parts-at c.args.parts.now c.loop-part.part-index x c.loop-part-test.true c.part-item.is in
    let r = ready-part s cs _ (tree_of x) _ at c.loop-part.invariant.sound c.loop-part.invariant.listed in
    record {
      sound = r.1.sound;
      listed = r.1.listed;
      narrow =
          narrow-step s cs _ (tree_of x) _ (term_of c.loop-part.whole) (term_of c.in_ok-operand.operand)
          (term_of c.in_ok-whole.whole) at c.loop-part.invariant.narrow c.in_ok-operand.ensures c.in_ok-whole.ensures;
      means =
          λ e h. c.loop-part.invariant.means e
          (joins-step s cs _ (tree_of x) _ (term_of c.loop-part.whole) (term_of c.in_ok-operand.operand)
          (term_of c.in_ok-whole.whole) e at c.in_ok-operand.ensures c.in_ok-whole.ensures h);
    }

pub join-returns : goal.join-returns
join-returns t c =
    let s = scope_of c.args.scope.now in
    let cs = columns_in c.args.columns.now in
    let some = eqb-false (length c.args.parts.now) 0 (sym c.is_empty.ensures ∙ c.if-is_empty.false) in
    joins-more s cs c.args.parts.now (term_of c.args.first) (term_of c.loop-part.whole) some
    (c.loop-part.invariant.means (term_of c.loop-part.whole)
    (joins-end s cs _ (term_of c.loop-part.whole)
    (parts-end c.args.parts.now c.loop-part.part-index c.loop-part-test.false)))

pub typed_expression-typed_path-requires-clause-sound : goal.typed_expression-typed_path-requires-clause-sound
typed_expression-typed_path-requires-clause-sound t c =
    path-sound (scope_of c.args.scope.now) (columns_in c.args.columns.now) _ _ _
    (is-Path c.args.expr.now c.in-Path.path c.in-Path.select c.in-Path.is) c.requires.sound

pub typed_expression-typed_path-requires-clause-listed : goal.typed_expression-typed_path-requires-clause-listed
typed_expression-typed_path-requires-clause-listed t c =
    path-listed (scope_of c.args.scope.now) (columns_in c.args.columns.now) _ _ _
    (is-Path c.args.expr.now c.in-Path.path c.in-Path.select c.in-Path.is) c.requires.listed

pub typed_expression-typed_expression-requires : goal.typed_expression-typed_expression-requires
typed_expression-typed_expression-requires t c =
    let k = c.in-Concatenation in
    let is =
    is-Concatenation c.args.expr.now k.field-0 k.first k.parts c.deref.result.now _ k.is c.deref.ensures refl in
    let r =
    ready-concatenation (scope_of c.args.scope.now) (columns_in c.args.columns.now) _ k.field-0 _ _ is
    c.requires.sound c.requires.listed in
    (search (rules, the_lemmas), (r.0.sound, r.0.listed))

pub typed_expression-join-requires : goal.typed_expression-join-requires
typed_expression-join-requires t c =
    let s = scope_of c.args.scope.now in
    let cs = columns_in c.args.columns.now in
    let k = c.in-Concatenation in
    let is =
    is-Concatenation c.args.expr.now k.field-0 k.first k.parts c.deref.result.now
    c.deref-in-Concatenation.result.now k.is c.deref.ensures c.deref-in-Concatenation.ensures.value in
    let r = ready-concatenation s cs _ k.field-0 _ _ is c.requires.sound c.requires.listed in (
      search (rules, the_lemmas),
      (
        r.1.sound,
        (
          r.1.listed,
          first-narrow s cs _ _ (term_of c.in_ok-first-in-Concatenation.first) c.in_ok-first-in-Concatenation.ensures
              r.2,
        ),
      ),
    )

pub typed_expression-typed_expression-requires-in-Past : goal.typed_expression-typed_expression-requires-in-Past
typed_expression-typed_expression-requires-in-Past t c =
    let k = c.in-Past in
    let is =
    is-Past c.args.expr.now k.field-0 k.operand k.ticks c.deref-in-Past.result.now k.is c.deref-in-Past.ensures in
    let r =
    ready-past (scope_of c.args.scope.now) (columns_in c.args.columns.now) _ k.field-0 _ _ is c.requires.sound
    c.requires.listed in
    (search (rules, the_lemmas), (r.sound, r.listed))

pub typed_expression-typed_expression-requires-in-Call : goal.typed_expression-typed_expression-requires-in-Call
typed_expression-typed_expression-requires-in-Call t c =
    let k = c.in-Call in
    let is =
    is-Call c.args.expr.now k.function k.field-1 k.operand c.deref-in-Call.result.now k.is c.deref-in-Call.ensures
    in
    let r =
    ready-call (scope_of c.args.scope.now) (columns_in c.args.columns.now) _ k.function k.field-1 _ is
    c.requires.sound c.requires.listed in
    (search (rules, the_lemmas), (r.sound, r.listed))

pub typed_expression-typed_expression-requires-in-Unary : goal.typed_expression-typed_expression-requires-in-Unary
typed_expression-typed_expression-requires-in-Unary t c =
    let k = c.in-Unary in
    let is =
    is-Unary c.args.expr.now k.operator k.field-1 k.operand c.deref-in-Unary.result.now k.is
    c.deref-in-Unary.ensures in
    let r =
    ready-unary (scope_of c.args.scope.now) (columns_in c.args.columns.now) _ k.operator k.field-1 _ is
    c.requires.sound c.requires.listed in
    (search (rules, the_lemmas), (r.sound, r.listed))

pub typed_expression-typed_expression-requires-in-Chain : goal.typed_expression-typed_expression-requires-in-Chain
typed_expression-typed_expression-requires-in-Chain t c =
    let k = c.in-Chain in
    let is =
    is-Chain c.args.expr.now k.first k.links c.deref-in-Chain.result.now _ k.is c.deref-in-Chain.ensures refl in
    let r =
    ready-chain (scope_of c.args.scope.now) (columns_in c.args.columns.now) _ _ _ is c.requires.sound
    c.requires.listed in
    (search (rules, the_lemmas), (r.0.sound, r.0.listed))

pub typed_expression-chain-requires : goal.typed_expression-chain-requires
typed_expression-chain-requires t c =
    let k = c.in-Chain in
    let is =
    is-Chain c.args.expr.now k.first k.links c.deref-in-Chain.result.now c.deref-in-Chain-2.result.now k.is
    c.deref-in-Chain.ensures c.deref-in-Chain-2.ensures.value in
    let r =
    ready-chain (scope_of c.args.scope.now) (columns_in c.args.columns.now) _ _ _ is c.requires.sound
    c.requires.listed in
    (search (rules, the_lemmas), (r.1.sound, r.1.listed))

pub typed_expression-typed_expression-requires-in-Choice : goal.typed_expression-typed_expression-requires-in-Choice
typed_expression-typed_expression-requires-in-Choice t c =
    let k = c.in-Choice in
    let is =
    is-Choice c.args.expr.now k.condition k.yes k.no c.deref-in-Choice.result.now _ _ k.is
    c.deref-in-Choice.ensures refl refl in
    let r =
    ready-choice (scope_of c.args.scope.now) (columns_in c.args.columns.now) _ _ _ _ is c.requires.sound
    c.requires.listed in
    (search (rules, the_lemmas), (r.0.sound, r.0.listed))

pub typed_expression-typed_expression-requires-in-Choice-2 : goal.typed_expression-typed_expression-requires-in-Choice-2
typed_expression-typed_expression-requires-in-Choice-2 t c =
    let k = c.in-Choice in
    let is =
    is-Choice c.args.expr.now k.condition k.yes k.no c.deref-in-Choice.result.now c.deref-in-Choice-2.result.now _
    k.is c.deref-in-Choice.ensures c.deref-in-Choice-2.ensures refl in
    let r =
    ready-choice (scope_of c.args.scope.now) (columns_in c.args.columns.now) _ _ _ _ is c.requires.sound
    c.requires.listed in
    (search (rules, the_lemmas), (r.1.sound, r.1.listed))

pub typed_expression-typed_expression-requires-in-Choice-3 : goal.typed_expression-typed_expression-requires-in-Choice-3
typed_expression-typed_expression-requires-in-Choice-3 t c =
    let k = c.in-Choice in
    let is =
    is-Choice c.args.expr.now k.condition k.yes k.no c.deref-in-Choice.result.now c.deref-in-Choice-2.result.now
    c.deref-in-Choice-3.result.now k.is c.deref-in-Choice.ensures c.deref-in-Choice-2.ensures
    c.deref-in-Choice-3.ensures in
    let r =
    ready-choice (scope_of c.args.scope.now) (columns_in c.args.columns.now) _ _ _ _ is c.requires.sound
    c.requires.listed in
    (search (rules, the_lemmas), (r.2.sound, r.2.listed))

pub typed_expression-returns-in-Number : goal.typed_expression-returns-in-Number
typed_expression-returns-in-Number t c =
    let k = c.in-Number in
    means-number (scope_of c.args.scope.now) (columns_in c.args.columns.now) _ k.number k.field-1 c.number_bits.result _
    (is-Number c.args.expr.now k.number k.field-1 k.is) c.number_bits.ensures.width c.number_bits.ensures.value
    c.constant.ensures

pub typed_expression-returns-in-Path : goal.typed_expression-returns-in-Path
typed_expression-returns-in-Path t c =
    when_ok c.typed_path.result
    (λ e h. means-path (scope_of c.args.scope.now) (columns_in c.args.columns.now) _ _ _ (term_of e)
    (is-Path c.args.expr.now c.in-Path.path c.in-Path.select c.in-Path.is) h) c.typed_path.ensures

pub typed_expression-returns-in_ok-first-in-Concatenation : goal.typed_expression-returns-in_ok-first-in-Concatenation
typed_expression-returns-in_ok-first-in-Concatenation t c =
    let k = c.in-Concatenation in
    let is =
    is-Concatenation c.args.expr.now k.field-0 k.first k.parts c.deref.result.now
    c.deref-in-Concatenation.result.now k.is c.deref.ensures c.deref-in-Concatenation.ensures.value in
    when_ok c.join.result
    (λ e h. means-concatenation (scope_of c.args.scope.now) (columns_in c.args.columns.now) _ k.field-0 _ _
    (term_of c.in_ok-first-in-Concatenation.first) (term_of e) is c.in_ok-first-in-Concatenation.ensures h)
    c.join.ensures

pub typed_expression-returns-in_ok-operand-in-Past : goal.typed_expression-returns-in_ok-operand-in-Past
typed_expression-returns-in_ok-operand-in-Past t c =
    let k = c.in-Past in
    let is =
    is-Past c.args.expr.now k.field-0 k.operand k.ticks c.deref-in-Past.result.now k.is c.deref-in-Past.ensures in
    when_ok c.past.result (λ e h. means-past (scope_of c.args.scope.now) (columns_in c.args.columns.now) _ k.field-0 _ _
    (term_of c.in_ok-operand-in-Past.operand) (term_of e) is c.in_ok-operand-in-Past.ensures
    (h ∙ ap (terms.past (term_of c.in_ok-operand-in-Past.operand)) c.ticks_before.ensures)) c.past.ensures

pub typed_expression-returns-in_ok-operand-in-Call : goal.typed_expression-returns-in_ok-operand-in-Call
typed_expression-returns-in_ok-operand-in-Call t c =
    let k = c.in-Call in
    let is =
    is-Call c.args.expr.now k.function k.field-1 k.operand c.deref-in-Call.result.now k.is c.deref-in-Call.ensures
    in
    when_ok c.call.result (λ e h. means-call (scope_of c.args.scope.now) (columns_in c.args.columns.now) _ k.function
    k.field-1 _ (term_of c.in_ok-operand-in-Call.operand) (term_of e) is c.in_ok-operand-in-Call.ensures
    (h ∙ ap (λ op. call_term op (term_of c.in_ok-operand-in-Call.operand)) c.call_of.ensures)) c.call.ensures

pub typed_expression-returns-in_ok-operand-in-Unary : goal.typed_expression-returns-in_ok-operand-in-Unary
typed_expression-returns-in_ok-operand-in-Unary t c =
    let k = c.in-Unary in
    let is =
    is-Unary c.args.expr.now k.operator k.field-1 k.operand c.deref-in-Unary.result.now k.is
    c.deref-in-Unary.ensures in
    when_ok c.prefix.result (λ e h. means-unary (scope_of c.args.scope.now) (columns_in c.args.columns.now) _ k.operator
    k.field-1 _ (term_of c.in_ok-operand-in-Unary.operand) (term_of e) is c.in_ok-operand-in-Unary.ensures
    (h ∙ ap (λ op. unary_term op (term_of c.in_ok-operand-in-Unary.operand)) c.unary_of.ensures)) c.prefix.ensures

pub typed_expression-returns-in_ok-first-in-Chain : goal.typed_expression-returns-in_ok-first-in-Chain
typed_expression-returns-in_ok-first-in-Chain t c =
    let k = c.in-Chain in
    let is =
    is-Chain c.args.expr.now k.first k.links c.deref-in-Chain.result.now c.deref-in-Chain-2.result.now k.is
    c.deref-in-Chain.ensures c.deref-in-Chain-2.ensures.value in
    when_ok c.chain.result
    (λ e h. means-chain (scope_of c.args.scope.now) (columns_in c.args.columns.now) _ _ _
    (term_of c.in_ok-first-in-Chain.first) (term_of e) is c.in_ok-first-in-Chain.ensures h) c.chain.ensures

pub typed_expression-returns-in_ok-no-in-Choice : goal.typed_expression-returns-in_ok-no-in-Choice
typed_expression-returns-in_ok-no-in-Choice t c =
    let k = c.in-Choice in
    let is =
    is-Choice c.args.expr.now k.condition k.yes k.no c.deref-in-Choice.result.now c.deref-in-Choice-2.result.now
    c.deref-in-Choice-3.result.now k.is c.deref-in-Choice.ensures c.deref-in-Choice-2.ensures
    c.deref-in-Choice-3.ensures in
    when_ok c.choice.result
    (λ e h. means-choice (scope_of c.args.scope.now) (columns_in c.args.columns.now) _ _ _ _
    (term_of c.in_ok-condition-in-Choice.condition) (term_of c.in_ok-yes-in-Choice.yes)
    (term_of c.in_ok-no-in-Choice.no) (term_of e) is c.in_ok-condition-in-Choice.ensures
    c.in_ok-yes-in-Choice.ensures c.in_ok-no-in-Choice.ensures
    (rw (c.in_ok-test-in-Choice.ensures, c.in_ok-first-in-Choice.ensures) at h))
    c.choice.ensures
