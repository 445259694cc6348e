use Rattle.std.proofs.Common.{◌≡◌, ◌∙◌, ◌+◌, ℕ, suc, List, map, length, Option, Some, refl, sym, ap, subst, arith}
use Rattle.lexer.specs.declared.token.Token.{Token}
use Rattle.parser_grammar.specs.Terminals.{is}
use Rattle.parser_grammar.specs.declared.operator.Infix.{Infix}
use Rattle.parser_grammar.specs.Operators.{infix_of, is_infix}
use Rattle.parser_grammar.specs.Readers.{Reader, lead}
use Rattle.parser_grammar.specs.declared.terminal.Terminal.TheVariants.{Comma}
use Rattle.parser_grammar.specs.Trees.{Tree}
use Rattle.parser_grammar.specs.ReadExpressions.{links, link_reader, operand, expression}
use Rattle.parser_grammar.specs.declared.expression.ExprTree.{ExprTree}
use Rattle.parser.specs.declared.stop.Stop.{Stop}
use Rattle.parser_grammar.specs.Views.{tree_of, link_of}
use Rattle.parser.specs.Views.{Fails}
use Rattle.parser.proofs.Steps.{failing, gives-as, climb-zero, prefixed-nil, prefixed-number}
use Rattle.parser.proofs.Steps.{prefixed-named, prefixed-unary, prefixed-opening, prefixed-brace}
use Rattle.parser.proofs.Steps.{prefixed-past, prefixed-call, prefixed-other}
use Rattle.parser.proofs.Steps.{bracketed-deep, bracketed-fail2, bracketed-fail3, bracketed-ok}
use Rattle.parser.proofs.Steps.{called-fail1, called-fail2, called-ok, choice-deep, choice-fail1}
use Rattle.parser.proofs.Steps.{choice-fail4, choice-fail5, choice-fail6, choice-ok, climb-fails}
use Rattle.parser.proofs.Steps.{climb-read, concatenated-deep, concatenated-fail2, concatenated-fail3}
use Rattle.parser.proofs.Steps.{concatenated-fail4, concatenated-ok, expression-fail1, expression-tail}
use Rattle.parser.proofs.Steps.{finish-stop, links-fails, operand-fail1, operand-tail, passed-deep}
use Rattle.parser.proofs.Steps.{passed-fail1, passed-fail3, passed-fail4, passed-fail5, passed-ok}
use Rattle.parser.proofs.Steps.{prefixing-deep, prefixing-fail2, prefixing-ok}
use Rattle.parser.proofs.LoopLaws.{Turns, turns-init, turns-stop, turns-fail, turns-next, expect-lead}
use Rattle.parser.proofs.LoopLaws.{map-push}
use Rattle.parser.proofs.expression.+expressions.Goals as goal

pub read_parts-parts-init : goal.read_parts-parts-init
read_parts-parts-init t c = (
  omega arith,
  subst (λ (xs : List (ExprTree)). Turns (is Comma) (λ comma. expression c.args.depth) c.args.tokens.now
      (map tree_of xs) c.args.tokens.now) (sym c.new-found.ensures.items)
      (turns-init (is Comma) (λ comma. expression c.args.depth) c.args.tokens.now),
)

pub read_parts-returns-in_default-clause-read : goal.read_parts-returns-in_default-clause-read
read_parts-returns-in_default-clause-read t c =
    turns-stop (is Comma) (λ comma. expression c.args.depth) _ _ _ c.parts.invariant.1
    (expect-lead Comma _ _ c.in_default.ensures.token)

pub read_parts-returns-in-Err-clause-read : goal.read_parts-returns-in-Err-clause-read
read_parts-returns-in-Err-clause-read t c =
    turns-fail (is Comma) (λ comma. expression c.args.depth) _ _ _ c.parts.invariant.1 _ _
    (expect-lead Comma _ _ c.in-Some.ensures.token) c.in-Some.ensures.shorter _ c.in-Err.ensures.read

pub read_parts-parts-preserved : goal.read_parts-parts-preserved
read_parts-parts-preserved t c = (
  omega (arith, ap length c.same-left.ensures, c.in-Ok.ensures.shorter, c.in-Some.ensures.shorter, c.parts.invariant.0),
  subst (λ (ts : List Token). Turns (is Comma) (λ comma. expression c.args.depth) c.args.tokens.now
      (map tree_of c.push_part.new.found.items) ts) (sym c.same-left.ensures)
      (turns-next (is Comma) (λ comma. expression c.args.depth) _ _ _ c.parts.invariant.1 _ _
      (expect-lead Comma _ _ c.in-Some.ensures.token) c.in-Some.ensures.shorter _ _ _
      (omega (arith, c.in-Ok.ensures.shorter))
      c.in-Ok.ensures.read (ap (map tree_of) c.in-Ok-push_part.ensures.ok ∙ map-push tree_of _ _)),
)

link-read : (operand : Reader Tree) (t : Token) (op : Infix) (us : List Token) (e : Tree) (vs : List Token)
    → infix_of t ≡ Some op → operand us ≡ Some (e, vs) → link_reader operand t us ≡ Some ((op, e), vs)
unfolding link_reader
link-read operand t op us e vs h k = rw (h, k) refl

link-fails : (operand : Reader Tree) (t : Token) (op : Infix) (us : List Token) (x : Stop) → infix_of t ≡ Some op
    → Fails x (operand us) → Fails x (link_reader operand t us)
unfolding link_reader
link-fails operand t op us x h f = failing x _ _ (λ none. rw (h, none) refl) f

sign-at : (l : ℕ) (ts : List Token) (o : Option (Token × List Token)) → lead (is_infix (l + 1)) ts ≡ o
    → lead (is_infix (suc l)) ts ≡ o
sign-at l ts o h = let e : suc l ≡ l + 1 = omega arith in rw e h

pub read_links-links-init : goal.read_links-links-init
read_links-links-init t c = (
  omega arith,
  subst (λ (xs : List (Infix × ExprTree)). Turns (is_infix (suc c.args.level))
      (link_reader (operand c.args.depth c.args.level)) c.args.tokens.now (map link_of xs) c.args.tokens.now)
      (sym c.new-found.ensures.items)
      (turns-init (is_infix (suc c.args.level)) (link_reader (operand c.args.depth c.args.level)) c.args.tokens.now),
)

pub read_links-returns-in_default-clause-read : goal.read_links-returns-in_default-clause-read
unfolding links
read_links-returns-in_default-clause-read t c =
    turns-stop (is_infix (suc c.args.level)) (link_reader (operand c.args.depth c.args.level)) _ _ _
    c.links.invariant.1 (sign-at c.args.level _ _ c.in_default.ensures.sign)

pub read_links-returns-in-Err-clause-read : goal.read_links-returns-in-Err-clause-read
unfolding links
read_links-returns-in-Err-clause-read t c =
    let led = c.in-Some.ensures.sign in
    turns-fail (is_infix (suc c.args.level)) (link_reader (operand c.args.depth c.args.level)) _ _ _ c.links.invariant.1
    _ _ (sign-at c.args.level _ _ led.led) c.in-Some.ensures.shorter _
    (link-fails _ _ _ _ _ led.operator c.in-Err.ensures.read)

pub read_links-links-preserved : goal.read_links-links-preserved
read_links-links-preserved t c =
    let led = c.in-Some.ensures.sign in (
      omega (
        arith,
        ap length c.same-left.ensures,
        c.in-Ok.ensures.shorter,
        c.in-Some.ensures.shorter,
        c.links.invariant.0,
      ),
      subst (λ (ts : List Token). Turns (is_infix (suc c.args.level)) (link_reader (operand c.args.depth c.args.level))
          c.args.tokens.now (map link_of c.push_link.new.found.items) ts) (sym c.same-left.ensures)
          (turns-next (is_infix (suc c.args.level)) (link_reader (operand c.args.depth c.args.level)) _ _ _
          c.links.invariant.1 _ _ (sign-at c.args.level _ _ led.led) c.in-Some.ensures.shorter _ _ _
          (omega (arith, c.in-Ok.ensures.shorter)) (link-read _ _ _ _ _ _ led.operator c.in-Ok.ensures.read)
          (ap (map link_of) c.in-Ok-push_link.ensures.ok ∙ map-push link_of _ _)),
    )

pub read_prefixed-returns-in-Number-clause-read : goal.read_prefixed-returns-in-Number-clause-read
read_prefixed-returns-in-Number-clause-read t c =
    gives-as _ _ _ _ (prefixed-number _ _ _ _ _ c.in-Some.ensures c.in-Number.ensures) c.number.ensures.read

pub read_prefixed-returns-in-Other-clause-read : goal.read_prefixed-returns-in-Other-clause-read
read_prefixed-returns-in-Other-clause-read t c = prefixed-other _ _ _ _ c.in-Some.ensures c.in-Other.ensures

pub read_bracketed-returns-in-Err-clause-read : goal.read_bracketed-returns-in-Err-clause-read
read_bracketed-returns-in-Err-clause-read t c =
    bracketed-deep _ _ _ c.in-Err.ensures.none

pub read_bracketed-returns-in-Err-read_expression-clause-read
    : goal.read_bracketed-returns-in-Err-read_expression-clause-read
read_bracketed-returns-in-Err-read_expression-clause-read t c =
    bracketed-fail2 _ _ _ _ c.in-Ok.ensures.some c.in-Err-read_expression.ensures.read

pub read_bracketed-returns-in-Err-expect-clause-read : goal.read_bracketed-returns-in-Err-expect-clause-read
read_bracketed-returns-in-Err-expect-clause-read t c =
    bracketed-fail3 _ _ _ _ _ _ c.in-Ok.ensures.some c.in-Ok-read_expression.ensures.read
    c.in-Err-expect.ensures.token

pub read_bracketed-returns-clause-read : goal.read_bracketed-returns-clause-read
read_bracketed-returns-clause-read t c =
    bracketed-ok _ _ _ _ _ _ _ c.in-Ok.ensures.some c.in-Ok-read_expression.ensures.read c.in-Ok-expect.ensures.token

pub read_concatenation-returns-in-Err-clause-read : goal.read_concatenation-returns-in-Err-clause-read
read_concatenation-returns-in-Err-clause-read t c =
    concatenated-deep _ _ _ _ c.in-Err.ensures.none

pub read_concatenation-returns-in-Err-read_expression-clause-read
    : goal.read_concatenation-returns-in-Err-read_expression-clause-read
read_concatenation-returns-in-Err-read_expression-clause-read t c =
    concatenated-fail2 _ _ _ _ _ c.in-Ok.ensures.some c.in-Err-read_expression.ensures.read

pub read_concatenation-returns-in-Err-read_parts-clause-read
    : goal.read_concatenation-returns-in-Err-read_parts-clause-read
read_concatenation-returns-in-Err-read_parts-clause-read t c =
    concatenated-fail3 _ _ _ _ _ _ _ c.in-Ok.ensures.some c.in-Ok-read_expression.ensures.read
    c.in-Err-read_parts.ensures.read

pub read_concatenation-returns-in-Err-expect-clause-read : goal.read_concatenation-returns-in-Err-expect-clause-read
read_concatenation-returns-in-Err-expect-clause-read t c =
    concatenated-fail4 _ _ _ _ _ _ _ _ _ c.in-Ok.ensures.some c.in-Ok-read_expression.ensures.read
    c.in-Ok-read_parts.ensures.read c.in-Err-expect.ensures.token

pub read_concatenation-returns-clause-read : goal.read_concatenation-returns-clause-read
read_concatenation-returns-clause-read t c =
    gives-as _ _ _ _ (concatenated-ok _ _ _ _ _ _ _ _ _ _ c.in-Ok.ensures.some c.in-Ok-read_expression.ensures.read
    c.in-Ok-read_parts.ensures.read c.in-Ok-expect.ensures.token)
    c.concatenation.ensures.read

pub read_past-returns-in-Err-clause-read : goal.read_past-returns-in-Err-clause-read
read_past-returns-in-Err-clause-read t c =
    passed-fail1 _ _ _ _ c.in-Err.ensures.token

pub read_past-returns-in-Err-deeper-clause-read : goal.read_past-returns-in-Err-deeper-clause-read
read_past-returns-in-Err-deeper-clause-read t c =
    passed-deep _ _ _ _ _ _ c.in-Ok.ensures.token c.in-Err-deeper.ensures.none

pub read_past-returns-in-Err-read_expression-clause-read : goal.read_past-returns-in-Err-read_expression-clause-read
read_past-returns-in-Err-read_expression-clause-read t c =
    passed-fail3 _ _ _ _ _ _ _ c.in-Ok.ensures.token c.in-Ok-deeper.ensures.some c.in-Err-read_expression.ensures.read

pub read_past-returns-in-Err-read_ticks-clause-read : goal.read_past-returns-in-Err-read_ticks-clause-read
read_past-returns-in-Err-read_ticks-clause-read t c =
    passed-fail4 _ _ _ _ _ _ _ _ _ c.in-Ok.ensures.token c.in-Ok-deeper.ensures.some
    c.in-Ok-read_expression.ensures.read c.in-Err-read_ticks.ensures.read

pub read_past-returns-in-Err-expect-clause-read : goal.read_past-returns-in-Err-expect-clause-read
read_past-returns-in-Err-expect-clause-read t c =
    passed-fail5 _ _ _ _ _ _ _ _ _ _ _ c.in-Ok.ensures.token c.in-Ok-deeper.ensures.some
    c.in-Ok-read_expression.ensures.read c.in-Ok-read_ticks.ensures.read c.in-Err-expect.ensures.token

pub read_past-returns-clause-read : goal.read_past-returns-clause-read
read_past-returns-clause-read t c =
    gives-as _ _ _ _ (passed-ok _ _ _ _ _ _ _ _ _ _ _ _ c.in-Ok.ensures.token c.in-Ok-deeper.ensures.some
    c.in-Ok-read_expression.ensures.read c.in-Ok-read_ticks.ensures.read c.in-Ok-expect.ensures.token)
    c.past.ensures.read

pub read_call-returns-in-Err-clause-read : goal.read_call-returns-in-Err-clause-read
read_call-returns-in-Err-clause-read t c =
    called-fail1 _ _ _ _ _ c.in-Err.ensures.token

pub read_call-returns-in-Err-read_bracketed-clause-read : goal.read_call-returns-in-Err-read_bracketed-clause-read
read_call-returns-in-Err-read_bracketed-clause-read t c =
    called-fail2 _ _ _ _ _ _ _ c.in-Ok.ensures.token c.in-Err-read_bracketed.ensures.read

pub read_call-returns-clause-read : goal.read_call-returns-clause-read
read_call-returns-clause-read t c =
    gives-as _ _ _ _ (called-ok _ _ _ _ _ _ _ _ c.in-Ok.ensures.token c.in-Ok-read_bracketed.ensures.read)
    c.call.ensures.read

pub read_unary-returns-in-Err-clause-read : goal.read_unary-returns-in-Err-clause-read
read_unary-returns-in-Err-clause-read t c =
    prefixing-deep _ _ _ _ _ c.in-Err.ensures.none

pub read_unary-returns-in-Err-read_prefixed-clause-read : goal.read_unary-returns-in-Err-read_prefixed-clause-read
read_unary-returns-in-Err-read_prefixed-clause-read t c =
    prefixing-fail2 _ _ _ _ _ _ c.in-Ok.ensures.some c.in-Err-read_prefixed.ensures.read

pub read_unary-returns-clause-read : goal.read_unary-returns-clause-read
read_unary-returns-clause-read t c =
    gives-as _ _ _ _ (prefixing-ok _ _ _ _ _ _ _ c.in-Ok.ensures.some c.in-Ok-read_prefixed.ensures.read)
    c.unary.ensures.read

pub read_operand-returns-in-Err-clause-read : goal.read_operand-returns-in-Err-clause-read
read_operand-returns-in-Err-clause-read t c =
    operand-fail1 _ _ _ _ c.in-Err.ensures.read

pub read_operand-returns-clause-read : goal.read_operand-returns-clause-read
read_operand-returns-clause-read t c =
    gives-as _ _ _ _ (operand-tail _ _ _ _ _ c.in-Ok.ensures.read)
    c.read_climb.ensures.read

pub read_expression-returns-in-Err-clause-read : goal.read_expression-returns-in-Err-clause-read
read_expression-returns-in-Err-clause-read t c =
    expression-fail1 _ _ _ c.in-Err.ensures.read

pub read_expression-returns-clause-read : goal.read_expression-returns-clause-read
read_expression-returns-clause-read t c =
    gives-as _ _ _ _ (expression-tail _ _ _ _ c.in-Ok.ensures.read)
    c.finish_expression.ensures.read

pub read_climb-returns-in-Err-clause-read : goal.read_climb-returns-in-Err-clause-read
read_climb-returns-in-Err-clause-read t c =
    climb-fails _ _ _ _ _ c.if-level-eq0.false c.in-Err.ensures.read

pub read_climb-returns-in-Err-read_links-clause-read : goal.read_climb-returns-in-Err-read_links-clause-read
read_climb-returns-in-Err-read_links-clause-read t c =
    links-fails _ _ _ _ _ _ _ c.if-level-eq0.false c.in-Ok.ensures.read c.in-Err-read_links.ensures.read

pub read_climb-returns-clause-read : goal.read_climb-returns-clause-read
read_climb-returns-clause-read t c =
    gives-as _ _ _ _ (climb-read _ _ _ _ _ _ _ _ c.if-level-eq0.false c.in-Ok.ensures.read
    c.in-Ok-read_links.ensures.read)
    c.with_links.ensures.read

pub finish_expression-returns-in-Err-clause-read : goal.finish_expression-returns-in-Err-clause-read
finish_expression-returns-in-Err-clause-read t c =
    choice-fail1 _ _ _ _ c.in-Err.ensures.read

pub finish_expression-returns-in_default-clause-read : goal.finish_expression-returns-in_default-clause-read
finish_expression-returns-in_default-clause-read t c =
    finish-stop _ _ _ _ _ c.in-Ok.ensures.read c.in_default.ensures.token

pub finish_expression-returns-in-Err-deeper-clause-read : goal.finish_expression-returns-in-Err-deeper-clause-read
finish_expression-returns-in-Err-deeper-clause-read t c =
    choice-deep _ _ _ _ _ _ _ _ c.in-Ok.ensures.read c.in-Some.ensures.token c.in-Err-deeper.ensures.none

pub finish_expression-returns-in-Err-read_expression-clause-read
    : goal.finish_expression-returns-in-Err-read_expression-clause-read
finish_expression-returns-in-Err-read_expression-clause-read t c =
    choice-fail4 _ _ _ _ _ _ _ _ _ c.in-Ok.ensures.read c.in-Some.ensures.token c.in-Ok-deeper.ensures.some
    c.in-Err-read_expression.ensures.read

pub finish_expression-returns-in-Err-expect-clause-read : goal.finish_expression-returns-in-Err-expect-clause-read
finish_expression-returns-in-Err-expect-clause-read t c =
    choice-fail5 _ _ _ _ _ _ _ _ _ _ _ c.in-Ok.ensures.read c.in-Some.ensures.token c.in-Ok-deeper.ensures.some
    c.in-Ok-read_expression.ensures.read c.in-Err-expect.ensures.token

pub finish_expression-returns-in-Err-read_expression-2-clause-read
    : goal.finish_expression-returns-in-Err-read_expression-2-clause-read
finish_expression-returns-in-Err-read_expression-2-clause-read t c =
    choice-fail6 _ _ _ _ _ _ _ _ _ _ _ _ _ c.in-Ok.ensures.read c.in-Some.ensures.token c.in-Ok-deeper.ensures.some
    c.in-Ok-read_expression.ensures.read c.in-Ok-expect.ensures.token c.in-Err-read_expression-2.ensures.read

pub finish_expression-returns-clause-read : goal.finish_expression-returns-clause-read
finish_expression-returns-clause-read t c =
    gives-as _ _ _ _ (choice-ok _ _ _ _ _ _ _ _ _ _ _ _ _ _ c.in-Ok.ensures.read c.in-Some.ensures.token
    c.in-Ok-deeper.ensures.some c.in-Ok-read_expression.ensures.read c.in-Ok-expect.ensures.token
    c.in-Ok-read_expression-2.ensures.read)
    c.choice.ensures.read

pub read_prefixed-returns-in_default-clause-read : goal.read_prefixed-returns-in_default-clause-read
read_prefixed-returns-in_default-clause-read t c =
    prefixed-nil _ _ c.in_default.ensures

pub read_prefixed-returns-in-Name-clause-read : goal.read_prefixed-returns-in-Name-clause-read
read_prefixed-returns-in-Name-clause-read t c =
    gives-as _ _ _ _ (prefixed-named _ _ _ _ c.in-Some.ensures c.in-Name.ensures) c.read_named.ensures.read

pub read_prefixed-returns-in-Prefix-clause-read : goal.read_prefixed-returns-in-Prefix-clause-read
read_prefixed-returns-in-Prefix-clause-read t c =
    gives-as _ _ _ _ (prefixed-unary _ _ _ _ _ c.in-Some.ensures c.in-Prefix.ensures) c.read_unary.ensures.read

pub read_prefixed-returns-in-Opening-clause-read : goal.read_prefixed-returns-in-Opening-clause-read
read_prefixed-returns-in-Opening-clause-read t c =
    gives-as _ _ _ _ (prefixed-opening _ _ _ _ c.in-Some.ensures c.in-Opening.ensures) c.read_bracketed.ensures.read

pub read_prefixed-returns-in-Brace-clause-read : goal.read_prefixed-returns-in-Brace-clause-read
read_prefixed-returns-in-Brace-clause-read t c =
    gives-as _ _ _ _ (prefixed-brace _ _ _ _ c.in-Some.ensures c.in-Brace.ensures) c.read_concatenation.ensures.read

pub read_prefixed-returns-in-Past-clause-read : goal.read_prefixed-returns-in-Past-clause-read
read_prefixed-returns-in-Past-clause-read t c =
    gives-as _ _ _ _ (prefixed-past _ _ _ _ c.in-Some.ensures c.in-Past.ensures) c.read_past.ensures.read

pub read_prefixed-returns-in-Call-clause-read : goal.read_prefixed-returns-in-Call-clause-read
read_prefixed-returns-in-Call-clause-read t c =
    gives-as _ _ _ _ (prefixed-call _ _ _ _ _ c.in-Some.ensures c.in-Call.ensures) c.read_call.ensures.read

pub read_climb-returns-then-level-eq0-clause-read : goal.read_climb-returns-then-level-eq0-clause-read
read_climb-returns-then-level-eq0-clause-read t c =
    climb-zero _ _ _ _ c.if-level-eq0.true
