use Rattle.std.proofs.Common.{List, length, sym, ap, subst, arith}
use Rattle.lexer.specs.declared.token.Token.{Token}
use Rattle.parser_grammar.specs.Terminals.{is}
use Rattle.parser_grammar.specs.Readers.{pick}
use Rattle.parser_grammar.specs.declared.terminal.Terminal.TheVariants.{Dot}
use Rattle.parser_grammar.specs.ReadExpressions.{members, word_of}
use Rattle.parser.proofs.LoopLaws.{Turns, turns-init, turns-stop, turns-fail, turns-next, expect-lead}
use Rattle.parser.proofs.expression.read_members.Goals as goal

pub members-init : goal.members-init
members-init c = (
  omega arith,
  subst (λ (xs : List (Token)). Turns (is Dot) (λ dot. pick word_of) c.args.tokens.now xs c.args.tokens.now)
      (sym c.new-found.ensures.items) (turns-init (is Dot) (λ dot. pick word_of) c.args.tokens.now),
)

pub returns-in_default-clause-read : goal.returns-in_default-clause-read
unfolding members
returns-in_default-clause-read c =
    turns-stop (is Dot) (λ dot. pick word_of) _ _ _ c.members.invariant.1
    (expect-lead Dot _ _ c.in_default.ensures.token)

pub returns-in-Err-clause-read : goal.returns-in-Err-clause-read
unfolding members
returns-in-Err-clause-read c =
    turns-fail (is Dot) (λ dot. pick word_of) _ _ _ c.members.invariant.1 _ _
    (expect-lead Dot _ _ c.in-Some.ensures.token) c.in-Some.ensures.shorter _ c.in-Err.ensures.token

pub members-preserved : goal.members-preserved
members-preserved c = (
  omega (
    arith,
    ap length c.same-left.ensures,
    c.in-Ok.ensures.shorter,
    c.in-Some.ensures.shorter,
    c.members.invariant.0,
  ),
  subst (λ (ts : List Token). Turns (is Dot) (λ dot. pick word_of) c.args.tokens.now c.push.new.self.items ts)
      (sym c.same-left.ensures)
      (turns-next (is Dot) (λ dot. pick word_of) _ _ _ c.members.invariant.1 _ _
      (expect-lead Dot _ _ c.in-Some.ensures.token) c.in-Some.ensures.shorter _ _ _
      (omega (arith, c.in-Ok.ensures.shorter)) c.in-Ok.ensures.token c.in_ok-push.ensures.items),
)
