use Rattle.std.proofs.Common.{◌∷◌, List, map, length, sym, ap, subst, arith, ◌∙◌}
use Rattle.lexer.specs.declared.token.Token.{Token}
use Rattle.parser_grammar.specs.ReadFiles.{asserts, is_more, item}
use Rattle.parser_grammar.specs.declared.item.ItemTree.{ItemTree}
use Rattle.parser_grammar.specs.Views.{item_of}
use Rattle.parser.proofs.LoopLaws.{Turns, turns-init, turns-stop, turns-fail, turns-next, map-push}
use Rattle.parser.proofs.FileLaws.{refuses, at-item-fails, at-item, items-are, items-fail, asserts-more}
use Rattle.parser.proofs.FaultLaws.{placed-drop}
use Rattle.std.proofs.lemmas.List.{length-drop}
use Rattle.parser.proofs.file.read_items.Goals as goal

pub items-init : goal.items-init
items-init c = (
  omega arith,
  subst (λ (xs : List ItemTree). Turns is_more (λ t us. item (t ∷ us))
      c.args.tokens.now (map item_of xs) c.args.tokens.now) (sym c.new-found.ensures.items)
      (turns-init is_more (λ t us. item (t ∷ us)) c.args.tokens.now),
  ap (λ (xs : List ItemTree). asserts (map item_of xs)) (sym c.new-found.ensures.items),
)

pub returns-in_default-clause-read : goal.returns-in_default-clause-read
returns-in_default-clause-read c =
    items-are _ _ (turns-stop is_more (λ t us. item (t ∷ us)) _ _ _ c.items.invariant.1 c.in_default.ensures.token)

pub returns-in-Err-clause-read : goal.returns-in-Err-clause-read
returns-in-Err-clause-read c =
    refuses _ _ _
    (items-fail _ _
    (turns-fail is_more (λ t us. item (t ∷ us)) _ _ _ c.items.invariant.1 _ _ c.in-Some.ensures.token
    c.in-Some.ensures.shorter _ (at-item-fails _ _ _ _ c.in-Some.ensures.whole c.in-Err.ensures.read)))
    c.fault_of.ensures.names

pub items-preserved : goal.items-preserved
items-preserved c = (
  omega (
    arith,
    ap length c.same-left.ensures,
    c.in-Ok.ensures.shorter,
    ap length c.in-Some.ensures.whole,
    c.items.invariant.0,
  ),
  subst (λ (ts : List Token). Turns is_more (λ t us. item (t ∷ us)) c.args.tokens.now
      (map item_of c.push.new.self.items) ts) (sym c.same-left.ensures)
      (turns-next is_more (λ t us. item (t ∷ us)) _ _ _ c.items.invariant.1 _ _ c.in-Some.ensures.token
      c.in-Some.ensures.shorter _ _ _ (omega (arith, c.in-Ok.ensures.shorter, ap length c.in-Some.ensures.whole))
      (at-item _ _ _ _ c.in-Some.ensures.whole c.in-Ok.ensures.read) (ap (map item_of) c.in_ok-push.ensures.items
      ∙ map-push item_of _ _)),
  asserts-more _ _ _ _ _ c.in_ok-push.ensures.items c.items.invariant.2
      c.is_assertion-asserted.ensures,
)

pub returns-in-Err-clause-placed : goal.returns-in-Err-clause-placed
returns-in-Err-clause-placed c = placed-drop _ _ _ _ c.last_of.ensures c.fault_of.ensures.placed

pub fault_of-requires : goal.fault_of-requires
fault_of-requires c =
    omega (
      arith,
      ap length c.last_of.ensures,
      length-drop {A = Token},
      ap length c.in-Some.ensures.whole,
      c.items.invariant.0,
    )
