use Rattle.std.proofs.Common.{◌≡◌, ◌+◌, ℕ, List, ◌∷◌, map, drop, refl, sym, ap, ◌∙◌, arith}
use Rattle.parser_grammar.specs.Trees as trees
use Rattle.parser_grammar.specs.declared.item.ItemTree.{ItemTree}
use Rattle.parser_grammar.specs.Views.{item_of}
use Rattle.types_names.specs.declared.own.Own.TheVariants.{Counter, Sequence}
use Rattle.types_names.specs.Scopes.{look_up, owns, owns_from}
use Rattle.types_names.specs.Views.{own_in}
use Rattle.types_names.proofs.EntryLaws.{left-step, left-end, same-found}
use Rattle.types_names.proofs.Lists.{at, past_end}
use Rattle.types_names.proofs.scope.owns_of.Goals as goal

pub loop-item-preserved-in-Counter : goal.loop-item-preserved-in-Counter
loop-item-preserved-in-Counter c =
    let k = c.in-Counter.counter in
    let i = c.loop-item.item-index in
    let xs = c.args.items.now in
    let rest : List trees.ItemForm = map item_of (drop (i + 1) xs) in
    let front : map item_of (drop i xs) ≡ item_of c.item-item.result ∷ rest =
    at trees.ItemForm item_of xs i c.item-item.result c.loop-item-test.true c.item-item.is in
    let begins =
    ap (owns_from c.loop-item.counters c.loop-item.sequences)
    (front ∙ ap (λ (x : ItemTree). item_of x ∷ rest) c.in-Counter.is)
    ∙ ap (λ (w : ℕ). (k.name.text.now, Counter c.loop-item.counters w) ∷ owns_from (c.loop-item.counters + 1)
    c.loop-item.sequences rest) (sym c.within-width.ensures) in
    record {
      counters = omega (arith, c.loop-item.invariant.counters);
      sequences = omega (arith, c.loop-item.invariant.sequences);
      left =
          left-step (own_in c.loop-item.names) _ k.name.text.now
          (Counter c.loop-item.counters c.within-width.result.bits) _ _ (look_up (owns (map item_of xs)))
          c.in_ok-declare-in-Counter.ensures begins c.loop-item.invariant.left;
    }

pub loop-item-preserved-in-Declaration : goal.loop-item-preserved-in-Declaration
loop-item-preserved-in-Declaration c =
    let k = c.in-Declaration.declaration in
    let i = c.loop-item.item-index in
    let xs = c.args.items.now in
    let rest : List trees.ItemForm = map item_of (drop (i + 1) xs) in
    let front : map item_of (drop i xs) ≡ item_of c.item-item.result ∷ rest =
    at trees.ItemForm item_of xs i c.item-item.result c.loop-item-test.true c.item-item.is in
    let begins =
    ap (owns_from c.loop-item.counters c.loop-item.sequences)
    (front ∙ ap (λ (x : ItemTree). item_of x ∷ rest) c.in-Declaration.is) in
    record {
      counters = omega (arith, c.loop-item.invariant.counters);
      sequences = omega (arith, c.loop-item.invariant.sequences);
      left =
          left-step (own_in c.loop-item.names) _ k.name.text.now (Sequence c.loop-item.sequences) _ _
          (look_up (owns (map item_of xs))) c.in_ok-declare-in-Declaration.ensures begins c.loop-item.invariant.left;
    }

pub returns : goal.returns
returns c =
    same-found (own_in c.loop-item.names) (look_up (owns (map item_of c.args.items.now)))
    (left-end (own_in c.loop-item.names)
    (owns_from c.loop-item.counters c.loop-item.sequences
    (map item_of (drop c.loop-item.item-index c.args.items.now))) (look_up (owns (map item_of c.args.items.now)))
    (ap (owns_from c.loop-item.counters c.loop-item.sequences)
    (past_end trees.ItemForm item_of c.args.items.now c.loop-item.item-index c.loop-item-test.false))
    c.loop-item.invariant.left)

pub loop-item-init : goal.loop-item-init
unfolding own_in
loop-item-init c = record {
  counters = omega arith;
  sequences = omega arith;
  left = λ q. rw c.new-names.ensures.empty refl;
}
