use Rattle.std.proofs.Common.{◌≡◌, ◌+◌, ◌∷◌, map, drop, refl, ap, ◌∙◌}
use Rattle.parser_grammar.specs.Trees as trees
use Rattle.parser_grammar.specs.declared.item.ItemTree.{ItemTree}
use Rattle.parser_grammar.specs.Views.{counter_of, declaration_of, assertion_of, item_of}
use Rattle.types_names.specs.Views.{scope_of, columns_in}
use Rattle.types_names.proofs.Lists.{at, past_end}
use Rattle.types.proofs.CounterLaws.{ready-item, completes_start, completes_skip}
use Rattle.types.proofs.CounterLaws.{completes_more, completes_all}
use Rattle.types.proofs.counters.counters_of.Goals as goal

pub loop-item-init : goal.loop-item-init
loop-item-init c =
    record {
      ready = record { sound = c.requires.sound; listed = c.requires.listed };
      made =
          completes_start (scope_of c.args.scope.now) (columns_in c.args.columns.now) _ _
          c.new-counters.ensures.items;
    }

pub counter_of-requires-clause-sound : goal.counter_of-requires-clause-sound
counter_of-requires-clause-sound c =
    let s = scope_of c.args.scope.now in
    let cs = columns_in c.args.columns.now in
    let rest = map item_of (drop (c.loop-item.item-index + 1) c.args.items.now) in
    let cut =
    at trees.ItemForm item_of c.args.items.now c.loop-item.item-index c.item-item.result c.loop-item-test.true
    c.item-item.is in
    let is : map item_of (drop c.loop-item.item-index c.args.items.now)
    ≡ trees.counter (counter_of c.in-Counter.counter) ∷ rest = cut
    ∙ ap (λ (x : ItemTree). item_of x ∷ rest) c.in-Counter.is in
    let r = ready-item s cs _ _ rest is c.loop-item.invariant.ready in
    r.0.sound

pub counter_of-requires-clause-listed : goal.counter_of-requires-clause-listed
counter_of-requires-clause-listed c =
    let s = scope_of c.args.scope.now in
    let cs = columns_in c.args.columns.now in
    let rest = map item_of (drop (c.loop-item.item-index + 1) c.args.items.now) in
    let cut =
    at trees.ItemForm item_of c.args.items.now c.loop-item.item-index c.item-item.result c.loop-item-test.true
    c.item-item.is in
    let is : map item_of (drop c.loop-item.item-index c.args.items.now)
    ≡ trees.counter (counter_of c.in-Counter.counter) ∷ rest = cut
    ∙ ap (λ (x : ItemTree). item_of x ∷ rest) c.in-Counter.is in
    let r = ready-item s cs _ _ rest is c.loop-item.invariant.ready in
    r.0.listed

pub loop-item-preserved-in-Counter : goal.loop-item-preserved-in-Counter
loop-item-preserved-in-Counter c =
    let s = scope_of c.args.scope.now in
    let cs = columns_in c.args.columns.now in
    let rest = map item_of (drop (c.loop-item.item-index + 1) c.args.items.now) in
    let cut =
    at trees.ItemForm item_of c.args.items.now c.loop-item.item-index c.item-item.result c.loop-item-test.true
    c.item-item.is in
    let is : map item_of (drop c.loop-item.item-index c.args.items.now)
    ≡ trees.counter (counter_of c.in-Counter.counter) ∷ rest = cut
    ∙ ap (λ (x : ItemTree). item_of x ∷ rest) c.in-Counter.is in
    let r = ready-item s cs _ _ rest is c.loop-item.invariant.ready in
    record {
      ready = r.1;
      made =
          completes_more s cs _ _ rest (counter_of c.in-Counter.counter) c.in_ok-made-in-Counter.made
          c.loop-item.counters.items _ is c.in_ok-made-in-Counter.ensures c.in_ok-push-in-Counter.ensures.items
          c.loop-item.invariant.made;
    }

pub loop-item-preserved-in-Declaration : goal.loop-item-preserved-in-Declaration
loop-item-preserved-in-Declaration c =
    let s = scope_of c.args.scope.now in
    let cs = columns_in c.args.columns.now in
    let rest = map item_of (drop (c.loop-item.item-index + 1) c.args.items.now) in
    let cut =
    at trees.ItemForm item_of c.args.items.now c.loop-item.item-index c.item-item.result c.loop-item-test.true
    c.item-item.is in
    let is : map item_of (drop c.loop-item.item-index c.args.items.now)
    ≡ trees.declaration (declaration_of c.in-Declaration.field-0) ∷ rest = cut
    ∙ ap (λ (x : ItemTree). item_of x ∷ rest) c.in-Declaration.is in
    let r = ready-item s cs _ _ rest is c.loop-item.invariant.ready in
    record {
      ready = r.1;
      made =
          completes_skip s cs _ _ rest (trees.declaration (declaration_of c.in-Declaration.field-0)) _ is refl
          c.loop-item.invariant.made;
    }

pub loop-item-preserved : goal.loop-item-preserved
loop-item-preserved c =
    let s = scope_of c.args.scope.now in
    let cs = columns_in c.args.columns.now in
    let rest = map item_of (drop (c.loop-item.item-index + 1) c.args.items.now) in
    let cut =
    at trees.ItemForm item_of c.args.items.now c.loop-item.item-index c.item-item.result c.loop-item-test.true
    c.item-item.is in
    let is : map item_of (drop c.loop-item.item-index c.args.items.now)
    ≡ trees.assertion (assertion_of c.in-Assertion.field-0) ∷ rest = cut
    ∙ ap (λ (x : ItemTree). item_of x ∷ rest) c.in-Assertion.is in
    let r = ready-item s cs _ _ rest is c.loop-item.invariant.ready in
    record {
      ready = r.1;
      made =
          completes_skip s cs _ _ rest (trees.assertion (assertion_of c.in-Assertion.field-0)) _ is refl
          c.loop-item.invariant.made;
    }

pub returns : goal.returns
returns c =
    completes_all (scope_of c.args.scope.now) (columns_in c.args.columns.now) _ _ _
    (past_end trees.ItemForm item_of c.args.items.now c.loop-item.item-index c.loop-item-test.false)
    c.loop-item.invariant.made
