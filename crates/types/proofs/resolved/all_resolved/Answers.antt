use Rattle.std.proofs.Common.{◌≡◌, ◌+◌, ◌∷◌, [], List, map, drop, refl, sym, ap, ◌∙◌, subst, arith}
use Rattle.parser_grammar.specs.Trees as trees
use Rattle.parser_grammar.specs.declared.item.ItemTree.{ItemTree}
use Rattle.parser_grammar.specs.Views.{counter_of, declaration_of, assertion_of, item_of}
use Rattle.types_names.specs.Views.{scope_of, columns_in}
use Rattle.types_names.proofs.Lists.{at, past_end}
use Rattle.types.specs.declared.resolved.Resolved.{Resolved}
use Rattle.types.specs.Texts.{assertions_of}
use Rattle.types.specs.Resolved.{AreResolved}
use Rattle.types.proofs.CounterLaws.{ready-item}
use Rattle.types.proofs.ReadingLaws.{extends_same, extends_on}
use Rattle.types.proofs.SeenLaws.{seen_start, seen_skip, seen_more, seen_all}
use Rattle.types.proofs.ResolvedLaws.{resolved_more}
use Rattle.types.proofs.resolved.all_resolved.Goals as goal

pub loop-item-init : goal.loop-item-init
loop-item-init c =
    record {
      ready = record { sound = c.requires.sound; listed = c.requires.listed };
      grows = extends_same c.args.booleans.now.items;
      made = λ bodies table. seen_start assertions_of _ (map item_of c.args.items.now)
          (subst (λ (ms : List Resolved). AreResolved (scope_of c.args.scope.now) (columns_in c.args.columns.now)
          c.args.booleans.now.items bodies 0 [] ms) (sym c.new-resolved.ensures.items) tt);
    }

pub resolved_of-requires-clause-sound : goal.resolved_of-requires-clause-sound
resolved_of-requires-clause-sound c = λ k.
    let s = scope_of c.args.scope.now in
    let cs = columns_in c.args.columns.now in
    let rest = map item_of (drop (c.loop-item.item-index + 1) c.args.items.now) in
    let cut =
    at trees.ItemForm item_of c.args.items.now c.loop-item.item-index c.item-item.result c.loop-item-test.true
    c.item-item.is in
    let is : map item_of (drop c.loop-item.item-index c.args.items.now)
    ≡ trees.assertion (assertion_of c.in-Assertion.assertion) ∷ rest = cut
    ∙ ap (λ (x : ItemTree). item_of x ∷ rest) c.in-Assertion.is in
    let r = ready-item s cs _ _ rest is c.loop-item.invariant.ready in
    r.0.sound k

pub resolved_of-requires-clause-listed : goal.resolved_of-requires-clause-listed
resolved_of-requires-clause-listed c =
    let s = scope_of c.args.scope.now in
    let cs = columns_in c.args.columns.now in
    let rest = map item_of (drop (c.loop-item.item-index + 1) c.args.items.now) in
    let cut =
    at trees.ItemForm item_of c.args.items.now c.loop-item.item-index c.item-item.result c.loop-item-test.true
    c.item-item.is in
    let is : map item_of (drop c.loop-item.item-index c.args.items.now)
    ≡ trees.assertion (assertion_of c.in-Assertion.assertion) ∷ rest = cut
    ∙ ap (λ (x : ItemTree). item_of x ∷ rest) c.in-Assertion.is in
    let r = ready-item s cs _ _ rest is c.loop-item.invariant.ready in
    r.0.listed

pub loop-item-preserved : goal.loop-item-preserved
loop-item-preserved c =
    let s = scope_of c.args.scope.now in
    let cs = columns_in c.args.columns.now in
    let rest = map item_of (drop (c.loop-item.item-index + 1) c.args.items.now) in
    let cut =
    at trees.ItemForm item_of c.args.items.now c.loop-item.item-index c.item-item.result c.loop-item-test.true
    c.item-item.is in
    let a = assertion_of c.in-Assertion.assertion in
    let is : map item_of (drop c.loop-item.item-index c.args.items.now) ≡ trees.assertion a ∷ rest =
    cut ∙ ap (λ (x : ItemTree). item_of x ∷ rest) c.in-Assertion.is in
    let r = ready-item s cs _ _ rest is c.loop-item.invariant.ready in
    let more = c.in_ok-made-in-Assertion.ensures.grows in
    record {
      ready = r.1;
      grows = extends_on _ _ _ c.loop-item.invariant.grows more;
      made =
          λ bodies table. seen_more assertions_of _ _ (map item_of c.args.items.now) _ rest (trees.assertion a) a is
          refl
          (λ us h. resolved_more s cs bodies _ _ more us c.loop-item.resolved.items _ c.len-before.result a
          c.in_ok-made-in-Assertion.made (omega (arith, c.len-before.ensures, c.loop-item.resolved.ok))
          c.in_ok-push-in-Assertion.ensures.items (c.in_ok-made-in-Assertion.ensures.resolved bodies table) h)
          (c.loop-item.invariant.made bodies table);
    }

pub loop-item-preserved-in-Counter : goal.loop-item-preserved-in-Counter
loop-item-preserved-in-Counter c =
    let s = scope_of c.args.scope.now in
    let cs = columns_in c.args.columns.now in
    let rest = map item_of (drop (c.loop-item.item-index + 1) c.args.items.now) in
    let cut =
    at trees.ItemForm item_of c.args.items.now c.loop-item.item-index c.item-item.result c.loop-item-test.true
    c.item-item.is in
    let x = trees.counter (counter_of c.in-Counter.field-0) in
    let is : map item_of (drop c.loop-item.item-index c.args.items.now) ≡ x ∷ rest =
    cut ∙ ap (λ (y : ItemTree). item_of y ∷ rest) c.in-Counter.is in
    let r = ready-item s cs _ _ rest is c.loop-item.invariant.ready in
    record {
      ready = r.1;
      grows = c.loop-item.invariant.grows;
      made = λ bodies table. seen_skip assertions_of _ _ (map item_of c.args.items.now) _ rest x is refl (λ us h. h)
          (c.loop-item.invariant.made bodies table);
    }

pub loop-item-preserved-in-Declaration : goal.loop-item-preserved-in-Declaration
loop-item-preserved-in-Declaration c =
    let s = scope_of c.args.scope.now in
    let cs = columns_in c.args.columns.now in
    let rest = map item_of (drop (c.loop-item.item-index + 1) c.args.items.now) in
    let cut =
    at trees.ItemForm item_of c.args.items.now c.loop-item.item-index c.item-item.result c.loop-item-test.true
    c.item-item.is in
    let x = trees.declaration (declaration_of c.in-Declaration.field-0) in
    let is : map item_of (drop c.loop-item.item-index c.args.items.now) ≡ x ∷ rest =
    cut ∙ ap (λ (y : ItemTree). item_of y ∷ rest) c.in-Declaration.is in
    let r = ready-item s cs _ _ rest is c.loop-item.invariant.ready in
    record {
      ready = r.1;
      grows = c.loop-item.invariant.grows;
      made = λ bodies table. seen_skip assertions_of _ _ (map item_of c.args.items.now) _ rest x is refl (λ us h. h)
          (c.loop-item.invariant.made bodies table);
    }

pub returns-clause-resolved : goal.returns-clause-resolved
returns-clause-resolved c = λ bodies table.
    seen_all assertions_of _ (map item_of c.args.items.now) _
    (past_end trees.ItemForm item_of c.args.items.now c.loop-item.item-index c.loop-item-test.false) refl
    (c.loop-item.invariant.made bodies table)
