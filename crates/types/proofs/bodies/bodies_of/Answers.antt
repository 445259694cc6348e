use Rattle.std.proofs.Common.{◌≡◌, ◌+◌, ◌∷◌, [], List, map, drop, refl, sym, ap, ◌∙◌, subst}
use Rattle.parser_grammar.specs.Trees as trees
use Rattle.assertions.specs.declared.sequence.Boolean.{Boolean}
use Rattle.types.specs.Drafts.{Draft}
use Rattle.types.specs.Views.{draft_of}
use Rattle.parser_grammar.specs.declared.item.ItemTree.{ItemTree}
use Rattle.parser_grammar.specs.Views.{counter_of, declaration_of, assertion_of, item_of}
use Rattle.types_names.specs.Views.{scope_of, columns_in}
use Rattle.types_names.proofs.Lists.{at, past_end}
use Rattle.types.specs.Readings.{AllRead}
use Rattle.types.specs.Texts.{declarations_of}
use Rattle.types.proofs.CounterLaws.{ready-item}
use Rattle.types.proofs.ReadingLaws.{extends_same, extends_on}
use Rattle.types.proofs.SeenLaws.{seen_start, seen_skip, seen_more, seen_all}
use Rattle.types.proofs.BodyLaws.{bodies_in, body_more}
use Rattle.types.proofs.bodies.bodies_of.Goals as goal

pub loop-item-init : goal.loop-item-init
loop-item-init c =
    record {
      ready = record { sound = c.requires.sound; listed = c.requires.listed };
      grows = extends_same c.args.booleans.now.items;
      read = seen_start declarations_of _ (map item_of c.args.items.now)
          (subst (λ (ms : List (Draft Boolean)). AllRead (scope_of c.args.scope.now) (columns_in c.args.columns.now)
          c.args.booleans.now.items (bodies_in []) ms) (sym (ap (map draft_of) c.new-bodies.ensures.items)) tt);
    }

pub draft_of-requires-clause-sound : goal.draft_of-requires-clause-sound
draft_of-requires-clause-sound c = λ k.
    let s = scope_of c.args.scope.now in
    let cs = columns_in c.args.columns.now in
    let rest = map item_of (drop (c.loop-item.item-index + 1) c.args.items.now) in
    let cut =
    at trees.ItemForm item_of c.args.items.now c.loop-item.item-index c.item-item.result c.loop-item-test.true
    c.item-item.is in
    let is : map item_of (drop c.loop-item.item-index c.args.items.now)
    ≡ trees.declaration (declaration_of c.in-Declaration.declaration) ∷ rest = cut
    ∙ ap (λ (x : ItemTree). item_of x ∷ rest) c.in-Declaration.is in
    let r = ready-item s cs _ _ rest is c.loop-item.invariant.ready in
    rw c.deref.ensures (r.0.sound k)

pub draft_of-requires-clause-listed : goal.draft_of-requires-clause-listed
draft_of-requires-clause-listed c =
    let s = scope_of c.args.scope.now in
    let cs = columns_in c.args.columns.now in
    let rest = map item_of (drop (c.loop-item.item-index + 1) c.args.items.now) in
    let cut =
    at trees.ItemForm item_of c.args.items.now c.loop-item.item-index c.item-item.result c.loop-item-test.true
    c.item-item.is in
    let is : map item_of (drop c.loop-item.item-index c.args.items.now)
    ≡ trees.declaration (declaration_of c.in-Declaration.declaration) ∷ rest = cut
    ∙ ap (λ (x : ItemTree). item_of x ∷ rest) c.in-Declaration.is in
    let r = ready-item s cs _ _ rest is c.loop-item.invariant.ready in
    rw c.deref.ensures r.0.listed

pub loop-item-preserved-in-Declaration : goal.loop-item-preserved-in-Declaration
loop-item-preserved-in-Declaration c =
    let s = scope_of c.args.scope.now in
    let cs = columns_in c.args.columns.now in
    let rest = map item_of (drop (c.loop-item.item-index + 1) c.args.items.now) in
    let cut =
    at trees.ItemForm item_of c.args.items.now c.loop-item.item-index c.item-item.result c.loop-item-test.true
    c.item-item.is in
    let is : map item_of (drop c.loop-item.item-index c.args.items.now)
    ≡ trees.declaration (declaration_of c.in-Declaration.declaration) ∷ rest = cut
    ∙ ap (λ (x : ItemTree). item_of x ∷ rest) c.in-Declaration.is in
    let r = ready-item s cs _ _ rest is c.loop-item.invariant.ready in
    let more = c.in_ok-body-in-Declaration.ensures.grows in
    record {
      ready = r.1;
      grows = extends_on _ _ _ c.loop-item.invariant.grows more;
      read =
          seen_more declarations_of _ _ (map item_of c.args.items.now) _ rest
          (trees.declaration (declaration_of c.in-Declaration.declaration))
          (declaration_of c.in-Declaration.declaration) is refl
          (λ ds h. body_more s cs _ _ more ds c.loop-item.bodies.items _ (declaration_of c.in-Declaration.declaration)
          c.into_inner.result c.in_ok-push-in-Declaration.ensures.items
          (rw c.into_inner.ensures (rw c.deref.ensures at c.in_ok-body-in-Declaration.ensures.reads)) h)
          c.loop-item.invariant.read;
    }

pub loop-item-preserved-in-Counter : goal.loop-item-preserved-in-Counter
loop-item-preserved-in-Counter c =
    let s = scope_of c.args.scope.now in
    let cs = columns_in c.args.columns.now in
    let rest = map item_of (drop (c.loop-item.item-index + 1) c.args.items.now) in
    let cut =
    at trees.ItemForm item_of c.args.items.now c.loop-item.item-index c.item-item.result c.loop-item-test.true
    c.item-item.is in
    let is : map item_of (drop c.loop-item.item-index c.args.items.now)
    ≡ trees.counter (counter_of c.in-Counter.field-0) ∷ rest = cut
    ∙ ap (λ (x : ItemTree). item_of x ∷ rest) c.in-Counter.is in
    let r = ready-item s cs _ _ rest is c.loop-item.invariant.ready in
    record {
      ready = r.1;
      grows = c.loop-item.invariant.grows;
      read =
          seen_skip declarations_of _ _ (map item_of c.args.items.now) _ rest
          (trees.counter (counter_of c.in-Counter.field-0)) is refl (λ ds h. h) c.loop-item.invariant.read;
    }

pub loop-item-preserved : goal.loop-item-preserved
loop-item-preserved c =
    let s = scope_of c.args.scope.now in
    let cs = columns_in c.args.columns.now in
    let rest = map item_of (drop (c.loop-item.item-index + 1) c.args.items.now) in
    let cut =
    at trees.ItemForm item_of c.args.items.now c.loop-item.item-index c.item-item.result c.loop-item-test.true
    c.item-item.is in
    let is : map item_of (drop c.loop-item.item-index c.args.items.now)
    ≡ trees.assertion (assertion_of c.in-Assertion.field-0) ∷ rest = cut
    ∙ ap (λ (x : ItemTree). item_of x ∷ rest) c.in-Assertion.is in
    let r = ready-item s cs _ _ rest is c.loop-item.invariant.ready in
    record {
      ready = r.1;
      grows = c.loop-item.invariant.grows;
      read =
          seen_skip declarations_of _ _ (map item_of c.args.items.now) _ rest
          (trees.assertion (assertion_of c.in-Assertion.field-0)) is refl (λ ds h. h) c.loop-item.invariant.read;
    }

pub returns-clause-read : goal.returns-clause-read
returns-clause-read c =
    seen_all declarations_of _ (map item_of c.args.items.now) _
    (past_end trees.ItemForm item_of c.args.items.now c.loop-item.item-index c.loop-item-test.false) refl
    c.loop-item.invariant.read
