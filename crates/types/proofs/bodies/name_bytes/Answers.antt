use Rattle.std.proofs.Common.{◌≡◌, ◌+◌, ◌∷◌, [], ◌++◌, ℕ, List, map, drop, refl, sym, ap, ◌∙◌}
use Rattle.std.proofs.lemmas.List.{map-append}
use Rattle.parser_grammar.specs.Trees as trees
use Rattle.parser_grammar.specs.declared.item.ItemTree.{ItemTree}
use Rattle.parser_grammar.specs.Views.{counter_of, declaration_of, assertion_of, item_of}
use Rattle.types_names.proofs.Lists.{at, past_end}
use Rattle.types.specs.Texts.{declarations_of}
use Rattle.types.proofs.SeenLaws.{seen_start, seen_skip, seen_more, seen_all}
use Rattle.types.proofs.bodies.name_bytes.Goals as goal

pub loop-item-init : goal.loop-item-init
loop-item-init c =
    record { made = seen_start declarations_of _ (map item_of c.args.items.now) c.new-bytes.ensures.items }

pub loop-item-preserved-in-Declaration : goal.loop-item-preserved-in-Declaration
loop-item-preserved-in-Declaration c =
    let rest = map item_of (drop (c.loop-item.item-index + 1) c.args.items.now) in
    let cut =
    at trees.ItemForm item_of c.args.items.now c.loop-item.item-index c.item-item.result c.loop-item-test.true
    c.item-item.is in
    let d = declaration_of c.in-Declaration.declaration in
    let is : map item_of (drop c.loop-item.item-index c.args.items.now) ≡ trees.declaration d ∷ rest =
    cut ∙ ap (λ (x : ItemTree). item_of x ∷ rest) c.in-Declaration.is in
    record {
      made = seen_more declarations_of _ _ (map item_of c.args.items.now) _ rest (trees.declaration d) d is refl
          (λ ds h. c.in_ok-push-in-Declaration.ensures.items ∙ ap (λ (bs : List ℕ). bs ++ d.name.at ∷ []) h
          ∙ sym (map-append (λ (x : trees.DeclarationForm). x.name.at) ds (d ∷ []))) c.loop-item.invariant.made;
    }

pub loop-item-preserved-in-Counter : goal.loop-item-preserved-in-Counter
loop-item-preserved-in-Counter c =
    let rest = map item_of (drop (c.loop-item.item-index + 1) c.args.items.now) in
    let cut =
    at trees.ItemForm item_of c.args.items.now c.loop-item.item-index c.item-item.result c.loop-item-test.true
    c.item-item.is in
    let x = trees.counter (counter_of c.in-Counter.field-0) in
    let is : map item_of (drop c.loop-item.item-index c.args.items.now) ≡ x ∷ rest =
    cut ∙ ap (λ (y : ItemTree). item_of y ∷ rest) c.in-Counter.is in
    record {
      made = seen_skip declarations_of _ _ (map item_of c.args.items.now) _ rest x is refl (λ ds h. h)
          c.loop-item.invariant.made;
    }

pub loop-item-preserved : goal.loop-item-preserved
loop-item-preserved c =
    let rest = map item_of (drop (c.loop-item.item-index + 1) c.args.items.now) in
    let cut =
    at trees.ItemForm item_of c.args.items.now c.loop-item.item-index c.item-item.result c.loop-item-test.true
    c.item-item.is in
    let x = trees.assertion (assertion_of c.in-Assertion.field-0) in
    let is : map item_of (drop c.loop-item.item-index c.args.items.now) ≡ x ∷ rest =
    cut ∙ ap (λ (y : ItemTree). item_of y ∷ rest) c.in-Assertion.is in
    record {
      made = seen_skip declarations_of _ _ (map item_of c.args.items.now) _ rest x is refl (λ ds h. h)
          c.loop-item.invariant.made;
    }

pub returns : goal.returns
returns c =
    seen_all declarations_of _ (map item_of c.args.items.now) _
    (past_end trees.ItemForm item_of c.args.items.now c.loop-item.item-index c.loop-item-test.false) refl
    c.loop-item.invariant.made
