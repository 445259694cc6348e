use Rattle.std.proofs.Common.{◌≡◌, ◌+◌, ◌∷◌, ℕ, Bool, true, false, List, Option, Some, None}
use Rattle.std.proofs.Common.{map, drop, refl, sym, ap, ◌∙◌, arith}
use Rattle.parser_grammar.specs.Trees as trees
use Rattle.parser_grammar.specs.Views.{item_of}
use Rattle.types_names.specs.Faults.{earlier, least}
use Rattle.types_names.proofs.Lists.{at}
use Rattle.std.specs.Bool.{OnFalse}
use Rattle.std.specs.BTreeSet.{contains_text}
use Rattle.types.specs.Texts.{name_made, assertions_after, names_from}
use Rattle.types.proofs.NameLaws.{not_is, repeated_by, none_known, known_step, new_step, after_most}
use Rattle.types.proofs.names.first_duplicate.Goals as goal

-- what stands at the place, and the rest
cut_at :
    (before after : ℕ) (known : List ℕ → Bool) (fault total : Option ℕ)
    (all rest : List trees.ItemForm) (x : trees.ItemForm) → all ≡ x ∷ rest
    → after ≡ assertions_after before x
    → earlier fault (least (repeated_by known (names_from before all))) ≡ total
    → earlier fault (least (repeated_by known (name_made before x ∷ names_from after rest)))
    ≡ total
cut_at before after known fault total all rest x e a h = rw a (rw e at h)

-- a set is the same where nothing was new
same_keys : (added : Bool) (P : Type 0) → added ≡ false → OnFalse added P → P
same_keys false P e h = h
same_keys true P e h = absurd cc

pub loop-item-preserved-then-branch : goal.loop-item-preserved-then-branch
loop-item-preserved-then-branch c =
    let l = c.loop-item in
    let x = c.item-item.result in
    let after = c.assertions_after-before in
    let cut = at trees.ItemForm item_of c.args.items.now l.item-index x c.loop-item-test.true
    c.item-item.is in
    let rest = map item_of (drop (l.item-index + 1) c.args.items.now) in
    record {
      place = rw after.ensures (after_most l.before l.item-index (item_of x) l.invariant.place);
      rest = new_step l.known c.insert.new.self c.in_ok-text.field-0.text (name_made l.before (item_of x))
          (names_from after.result rest) l.fault _ c.in_ok-text.ensures.text
          (not_is _ _ (sym c.in_ok-insert.ensures.added ∙ c.if-branch.true))
          c.in_ok-insert.ensures.updates
          (cut_at l.before after.result _ l.fault _ _ rest (item_of x) cut after.ensures
          l.invariant.rest);
    }

pub loop-item-preserved : goal.loop-item-preserved
loop-item-preserved c =
    let l = c.loop-item in
    let x = c.item-item.result in
    let after = c.assertions_after-before in
    let cut = at trees.ItemForm item_of c.args.items.now l.item-index x c.loop-item-test.true
    c.item-item.is in
    let rest = map item_of (drop (l.item-index + 1) c.args.items.now) in
    record {
      place = rw after.ensures (after_most l.before l.item-index (item_of x) l.invariant.place);
      rest = known_step l.known c.insert.new.self c.in_ok-text.field-0.text (name_made l.before (item_of x))
          (names_from after.result rest) l.fault c.earlier-fault.result _
          c.in_ok-text.ensures.text
          (not_is _ _ (sym c.in_ok-insert.ensures.added ∙ c.if-branch.false))
          (same_keys _ _ c.if-branch.false c.in_ok-insert.ensures.unchanged)
          (c.earlier-fault.ensures
          ∙ ap (λ (b : ℕ). earlier l.fault (Some b)) c.in_ok-text.ensures.at)
          (cut_at l.before after.result _ l.fault _ _ rest (item_of x) cut after.ensures
          l.invariant.rest);
    }

pub loop-item-init : goal.loop-item-init
loop-item-init c = record {
  place = omega arith;
  rest = ap (λ (ns : List ℕ). earlier None (least ns)) (none_known (contains_text c.new-known.result) _
      (λ q. rw c.new-known.ensures.empty refl));
}
