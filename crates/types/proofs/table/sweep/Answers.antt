use Rattle.std.proofs.Common.{ℕ, List, Option, Some, map, length, sym, subst, arith, ap, ◌∙◌}
use Rattle.std.proofs.lemmas.List.{length-set}
use Rattle.types.specs.declared.entry.Entry.{Entry}
use Rattle.types.specs.Views.{draft_of}
use Rattle.types.proofs.TableLaws.{State, make, keep, skip}
use Rattle.types.proofs.table.sweep.Goals as goal

pub places-preserved-then-place-bodies : goal.places-preserved-then-place-bodies
places-preserved-then-place-bodies c =
    record {
      state =
          skip (map draft_of c.args.bodies.now) c.args.table.now.items c.args.places.items c.places.table.items
          c.places.left.items c.pop.new.self.items c.places.still.items c.in-Some.place c.in-Some.ensures.items
          (omega (arith, c.if-place-bodies.true, c.places.invariant.long)) c.places.invariant.state;
      long = c.places.invariant.long;
    }

pub places-preserved-in-Some-2 : goal.places-preserved-in-Some-2
places-preserved-in-Some-2 c =
    let made = rw (c.in-Some-2.is, c.deref.ensures.value) at c.in_ok-entry.ensures.entry in
    record {
      state =
          subst (λ (xs : List (Option Entry)). State (map draft_of c.args.bodies.now) c.args.table.now.items
          c.args.places.items xs c.pop.new.self.items c.places.still.items) (sym c.put.ensures)
          (make (map draft_of c.args.bodies.now) c.args.table.now.items c.args.places.items c.places.table.items
          c.places.left.items c.pop.new.self.items c.places.still.items c.in-Some.place c.in-Some-2.entry
          c.in-Some.ensures.items (omega (arith, c.if-place-bodies.false, c.places.invariant.long)) made
          c.places.invariant.state);
      long =
          ap length c.put.ensures ∙ length-set c.places.table.items c.in-Some.place (Some c.in-Some-2.entry)
          ∙ c.places.invariant.long;
    }

pub places-preserved : goal.places-preserved
places-preserved c =
    let lacks = rw (c.in-None.is, c.deref.ensures.value) at c.in_ok-entry.ensures.lacking in
    record {
      state =
          subst (λ (xs : List ℕ). State (map draft_of c.args.bodies.now) c.args.table.now.items c.args.places.items
          c.places.table.items c.pop.new.self.items xs) (sym c.in_ok-push-in-None.ensures.items)
          (keep (map draft_of c.args.bodies.now) c.args.table.now.items c.args.places.items c.places.table.items
          c.places.left.items c.pop.new.self.items c.places.still.items c.in-Some.place c.in-Some.ensures.items
          lacks c.places.invariant.state);
      long = c.places.invariant.long;
    }
