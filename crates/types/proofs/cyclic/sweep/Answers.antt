use Rattle.std.proofs.Common.{ℕ, List, subst, map, true, sym, ◌∙◌, arith}
use Rattle.std.proofs.lemmas.List.{length-set}
use Rattle.types.specs.Views.{draft_of}
use Rattle.types.proofs.SweepLaws.{State, mark, keep, skip}
use Rattle.types.proofs.cyclic.sweep.Goals as goal

pub places-preserved-then-place-len : goal.places-preserved-then-place-len
places-preserved-then-place-len c =
    record {
      state =
          skip (map draft_of c.args.bodies.now) c.args.goal c.args.marks.now.items c.args.places.items
          c.places.marks.items c.places.left.items c.pop.new.self.items c.places.still.items c.in-Some.place
          c.in-Some.ensures.items (omega (arith, c.if-place-len.true, c.len.ensures)) c.places.invariant.state;
      long = c.places.invariant.long;
    }

pub places-preserved-then-place_leads : goal.places-preserved-then-place_leads
places-preserved-then-place_leads c =
    record {
      state =
          mark (map draft_of c.args.bodies.now) c.args.goal c.args.marks.now.items c.args.places.items
          c.places.marks.items c.places.left.items c.pop.new.self.items c.places.still.items c.in-Some.place
          c.in-Some.ensures.items (omega (arith, c.if-place-len.false, c.len.ensures))
          (rw c.deref.ensures.value at (sym c.place_leads.ensures ∙ c.if-place_leads.true)) c.places.invariant.state;
      long = length-set c.places.marks.items c.in-Some.place true ∙ c.places.invariant.long;
    }

pub places-preserved : goal.places-preserved
places-preserved c =
    record {
      state =
          subst (λ (xs : List ℕ). State (map draft_of c.args.bodies.now) c.args.goal c.args.marks.now.items
          c.args.places.items c.places.marks.items c.pop.new.self.items xs) (sym c.in_ok-push.ensures.items)
          (keep (map draft_of c.args.bodies.now) c.args.goal c.args.marks.now.items c.args.places.items
          c.places.marks.items c.places.left.items c.pop.new.self.items c.places.still.items c.in-Some.place
          c.in-Some.ensures.items (rw c.deref.ensures.value at (sym c.place_leads.ensures ∙ c.if-place_leads.false))
          c.places.invariant.state);
      long = c.places.invariant.long;
    }
