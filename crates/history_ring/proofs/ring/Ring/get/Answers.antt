use Rattle.std.proofs.Common.{◌≤◌, ◌<◌, ◌∙◌, sym, ap, arith}
use Rattle.history_ring.proofs.TurnedLaws.{row_fits, rows_fit, history_of-slots, history_of-depth}
use Rattle.history_ring.proofs.TurnedLaws.{get_or-history_of}
use Rattle.history_ring.proofs.ring.Ring.get.Goals as goal

pub behind-row-requires-clause-back : goal.behind-row-requires-clause-back
behind-row-requires-clause-back c =
    let r = c.self.inside in
    omega (
      arith,
      c.requires.reach,
      ap (λ h. h.depth) (sym c.self.view_is)
          ∙ history_of-depth r.depth r.slots r.newest r.store,
    )

pub overflow_add-row : goal.overflow_add-row
overflow_add-row c =
    let r = c.self.inside in
    let range : c.args.slot < r.slots = omega (
      arith,
      c.requires.range,
      ap (λ h. h.slots)
          (sym c.self.view_is) ∙ history_of-slots r.depth r.slots r.newest r.store,
    ) in
    record {
      fits = omega (
        arith,
        row_fits r.depth r.slots c.behind-row.result c.behind-row.ensures.inside,
        rows_fit
            r.depth r.slots c.self.invariant.depth_at_most c.self.invariant.slots_at_most,
      );
    }

pub read-requires : goal.read-requires
read-requires c =
    let r = c.self.inside in
    let range : c.args.slot < r.slots = omega (
      arith,
      c.requires.range,
      ap (λ h. h.slots)
          (sym c.self.view_is) ∙ history_of-slots r.depth r.slots r.newest r.store,
    ) in
    omega (
      arith,
      row_fits r.depth r.slots c.behind-row.result c.behind-row.ensures.inside,
      c.self.invariant.full,
    )

pub returns : goal.returns
returns c =
    let r = c.self.inside in
    let range : c.args.slot < r.slots = omega (
      arith,
      c.requires.range,
      ap (λ h. h.slots)
          (sym c.self.view_is) ∙ history_of-slots r.depth r.slots r.newest r.store,
    ) in
    let reach : c.args.back ≤ r.depth = omega (
      arith,
      c.requires.reach,
      ap (λ h. h.depth)
          (sym c.self.view_is) ∙ history_of-depth r.depth r.slots r.newest r.store,
    ) in
    c.read.ensures
    ∙ rw (← c.self.view_is) (sym
    (get_or-history_of r.depth r.slots r.newest c.args.back c.behind-row.result c.args.slot r.store
    c.self.invariant c.behind-row.ensures reach range))
