use Rattle.std.proofs.Common.{◌+◌, ◌≤◌, length, sym, ap, arith, ◌∙◌}
use Rattle.raw_places.specs.Filled.{values_of}
use Rattle.history_ring.proofs.Fills.{AllHeld-map, values_of-is, row-values}
use Rattle.history_ring.proofs.store.Store.write.Goals as goal

pub invariant_of-self : goal.invariant_of-self
invariant_of-self c =
    let b = c.self.inside in
    let fits : c.args.at + length c.args.row.now ≤ length (values_of b.places.held) =
    omega (arith, c.requires, ap length c.self.view_is) in
    let h = c.self.invariant in let same = c.write_row.ensures.same in (
      AllHeld-map _ _
          (row-values b.places.held c.args.at c.args.row.now _ h.0 fits c.write_row.ensures.written),
      h.1,
      h.2 ∙ sym same.0,
      h.3 ∙ sym same.1,
    )

pub returns : goal.returns
returns c =
    let b = c.self.inside in
    let fits : c.args.at + length c.args.row.now ≤ length (values_of b.places.held) =
    omega (arith, c.requires, ap length c.self.view_is) in
    rw (← c.self.view_is) (values_of-is _ _
    (row-values b.places.held c.args.at c.args.row.now _ c.self.invariant.0 fits
    c.write_row.ensures.written))
