use Rattle.std.proofs.Common.{◌≡◌, ◌∙◌, sym, ap, arith, length}
use Rattle.history_ring.proofs.TurnedLaws.{row_fits, history_of-slots, history_of-written}
use Rattle.history_ring.proofs.TurnedLaws.{IsTurned-written}
use Rattle.history_ring.proofs.ring.Ring.push.Goals as goal

pub write-requires : goal.write-requires
write-requires c =
    let r = c.self.inside in
    let long : length c.args.row.now ≡ r.slots = c.requires
    ∙ ap (λ h. h.slots) (sym c.self.view_is)
    ∙ history_of-slots r.depth r.slots r.newest r.store in
    omega (
      arith,
      row_fits r.depth r.slots c.before-newest.result c.before-newest.ensures.inside,
      c.self.invariant.full,
    )

pub invariant_of-self : goal.invariant_of-self
invariant_of-self c =
    let r = c.self.inside in
    let long : length c.args.row.now ≡ r.slots = c.requires
    ∙ ap (λ h. h.slots) (sym c.self.view_is)
    ∙ history_of-slots r.depth r.slots r.newest r.store in
    rw c.write.ensures
    (IsTurned-written r.depth r.slots r.newest c.before-newest.result r.store c.args.row.now
    c.self.invariant c.before-newest.ensures long)

pub returns : goal.returns
returns c =
    let r = c.self.inside in
    let long : length c.args.row.now ≡ r.slots = c.requires
    ∙ ap (λ h. h.slots) (sym c.self.view_is)
    ∙ history_of-slots r.depth r.slots r.newest r.store in
    rw (← c.self.view_is, c.write.ensures)
    (history_of-written r.depth r.slots r.newest c.before-newest.result r.store c.args.row.now
    c.self.invariant c.before-newest.ensures long)
