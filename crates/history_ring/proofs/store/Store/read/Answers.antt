use Rattle.std.proofs.Common.{◌≡◌, ◌<◌, length, get_or, ap, sym, ◌∙◌, arith}
use Rattle.std.specs.Prelude.{Some}
use Rattle.raw_places.specs.Filled.{values_of}
use Rattle.history_ring.proofs.Fills.{get_or-held}
use Rattle.history_ring.proofs.store.Store.read.Goals as goal

pub read-requires : goal.read-requires
read-requires c =
    let places = c.self.inside.places.held in
    let inside : c.args.at < length (values_of places) =
    omega (arith, c.requires, ap length c.self.view_is) in
    (get_or (values_of places) c.args.at 0, get_or-held places c.args.at c.self.invariant.0 inside)

pub returns : goal.returns
returns c =
    let places = c.self.inside.places.held in
    let inside : c.args.at < length (values_of places) =
    omega (arith, c.requires, ap length c.self.view_is) in
    let is : Some c.read.result ≡ Some (get_or (values_of places) c.args.at 0) =
    sym c.read.ensures ∙ get_or-held places c.args.at c.self.invariant.0 inside in
    let same : c.read.result ≡ get_or (values_of places) c.args.at 0 = cc in
    rw (← c.self.view_is) same
