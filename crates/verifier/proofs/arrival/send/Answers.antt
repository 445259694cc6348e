use Rattle.std.proofs.Common.{reverse}
use Rattle.std.proofs.lemmas.Option.{slice_get-get_or}
use Rattle.verifier.proofs.ArrivalLaws.{sent_holds}
use Rattle.verifier.proofs.arrival.send.Goals as goal

pub returns : goal.returns
returns c =
    let at = slice_get-get_or c.args.pending.now c.args.to c.index-pending-to.result c.requires in
    λ from ms above holds. sent_holds c.args.pending.now from c.args.to (reverse c.args.list.items) _
    c.merge.new.arrival ms at c.merge.ensures above holds
