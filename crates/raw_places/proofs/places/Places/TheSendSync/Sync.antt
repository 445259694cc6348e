use denote.RattleType.{RattleType}
use denote.Param.Send.{IsSync}
use Rattle.raw_places.proofs.Crosses.{places_sync}
use Rattle.raw_places.specs.contracts.places.Places.{the_row}

pub sync : (R : RattleType) → IsSync R → IsSync (the_row R)
sync = places_sync
