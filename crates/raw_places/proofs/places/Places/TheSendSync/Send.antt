use denote.RattleType.{RattleType}
use denote.Param.Send.{IsSend}
use Rattle.raw_places.proofs.Crosses.{places_send}
use Rattle.raw_places.specs.contracts.places.Places.{the_row}

pub send : (R : RattleType) → IsSend R → IsSend (the_row R)
send = places_send
