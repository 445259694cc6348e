use Rattle.types.proofs.EntryLaws.{ok_map}
use Rattle.types.proofs.places.place_sequence.Goals as goal

pub returns-clause-placed : goal.returns-clause-placed
returns-clause-placed c = λ booleans more. ok_map c.placed.result _ _ (λ b p. p.placed booleans more) c.placed.ensures
