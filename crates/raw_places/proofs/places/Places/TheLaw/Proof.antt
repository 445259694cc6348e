-- A `&` to the places reaches each value. Assumes `Logic`.
use mathlib.Core.List.{[], ◌++◌}
use base.Fml.{Incl-trans}
use contract.BorrowLft.{meet_⊑_left}
use denote.RattleType.{RattleType}
use denote.Param.Laws.{Laws}
use denote.Param.Shared.{copy_shared}
use denote.Struct.Field.{RawPtr-field, usize-field}
use denote.Struct.Laws.{RawPtr-copy, usize-copy}
use denote.Struct.Lending.{of_Lends}
use Rattle.raw_places.specs.contracts.places.Places as Places
use Rattle.raw_places.proofs.places.Places.TheLaw.Statement.{statement}
use Rattle.raw_places.proofs.Sharing.{places_laws, Lends-places}

pub shares : (R : RattleType) (L : Laws R) → statement R L
shares R L = of_Lends (Places.struct R) (Places.the_codes R.Denot R.coded) (Places.the_heap R)
    (Places.the_lent R) (λ p at. places_laws R L.shr_laws p.start p.held)
    (copy_shared RawPtr-field RawPtr-copy, (copy_shared usize-field usize-copy, tt))
    (λ M 𝓤 𝓛 p at. Lends-places 𝓛 (Places.the_row R).lives R L
    (Incl-trans (meet_⊑_left (R.lives ++ []) _) (meet_⊑_left R.lives [])) p.start p.held)
