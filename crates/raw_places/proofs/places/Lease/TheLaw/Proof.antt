-- A `&` to the right holds nothing. Assumes `Logic`.
use denote.RattleType.{RattleType}
use denote.RawPtr.{RawPtr}
use denote.Param.Laws.{Laws}
use denote.Param.Shared.{copy_shared}
use denote.SharingLaws.{nothing_shr_laws}
use denote.Struct.Laws.{field_copy}
use denote.Struct.Lending.{of_Lends, Lends-nothing}
use Rattle.core.specs.declared.alloc.Allocator.{Ghosts}
use Rattle.core.specs.contracts.marker.PhantomData as marker
use Rattle.raw_places.specs.contracts.places.Lease as Lease
use Rattle.raw_places.proofs.places.Lease.TheLaw.Statement.{statement}

pub shares : (R A : RattleType) (g : Ghosts A.Denot) (L : Laws R) (P : Laws A)
    → statement R A g L P
shares R A g L P = of_Lends (Lease.struct R A g)
    (Lease.the_codes R.Denot A.Denot R.coded A.coded (marker.the_row RawPtr).coded)
    (Lease.the_heap R A g) (Lease.the_lent R A g) (λ l at. nothing_shr_laws)
    (copy_shared (marker.the_field RawPtr) (field_copy (marker.the_type RawPtr) tt), tt)
    (λ M 𝓤 𝓛 l at. Lends-nothing 𝓛 (Lease.the_heap R A g l) (Lease.the_row R A g).lives)
