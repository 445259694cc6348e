-- What a `&` to the places shows: the pointer of the block, and one value. Assumes `Logic`.
use Rattle.std.proofs.Common.{ℕ, ◌+◌, [], ◌∷◌}
use seplogic.Ra.Ura.{Ura}
use base.Logic.{ent, sep}
use base.Fml.{Lft, Fml}
use mir.Syntax.{w64}
use types.Logic.{Logic, sem}
use types.Kit.{‵, ◌$◌, ◌∵◌, !, qed, keep, fsplit, done}
use denote.RattleType.{RattleType, RowLaws}
use denote.Memory.{hidden_shr}
use denote.Opens.{shr_dup, unhide, hide}
use denote.Plain.{uint_row_laws}
use denote.RawPtr.{Ptr, RawPtr, ptr_row_laws}
use denote.Struct.Struct.{Struct, Struct-row_laws}
use denote.Struct.Owning.{shape}
use Rattle.raw_places.specs.contracts.places.Places as Places

-- the fields, without what they own
abbrev pub Fields : RattleType → RattleType
Fields R = Struct (shape (Places.the_type R))

fields_laws : (R : RattleType) → RowLaws (Fields R)
fields_laws R =
    Struct-row_laws (shape (Places.the_type R)) (ptr_row_laws, (uint_row_laws w64, tt))

abbrev pub fields_seen : RattleType → Lft → Ptr → ℕ → ℕ → ℕ → Fml
fields_seen R κ start count b o = hidden_shr (Fields R) κ (start, (count, tt)) b o

pub start_seen : {M : Type 1} {𝓤 : Ura M} (𝓛 : Logic 𝓤) (R : RattleType) (κ : Lft) (start : Ptr)
    (count b o : ℕ) → ent 𝓤 (sem 𝓛 (fields_seen R κ start count b o))
    (sep 𝓤 (sem 𝓛 (hidden_shr RawPtr κ start b (o + 0)))
    (sem 𝓛 (fields_seen R κ start count b o)))
start_seen 𝓛 R κ start count b o = qed 𝓛 (‵ (fields_seen R κ start count b o) ∷ []) ∵
    shr_dup ! (Fields R) (fields_laws R) (start, (count, tt)) b o κ $ unhide ! $ fsplit ! $
    fsplit ! $ hide ! $ keep ! (0 ∷ 3 ∷ []) $ done !
