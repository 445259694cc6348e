-- The machine values of `Places` and `Lease`: what their fields own tells them, and is made of
-- nothing. Assumes `Logic`.
use Rattle.std.proofs.Common.{◌≡◌, ℕ, ◌^◌, ◌<◌, List, [], ◌∷◌, ◌++◌, refl, ◌∙◌, w64}
use seplogic.Ra.Ura.{Ura}
use mir.Val.{Val, vint, vstruct, vcons, vnil, of_list}
use base.Logic.{ent, emp}
use base.Fml.{Fml}
use types.Logic.{Logic, sem}
use denote.RattleType.{RattleType}
use denote.Builtin.{usize}
use denote.RawPtr.{Ptr, RawPtr, ptr_val}
use denote.Shadow.{shadow, makes_shadow}
use denote.Struct.Struct.{Struct}

-- a struct by its fields alone: what it owns does not read its name
abbrev nameless : List RattleType → RattleType
nameless fields = Struct (record { name = []; args = []; types = []; fields = fields })

abbrev pub places_val : Ptr → ℕ → Val
places_val start count = vstruct (vcons (ptr_val start) (vcons (vint w64 count) vnil))

abbrev pub places_fields : Ptr → ℕ → List Val → Fml
places_fields start count = (nameless (RawPtr ∷ usize ∷ [])).own_val (start, (count, tt))

pub places_told : (start : Ptr) (count : ℕ) (vs : List Val) → shadow (places_fields start count vs)
    → (vs ≡ places_val start count ∷ []) × (count < 2 ^ 64)
places_told start count vs s =
    (s.1.0 ∙ (λ i. vstruct (of_list (s.1.1.0 i ++ (s.1.1.1.0.0 i ++ []))) ∷ []), s.1.1.1.0.1)

pub places_made : {M : Type 1} {𝓤 : Ura M} (𝓛 : Logic 𝓤) (start : Ptr) (count : ℕ)
    → count < 2 ^ 64
    → ent 𝓤 (emp 𝓤) (sem 𝓛 (places_fields start count (places_val start count ∷ [])))
places_made 𝓛 start count fits =
    makes_shadow 𝓛 (places_fields start count (places_val start count ∷ []))
    (λ _. (tt, (tt, ((tt, tt), tt))))
    ((ptr_val start ∷ [], (vint w64 count ∷ [], tt)), (refl, (refl, ((refl, fits), tt))))

abbrev pub lease_val : Val
lease_val = vstruct (vcons (vstruct vnil) vnil)

abbrev pub lease_fields : List Val → Fml
lease_fields = (nameless (nameless [] ∷ [])).own_val (tt, tt)

pub lease_told : (vs : List Val) → shadow (lease_fields vs) → vs ≡ lease_val ∷ []
lease_told vs s = s.1.0 ∙ (λ i. vstruct (of_list (s.1.1.0.1.0 i ++ [])) ∷ [])

pub lease_made : {M : Type 1} {𝓤 : Ura M} (𝓛 : Logic 𝓤)
    → ent 𝓤 (emp 𝓤) (sem 𝓛 (lease_fields (lease_val ∷ [])))
lease_made 𝓛 = makes_shadow 𝓛 (lease_fields (lease_val ∷ [])) (λ _. (tt, ((λ _. (tt, tt)), tt)))
    ((vstruct vnil ∷ [], tt), (refl, ((tt, (refl, tt)), tt)))
