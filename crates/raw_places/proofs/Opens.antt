-- What the places own is taken apart and made, and a `&mut` to them is opened and closed.
-- Assumes `Logic`.
use Rattle.std.proofs.Common.{◌≡◌, ℕ, ◌*◌, ◌^◌, ◌<◌, List, [], ◌∷◌, ◌++◌, length, refl, sym, ap}
use Rattle.std.proofs.Common.{◌∙◌}
use Rattle.std.proofs.Common.{w64}
use seplogic.Ra.Ura.{Ura}
use base.Fraction.{full_share}
use base.Logic.{id⊢, never}
use base.Stored.{Gv}
use base.Fml.{Lft, GName, Share, Fml, fsep, flft, fobs, fauth, fbor, fobor}
use mir.Val.{Val, vint, vptr, vstruct, of_list}
use types.Logic.{Logic}
use types.Kit.{Goal, Soaks, Step, step, Seq, Item, ‵, ◌$◌, move, drop, rewrite, fsplit, fjoin}
use types.Kit.{fpick}
use types.Kit.{fpack, feq_l, feq_i, flt_l, flt_i}
use types.SemTy.{Body}
use denote.RattleType.{RattleType, Valss}
use denote.Memory.{cell_at, mem}
use denote.RawPtr.{Ptr, block_ptr, in_a_block}
use denote.Steps.{opens, closes, nothing}
use denote.Struct.Struct.{Struct, within}
use denote.Struct.Owning.{Owning, shape}
use Rattle.core.proofs.mem.Param.{El, R, el_x}
use Rattle.raw_places.specs.Ownership.{row_owned, places_owned}
use Rattle.raw_places.specs.declared.places.Places.{Places}
use Rattle.raw_places.specs.contracts.places.Places as C
use Rattle.raw_places.proofs.Rows.{sz}
use Rattle.raw_places.proofs.Values.{places_val}

module _ (E : El) where
  abbrev pub owning : Owning
  owning = C.the_type (R E)

  abbrev pub Pr : RattleType
  Pr = C.the_row (R E)

  abbrev pub el_d : Type 0
  el_d = Places (el_x E)

  -- the two data fields, as a plain struct
  abbrev pub Words : RattleType
  Words = Struct (shape owning)

  abbrev pub row_at : el_d → ℕ → ℕ → Fml
  row_at d b o = row_owned (R E) b o d.held

abbrev pub block_val : ℕ → ℕ → ℕ → Val
block_val b o n = places_val (block_ptr b o) n

module _ (E : El) {M : Type 1} {𝓤 : Ura M} {𝓛 : Logic 𝓤} {K : Type 0} {Γ : List (Item 𝓤)}
    {G : Goal 𝓤 𝓛.H} where
  pub places_had : K → (d : el_d E) (vs : List Val)
      → ((b o : ℕ) → d.start ≡ block_ptr b o → vs ≡ block_val b o d.count ∷ []
      → d.count < 2 ^ 64 → length d.held * sz E < 2 ^ 63 → Seq K 𝓛 (‵ (row_at E d b o) ∷ Γ) G)
      → Seq K 𝓛 (‵ ((Pr E).own_val d vs) ∷ Γ) G
  places_had t d vs k =
      fsplit t $ fpick t (λ vss. fsplit t $ feq_l t (λ all. fsplit t $ feq_l t (λ e₀. fsplit t $
      fsplit t $ feq_l t (λ e₁. flt_l t (λ fn. drop t $
      in_a_block t d.start (λ p. places_owned (R E) p d.held) (id⊢ 𝓤 (never 𝓤)) (λ b o e.
      fsplit t $ flt_l t (λ fit. k b o e
      (all ∙ ((λ i. vstruct (of_list (e₀ i ++ (e₁ i ++ []))) ∷ [])
      ∙ ap (λ (p : Ptr). places_val p d.count ∷ []) e)) fn fit)))))))

  pub places_made : K → (d : el_d E) (b o : ℕ) → d.start ≡ block_ptr b o → d.count < 2 ^ 64
      → length d.held * sz E < 2 ^ 63
      → Step K 𝓛 (‵ ((Pr E).own_val d (block_val b o d.count ∷ [])) ∷ Γ) G
      (‵ (row_at E d b o) ∷ Γ) G
  places_made t d b o at fn fit = step (λ s.
      let word = vint w64 d.count ∷ [] in let all = block_val b o d.count ∷ [] in
      flt_i t (length d.held * sz E) (2 ^ 63) fit $ fjoin t $
      nothing t $ flt_i t d.count (2 ^ 64) fn $ feq_i t (List Val) word word refl $ fjoin t $
      fjoin t $ feq_i t (List Val) (vptr b o ∷ []) (vptr b o ∷ []) refl $ fjoin t $
      feq_i t (List Val) all all refl $ fjoin t $
      fpack t (Valss (shape (owning E)).fields)
      (within (shape (owning E)) (block_ptr b o, (d.count, tt)) all)
      (vptr b o ∷ [], (word, tt)) $ fjoin t $
      rewrite t 0 (λ (p : Ptr). ‵ (fsep ((Words E).own_val (p, (d.count, tt)) all)
      (places_owned (R E) p d.held))) (sym at) refl $ s)

module _ (E : El) {M : Type 1} {𝓤 : Ura M} {𝓛 : Logic 𝓤} {K : Type 0} {Γ : List (Item 𝓤)}
    {G : Goal 𝓤 𝓛.H} where
  -- [the row; the two words; the open borrow; obs; auth]
  pub places_open : K → Soaks G → {κ : Lft} {q : Share} {γ : GName} (d : el_d E) (rb ro : ℕ)
      → ((b o : ℕ) → d.start ≡ block_ptr b o → d.count < 2 ^ 64 → length d.held * sz E < 2 ^ 63
      → Seq K 𝓛 (‵ (row_at E d b o)
      ∷ ‵ (cell_at full_share (Pr E).mir (block_val b o d.count ∷ []) rb ro)
      ∷ ‵ (fobor κ q (Body (mem (Pr E)) rb ro γ)) ∷ ‵ (fobs γ ((Pr E).coded.code d))
      ∷ ‵ (fauth γ ((Pr E).coded.code d)) ∷ Γ) G)
      → Seq K 𝓛 (‵ (fobs γ ((Pr E).coded.code d)) ∷ ‵ (fbor κ (Body (mem (Pr E)) rb ro γ))
      ∷ ‵ (flft κ q) ∷ Γ) G
  places_open t z d rb ro k =
      opens t z (Pr E) {h = d} rb ro (λ vs. move t (1 ∷ []) $
      places_had E t d vs (λ b o e is fn fit.
      rewrite t 1 (λ (ws : List Val). ‵ (cell_at full_share (Pr E).mir ws rb ro)) is refl $
      k b o e fn fit))

  pub places_close : K → Soaks G → {κ : Lft} {q : Share} {u v : Gv} {γ : GName} (d : el_d E)
      (b o rb ro : ℕ) → d.start ≡ block_ptr b o → d.count < 2 ^ 64 → length d.held * sz E < 2 ^ 63
      → Step K 𝓛 (‵ (fobs γ ((Pr E).coded.code d)) ∷ ‵ (fbor κ (Body (mem (Pr E)) rb ro γ))
      ∷ ‵ (flft κ q) ∷ Γ) G
      (‵ (row_at E d b o) ∷ ‵ (cell_at full_share (Pr E).mir (block_val b o d.count ∷ []) rb ro)
      ∷ ‵ (fobor κ q (Body (mem (Pr E)) rb ro γ)) ∷ ‵ (fobs γ u) ∷ ‵ (fauth γ v) ∷ Γ) G
  places_close t z d b o rb ro at fn fit = step (λ s. places_made E t d b o at fn fit $
      move t (1 ∷ 0 ∷ []) $ closes t z (Pr E) d (block_val b o d.count ∷ []) rb ro $ s)
