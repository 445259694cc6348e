-- One place taken out of a row and put back, or seen behind a `&`; and room as empty places, for
-- values of any type. Assumes `Logic`.
use Rattle.std.proofs.Common.{◌≡◌, ℕ, zero, suc, ◌+◌, ◌*◌, ◌<◌, List, [], ◌∷◌, length, get_or}
use Rattle.std.proofs.Common.{set, replicate, refl, sym, arith}
use Rattle.std.specs.Prelude.{Option, Some, None}
use Rattle.std.specs.Mem.{type_size}
use native.Mathlib.Nat.{zero-mul, suc-mul}
use seplogic.Ra.Ura.{Ura}
use base.Fraction.{full_share}
use base.Fml.{Lft, Fml, ftrue, fsep, fat, froom}
use base.Logic.{ent, sep}
use mir.Syntax.{ty_array}
use mir.Val.{Val}
use types.Logic.{Logic, sem}
use types.Kit.{‵, ◌⊛◌, some, given, ◌$◌, ◌∵◌, !, qed, by, move, keep, use1, use2, split, pick}
use types.Kit.{learn, rewrite, fsplit, fjoin, frame, done}
use denote.Memory.{part_at}
use Rattle.core.proofs.mem.Param.{El, R, el_x, elτ, Good}
use Rattle.core.proofs.slice.Rows.{el_out, el_in}
use Rattle.raw_places.specs.Ownership.{place_owned, row_owned, place_lent, row_lent}

-- how many bytes a place has
abbrev pub sz : El → ℕ
sz E = type_size (R E)

-- a row without its place of that number
abbrev pub others : (E : El) → ℕ → ℕ → List (Option (el_x E)) → ℕ → Fml
others E block offset [] index = ftrue
others E block offset (place ∷ places) zero = row_owned (R E) block (offset + sz E) places
others E block offset (place ∷ places) (suc index) =
    fsep (place_owned (R E) block offset place) (others E block (offset + sz E) places index)

module _ (E : El) {M : Type 1} {𝓤 : Ura M} (𝓛 : Logic 𝓤) (block : ℕ) where
  open 𝓛 use {H}

  abbrev s : ℕ
  s = sz E

  abbrev Held : Type 0
  Held = Option (el_x E)

  abbrev one : ℕ → Held → Fml
  one = place_owned (R E) block

  abbrev Row : ℕ → List Held → Fml
  Row = row_owned (R E) block

  abbrev rest : ℕ → List Held → ℕ → Fml
  rest = others E block

  -- where the place of a number stands
  further : (index offset : ℕ) → suc index * s + offset ≡ index * s + (offset + s)
  further index offset = omega (arith, suc-mul index s)

  first : (offset : ℕ) → 0 * s + offset ≡ offset
  first offset = omega (arith, zero-mul s)

  pub place_out : (offset : ℕ) (places : List Held) (index : ℕ) → index < length places
      → ent 𝓤 (sem 𝓛 (Row offset places))
      (sep 𝓤 (sem 𝓛 (one (index * s + offset) (get_or places index None)))
      (sem 𝓛 (rest offset places index)))
  place_out offset [] index inside = absurd (omega arith)
  place_out offset (place ∷ places) zero inside =
      qed 𝓛 (‵ (Row offset (place ∷ places)) ∷ []) ∵ fsplit ! $
      rewrite ! 0 (λ (k : ℕ). ‵ (one k place)) (sym (first offset)) refl $ done !
  place_out offset (place ∷ places) (suc index) inside =
      qed 𝓛 (‵ (Row offset (place ∷ places)) ∷ []) ∵ fsplit ! $ move ! (1 ∷ []) $
      use1 𝓛 (‵ (one (index * s + (offset + s)) (get_or places index None))
      ⊛ ‵ (rest (offset + s) places index))
      (place_out (offset + s) places index (omega arith)) $ split ! $
      rewrite ! 0 (λ (k : ℕ). ‵ (one k (get_or places index None)))
      (sym (further index offset)) refl $ move ! (2 ∷ 1 ∷ []) $ fjoin ! $ move ! (1 ∷ 0 ∷ []) $
      done !

  pub place_in : (offset : ℕ) (places : List Held) (index : ℕ) → index < length places
      → (now : Held)
      → ent 𝓤 (sep 𝓤 (sem 𝓛 (one (index * s + offset) now))
      (sem 𝓛 (rest offset places index))) (sem 𝓛 (Row offset (set places index now)))
  place_in offset [] index inside now = absurd (omega arith)
  place_in offset (place ∷ places) zero inside now =
      qed 𝓛 (‵ (one (0 * s + offset) now) ∷ ‵ (Row (offset + s) places) ∷ []) ∵
      rewrite ! 0 (λ (k : ℕ). ‵ (one k now)) (first offset) refl $ fjoin ! $ done !
  place_in offset (place ∷ places) (suc index) inside now =
      qed 𝓛 (‵ (one (suc index * s + offset) now)
      ∷ ‵ (rest offset (place ∷ places) (suc index)) ∷ []) ∵
      rewrite ! 0 (λ (k : ℕ). ‵ (one k now)) (further index offset) refl $
      move ! (1 ∷ []) $ fsplit ! $ move ! (2 ∷ 1 ∷ []) $
      use2 𝓛 (‵ (Row (offset + s) (set places index now)))
      (place_in (offset + s) places index (omega arith) now) $ move ! (1 ∷ 0 ∷ []) $ fjoin ! $
      done !

  -- a place is room, whether or not it holds a value
  pub place_room : (offset : ℕ) (place : Held)
      → ent 𝓤 (sem 𝓛 (one offset place)) (H.room (elτ E) block offset)
  place_room offset None = 𝓛.laws.raw-room (elτ E) block offset
  place_room offset (Some value) = qed 𝓛 (‵ (part_at (R E) full_share value block offset) ∷ []) ∵
      use1 𝓛 (some (λ (v : Val). given (Good E v) (‵ (fat full_share (elτ E) block offset v)
      ⊛ ‵ (E.row.own_val value (v ∷ []))))) (el_out E 𝓛 block value offset) $
      pick ! (λ v. learn ! (λ good. split ! $ keep ! (0 ∷ []) $
      by ! (𝓛.laws.at_room (elτ E) block offset v)))

  -- the room of one place, and the value that goes there
  pub room_out : (offset : ℕ) (places : List Held) (index : ℕ) → index < length places
      → ent 𝓤 (sem 𝓛 (Row offset places)) (sep 𝓤 (H.room (elτ E) block (index * s + offset))
      (sem 𝓛 (rest offset places index)))
  room_out offset places index inside = qed 𝓛 (‵ (Row offset places) ∷ []) ∵
      use1 𝓛 (‵ (one (index * s + offset) (get_or places index None))
      ⊛ ‵ (rest offset places index)) (place_out offset places index inside) $ split ! $
      use1 𝓛 (‵ (froom (elτ E) block (index * s + offset)))
      (place_room (index * s + offset) (get_or places index None)) $ done !

  pub value_in : (offset : ℕ) (places : List Held) (index : ℕ) → index < length places
      → (now : el_x E) (v : Val)
      → ent 𝓤 (sep 𝓤 (H.at full_share (elτ E) block (index * s + offset) v)
      (sep 𝓤 (sem 𝓛 (E.row.own_val now (v ∷ []))) (sem 𝓛 (rest offset places index))))
      (sem 𝓛 (Row offset (set places index (Some now))))
  value_in offset places index inside now v =
      qed 𝓛 (‵ (fat full_share (elτ E) block (index * s + offset) v)
      ∷ ‵ (E.row.own_val now (v ∷ [])) ∷ ‵ (rest offset places index) ∷ []) ∵
      use2 𝓛 (‵ (part_at (R E) full_share now block (index * s + offset)))
      (el_in E 𝓛 block now (index * s + offset) v) $
      by ! (place_in offset places index inside (Some now))

  -- room is a row of empty places, and a row of any places is room
  pub row_of_room : (count offset : ℕ)
      → ent 𝓤 (H.room (ty_array (elτ E) count) block offset)
      (sem 𝓛 (Row offset (replicate count None)))
  row_of_room zero offset = qed 𝓛 (‵ (froom (ty_array (elτ E) 0) block offset) ∷ []) ∵
      keep ! [] $ done !
  row_of_room (suc count) offset =
      qed 𝓛 (‵ (froom (ty_array (elτ E) (suc count)) block offset) ∷ []) ∵
      use1 𝓛 (‵ (froom (elτ E) block offset)
      ⊛ ‵ (froom (ty_array (elτ E) count) block (offset + s)))
      (𝓛.laws.room_uncons (elτ E) count block offset) $ split ! $
      use1 𝓛 (‵ (one offset None)) (𝓛.laws.room-raw (elτ E) block offset) $ frame ! $
      by ! (row_of_room count (offset + s))

  pub room_of_row : (places : List Held) (offset : ℕ)
      → ent 𝓤 (sem 𝓛 (Row offset places)) (H.room (ty_array (elτ E) (length places)) block offset)
  room_of_row [] offset = 𝓛.laws.room_nil (elτ E) block offset
  room_of_row (place ∷ places) offset = qed 𝓛 (‵ (Row offset (place ∷ places)) ∷ []) ∵ fsplit ! $
      use1 𝓛 (‵ (froom (elτ E) block offset)) (place_room offset place) $ move ! (1 ∷ []) $
      use1 𝓛 (‵ (froom (ty_array (elτ E) (length places)) block (offset + s)))
      (room_of_row places (offset + s)) $ move ! (1 ∷ []) $
      by ! (𝓛.laws.room_cons (elτ E) (length places) block offset)

  -- what a `&` to the places has of one
  pub place_seen : (κ : Lft) (offset : ℕ) (places : List Held) (index : ℕ)
      → index < length places → ent 𝓤 (sem 𝓛 (row_lent (R E) block offset places κ))
      (sem 𝓛 (place_lent (R E) block (index * s + offset) (get_or places index None) κ))
  place_seen κ offset [] index inside = absurd (omega arith)
  place_seen κ offset (place ∷ places) zero inside =
      qed 𝓛 (‵ (row_lent (R E) block offset (place ∷ places) κ) ∷ []) ∵ fsplit ! $
      keep ! (0 ∷ []) $
      rewrite ! 0 (λ (k : ℕ). ‵ (place_lent (R E) block k place κ)) (sym (first offset)) refl $
      done !
  place_seen κ offset (place ∷ places) (suc index) inside =
      qed 𝓛 (‵ (row_lent (R E) block offset (place ∷ places) κ) ∷ []) ∵ fsplit ! $
      keep ! (1 ∷ []) $
      use1 𝓛 (‵ (place_lent (R E) block (index * s + (offset + s)) (get_or places index None) κ))
      (place_seen κ (offset + s) places index (omega arith)) $
      rewrite ! 0 (λ (k : ℕ). ‵ (place_lent (R E) block k (get_or places index None) κ))
      (sym (further index offset)) refl $ done !

pub held_inside : {X : Type 0} (places : List (Option X)) (index : ℕ) (value : X)
    → get_or places index None ≡ Some value → index < length places
held_inside [] index value e = cc
held_inside (place ∷ places) zero value e = omega arith
held_inside (place ∷ places) (suc index) value e = omega (arith, held_inside places index value e)
