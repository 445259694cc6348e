-- `get_mut` lends one value, and the places follow it. Assumes `Logic`.
use Rattle.raw_places.proofs.Steps.{◌≡◌, ℕ, ◌+◌, ◌*◌, ◌^◌, ◌<◌, List, [], ◌∷◌, length, get_or}
use Rattle.raw_places.proofs.Steps.{refl, sym, subst, w64, arith, length-set, proved, after, El, R}
use Rattle.raw_places.proofs.Steps.{el_x, times_below, one_below, full_share, SProp, ent, sep, Fml}
use Rattle.raw_places.proofs.Steps.{GName, ftrue, fsep, flft, ◌⊑◌, fact, tables, inst_fn, Fn, Args}
use Rattle.raw_places.proofs.Steps.{Dict, a_type, dcons, dnil, named, Val, vptr, vint, Env, ‵, raw}
use Rattle.raw_places.proofs.Steps.{◌⊛◌, some, later, at_ret, ◌$◌, ◌∵◌, !, qed, done, move, keep}
use Rattle.raw_places.proofs.Steps.{drop, use1, use2, split, split3, join, pick, fsplit, fsplit3}
use Rattle.raw_places.proofs.Steps.{fjoin, fpack, await, frame, group, rewrite, suffices, whole, sub}
use Rattle.raw_places.proofs.Steps.{look_in, enter, of_opd, size_lit, bin, addr, load, stop, fld}
use Rattle.raw_places.proofs.Steps.{first, blocks, exec, returns, alloc_all, pass_all, free_all}
use Rattle.raw_places.proofs.Steps.{look_at, get, through, sets, sets_last, env, usize, RefMutOf}
use Rattle.raw_places.proofs.Steps.{yes, no, RattleType, copied, bounded, owns, uint_vals}
use Rattle.raw_places.proofs.Steps.{uint_Tells, block_ptr, cell_at, MutRef, mut_vals, mut_Tells}
use Rattle.raw_places.proofs.Steps.{plain, types_at, nothing, heard, Ended, Stays, says, walk_of}
use Rattle.raw_places.proofs.Steps.{stay_dropped, Goes-dropped, Goes-spent_ref, ends_at, Ghosts}
use Rattle.std.specs.Prelude.{Option, Some, None}
use seplogic.Ra.Ura.{Ura}
use types.Logic.{Logic, sem}
use denote.Memory.{mem, part_at, part_of}
use denote.Follow.{follows, lends_Part}
use Rattle.raw_places.proofs.Rows.{sz, others, place_out, place_in, held_inside}
use Rattle.raw_places.proofs.Opens.{Pr, el_d, row_at, block_val, places_open, places_made}
use Rattle.raw_places.specs.Ownership.{IsHeld, place_owned}
use Rattle.raw_places.specs.Lends.{with_value}
use Rattle.raw_places.specs.contracts.places.Places as Places
use Rattle.raw_places.specs.contracts.places.Places.get_mut as f
use Rattle.raw_places.proofs.places.Places.get_mut.Statement.{statement}
use Rattle.raw_places.proofs.places.Places.get_mut.Code as code

module _ (E : El) {M : Type 1} {𝓤 : Ura M} (𝓛 : Logic 𝓤) (rb ro b o : ℕ) (h : el_d E) (i : ℕ) where
  -- all but the value of one place
  abbrev Rest : Fml
  Rest = fsep (others E b o h.held i)
      (cell_at full_share (Pr E).mir (block_val b o h.count ∷ []) rb ro)

  back : h.start ≡ block_ptr b o → h.count < 2 ^ 64 → length h.held * sz E < 2 ^ 63
      → i < length h.held → (w : el_x E)
      → ent 𝓤 (sep 𝓤 (sem 𝓛 ((mem (R E)).own_at w b (i * sz E + o))) (sem 𝓛 Rest))
      (sem 𝓛 ((mem (Pr E)).own_at (with_value h i w) rb ro))
  unfolding part_of
  back at counted fit inside w =
      let new = with_value h i w in let all = block_val b o h.count ∷ [] in
      qed 𝓛 (‵ (part_at (R E) full_share w b (i * sz E + o)) ∷ ‵ Rest ∷ []) ∵ move ! (1 ∷ []) $
      fsplit ! $ move ! (2 ∷ 0 ∷ []) $
      use2 𝓛 (‵ (row_at E new b o)) (place_in E 𝓛 b o h.held i inside (Some w)) $
      places_made E ! new b o at counted
      (subst (λ (k : ℕ). k * sz E < 2 ^ 63) (sym (length-set h.held i (Some w))) fit) $
      move ! (1 ∷ 0 ∷ []) $ fjoin ! $
      fpack ! (List Val)
      (λ us. fsep (cell_at full_share (Pr E).mir us rb ro) ((Pr E).own_val new us)) all $ done !

module _ (E : El) (g : Ghosts (el_x E)) (d : Dict) where
  abbrev Y : RattleType
  Y = copied 0 E.row

  abbrev args : Args
  args = bounded (a_type ∷ []) (E.row, tt) (dcons d dnil)

  abbrev ended : Ended
  ended = f.ended E.row g d

  abbrev stayed : Stays ended.signature.params ended.kept
  stayed = (
    stay_dropped (RefMutOf (0 ∷ []) tt (plain (λ _. Places.the_row Y)) (λ _. tt)) no,
    (stay_dropped (plain (λ _. usize)) yes, tt),
  )

pub get_mut_spec : {M : Type 1} → statement M
get_mut_spec 𝓤 𝓛 𝓜 𝓡 wired X L copies g d met =
    let E : El = record { row = X; laws = L } in
    let T = ended E g d in let stays = stayed E g d in let Row = Places.the_row (Y E g d) in
    let c = f.clauses X g d 𝓛 𝓜.mem 𝓡.returns in let W = walk_of 𝓛 T stays c in
    let fn : Fn = inst_fn (args E g d) code.function in
    let C = (tables 𝓤 𝓛.H 𝓜 𝓡 𝓡.env).C in let Λ = (tables 𝓤 𝓛.H 𝓜 𝓡 𝓡.env).Λ in
    proved 𝓛 T stays c 𝓜 𝓡 (
      Goes-spent_ref 𝓛 2 (0 ∷ []) tt (plain (λ _. Row)),
      (Goes-dropped 𝓛 2 (plain (λ _. usize)) yes (λ κs x w. refl), tt),
    )
    (f.Key.name (args E g d)) fn (code.unfolded 𝓤 𝓛.H 𝓜 𝓡 wired (X, tt) d)
    (λ κs. (mut_vals, (uint_vals w64, tt)))
    (λ κs. (mut_Tells (named 0) κs.0 Row, (uint_Tells w64, tt)))
    (λ κs qs bounds a ghosts are.
    let κ = κs.0 in let κ₁ = κs.1.0 in let q = qs.0 in let q₁ = qs.1.0 in
    let rb : ℕ = a.0.ref_ptr.0 in let ro : ℕ = a.0.ref_ptr.1 in let γ : GName = a.0.ghost_name in
    let h : el_d E = a.0.now in let vs = mut_vals a.0 in let i : ℕ = a.1.0 in let s : ℕ = sz E in
    let y : W.Ghost = ((κs, qs, bounds, a, (vs, (uint_vals w64 i, tt))), ghosts) in
    let Post : Val → SProp 𝓤 = W.post y in
    qed 𝓛 (((‵ (flft κ q) ⊛ ‵ (flft κ₁ q₁) ⊛ ‵ ftrue)
    ⊛ ‵ (owns (types_at T.signature.params κs) a (vs, (uint_vals w64 i, tt))))
    ∷ (raw (fact 𝓤 (κ₁ ⊑ X.lives)) ⊛ raw (fact 𝓤 (IsHeld h.held i))) ∷ []) ∵
    move ! (1 ∷ []) $ split ! $ drop ! $ heard ! (IsHeld h.held i) (λ asked.
    let x : el_x E = asked.0 in let inside = held_inside h.held i x asked.1 in
    split ! $ split ! $ move ! (2 ∷ []) $ fsplit ! $ fsplit3 ! $ keep ! (1 ∷ 2 ∷ 4 ∷ 5 ∷ []) $
    -- [obs; the borrow; its token; the other token]
    enter ! C Λ fn (vptr rb ro ∷ vint w64 i ∷ []) Post $ alloc_all ! (λ l. pass_all ! refl
    ((tt, tt), ((tt, record { fits = are.1.0.1 }), tt)) $
    let En : Env 𝓤 𝓛.H = env fn.locals l in
    places_open E ! tt h rb ro (λ b o e counted fit.
    let n = length h.held in let at = i * s + o in
    let tiny : s < 2 ^ 64 = omega (arith, one_below n s (2 ^ 63) (omega arith) fit) in
    let far : i * s < 2 ^ 64 = omega (arith, times_below i n s (2 ^ 63) (omega arith) fit) in
    first ! $ blocks ! $
    sets ! (of_opd ! (load ! (through ! refl (fld ! refl (stop !)))
    (look_in ! 1 (sub ! 0 refl (whole !))))) refl (tt, tt) $
    sets ! (bin ! (get ! refl) (size_lit ! (record { fits = tiny })) (record { fits = far })) refl
    (tt, record { fits = far }) $
    sets ! (bin ! (get ! refl) (get ! refl) tt) refl (tt, tt) $
    sets_last ! (addr ! (through ! refl (stop !))) refl (tt, tt) $
    exec ! C Λ En (after 1 fn.body) (at_ret En Post) $
    sets ! (of_opd ! (get ! refl)) refl (tt, tt) $
    use1 𝓛 (‵ (place_owned (R E) b at (get_or h.held i None)) ⊛ ‵ (others E b o h.held i))
    (place_out E 𝓛 b o h.held i inside) $ split ! $
    rewrite ! 0 (λ (place : Option (el_x E)). ‵ (place_owned (R E) b at place)) asked.1 refl $
    move ! (1 ∷ 2 ∷ []) $ fjoin ! $ move ! (2 ∷ 3 ∷ 4 ∷ 1 ∷ 0 ∷ []) $ group ! 5 $
    use1 𝓛 (later (some (λ (γ' : GName).
    ‵ ((MutRef (named 0) κ (R E)).own_val (record { ref_ptr = (b, at); ghost_name = γ'; now = x })
    (vptr b at ∷ [])) ⊛ ‵ (flft κ q) ⊛ ‵ (follows (Pr E) (R E) γ γ' (with_value h i)))))
    (lends_Part 𝓛 (Pr E) (R E) (with_value h i) (named 0) κ q rb ro b at γ
    (sem 𝓛 (Rest E 𝓛 rb ro b o h i)) (back E 𝓛 rb ro b o h i e counted fit inside)
    ((Pr E).coded.code h) ((Pr E).coded.code h) x) $
    await ! tt $ pick ! (λ γ'. split3 ! $ returns ! (look_at ! 0 refl) $ free_all ! refl $
    suffices ! _ (ends_at 𝓛 T stays c y (vptr b at)
    (record { ref_ptr = (b, at); ghost_name = γ'; now = x }) (tt, (tt, tt)) (tt, (tt, tt))) $
    nothing ! $ nothing ! $ fjoin ! $ nothing ! $ fjoin ! $ join ! $ move ! (1 ∷ 3 ∷ []) $ join ! $
    join ! $ frame ! $ says ! asked.1 $ keep ! (0 ∷ []) $ done !)))))
