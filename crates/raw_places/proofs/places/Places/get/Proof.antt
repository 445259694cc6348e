-- `get` hands on the `&` to one value that a `&` to the places holds. Assumes `Logic`.
use Rattle.raw_places.proofs.Steps.{ℕ, ◌+◌, ◌*◌, ◌^◌, ◌<◌, List, [], ◌∷◌, length, get_or, refl}
use Rattle.raw_places.proofs.Steps.{w64, arith, proved, after, El, R, el_x, times_below, one_below}
use Rattle.raw_places.proofs.Steps.{SProp, id⊢, ftrue, flft, ◌⊑◌, fact, tables, inst_fn, Fn, Args}
use Rattle.raw_places.proofs.Steps.{Dict, a_type, dcons, dnil, named, Val, vptr, vint, Env, ‵, raw}
use Rattle.raw_places.proofs.Steps.{◌⊛◌, at_ret, ◌$◌, ◌∵◌, !, qed, done, move, keep, drop, use1}
use Rattle.raw_places.proofs.Steps.{split, join, fsplit, fjoin, feq_i, flt_l, rewrite, suffices}
use Rattle.raw_places.proofs.Steps.{enter, of_opd, size_lit, bin, addr, load, look, stop, fld, first}
use Rattle.raw_places.proofs.Steps.{blocks, exec, returns, alloc_all, pass_all, free_all, look_at}
use Rattle.raw_places.proofs.Steps.{get, through, sets, sets_last, env, usize, RefOf, yes}
use Rattle.raw_places.proofs.Steps.{RattleType, copied, bounded, uint_vals, uint_Tells, Ptr}
use Rattle.raw_places.proofs.Steps.{block_ptr}
use Rattle.raw_places.proofs.Steps.{in_a_block, ShrRef, shr_vals, shr_Tells, plain, nothing, heard}
use Rattle.raw_places.proofs.Steps.{Ended, Stays, says, walk_of, stay_dropped, Goes-dropped, ends_at}
use Rattle.raw_places.proofs.Steps.{Ghosts}
use Rattle.std.specs.Prelude.{Option, None}
use Rattle.std_alloc.proofs.Words.{pointer_in, pointer_out}
use denote.Opens.{hide, unhide}
use denote.Struct.Lending.{lent_out}
use base.Fml.{fhide}
use Rattle.raw_places.proofs.Rows.{sz, place_seen, held_inside}
use Rattle.raw_places.proofs.Seen.{fields_seen, start_seen}
use Rattle.raw_places.proofs.Opens.{el_d}
use Rattle.raw_places.specs.Ownership.{IsHeld, place_lent, places_lent}
use Rattle.raw_places.specs.contracts.places.Places as Places
use Rattle.raw_places.specs.contracts.places.Places.get as f
use Rattle.raw_places.proofs.places.Places.get.Statement.{statement}
use Rattle.raw_places.proofs.places.Places.get.Code as code

module _ (E : El) (g : Ghosts (el_x E)) (d : Dict) where
  abbrev Y : RattleType
  Y = copied 0 E.row

  abbrev args : Args
  args = bounded (a_type ∷ []) (E.row, tt) (dcons d dnil)

  abbrev ended : Ended
  ended = f.ended E.row g d

  abbrev stayed : Stays ended.signature.params ended.kept
  stayed = (
    stay_dropped (RefOf (0 ∷ []) tt (plain (λ _. Places.the_row Y)) (λ _. tt)) yes,
    (stay_dropped (plain (λ _. usize)) yes, tt),
  )

pub get_spec : {M : Type 1} → statement M
get_spec 𝓤 𝓛 𝓜 𝓡 wired X L copies g d met =
    let E : El = record { row = X; laws = L } in
    let T = ended E g d in let stays = stayed E g d in let Row = Places.the_row (Y E g d) in
    let c = f.clauses X g d 𝓛 𝓜.mem 𝓡.returns in let W = walk_of 𝓛 T stays c in
    let fn : Fn = inst_fn (args E g d) code.function in
    let C = (tables 𝓤 𝓛.H 𝓜 𝓡 𝓡.env).C in let Λ = (tables 𝓤 𝓛.H 𝓜 𝓡 𝓡.env).Λ in
    proved 𝓛 T stays c 𝓜 𝓡 (
      Goes-dropped 𝓛 2 (RefOf (0 ∷ []) tt (plain (λ _. Row)) (λ _. tt)) yes (λ κs x w. refl),
      (Goes-dropped 𝓛 2 (plain (λ _. usize)) yes (λ κs x w. refl), tt),
    )
    (f.Key.name (args E g d)) fn (code.unfolded 𝓤 𝓛.H 𝓜 𝓡 wired (X, tt) d)
    (λ κs. (shr_vals, (uint_vals w64, tt)))
    (λ κs. (shr_Tells (named 0) κs.0 Row, (uint_Tells w64, tt)))
    (λ κs qs bounds a ghosts are.
    let κ = κs.0 in let κ₁ = κs.1.0 in let q = qs.0 in let q₁ = qs.1.0 in
    let rb : ℕ = a.0.ref_ptr.0 in let ro : ℕ = a.0.ref_ptr.1 in let h : el_d E = a.0.now in
    let vs = shr_vals a.0 in let index : ℕ = a.1.0 in let s : ℕ = sz E in
    let y : W.Ghost = ((κs, qs, bounds, a, (vs, (uint_vals w64 index, tt))), ghosts) in
    let Post : Val → SProp 𝓤 = W.post y in
    qed 𝓛 (((‵ (flft κ q) ⊛ ‵ (flft κ₁ q₁) ⊛ ‵ ftrue) ⊛ ‵ ((ShrRef (named 0) κ Row).own_val a.0 vs)
    ⊛ ‵ (usize.own_val index (uint_vals w64 index)) ⊛ ‵ ftrue)
    ∷ (raw (fact 𝓤 (κ₁ ⊑ X.lives)) ⊛ raw (fact 𝓤 (IsHeld h.held index))) ∷ []) ∵
    move ! (1 ∷ []) $ split ! $ drop ! $ heard ! (IsHeld h.held index) (λ asked.
    split ! $ split ! $ move ! (2 ∷ []) $ split ! $ keep ! (0 ∷ 2 ∷ 3 ∷ []) $
    let value = asked.0 in let inside = held_inside h.held index value asked.1 in
    fsplit ! $ drop ! $
    use1 𝓛 (‵ (fields_seen (R E) κ h.start h.count rb ro)
    ⊛ ‵ (fhide (places_lent (R E) h.start h.held κ)))
    (lent_out 𝓛 (Places.struct (R E)) (Places.the_codes (el_x E) (R E).coded)
    (Places.the_heap (R E)) (Places.the_lent (R E)) κ h rb ro) $ split ! $
    move ! (1 ∷ []) $ unhide ! $
    in_a_block ! h.start (λ p. places_lent (R E) p h.held κ) (id⊢ 𝓤 _) (λ b o e.
    fsplit ! $ flt_l ! (λ fit.
    let n = length h.held in let at = index * s + o in
    let tiny : s < 2 ^ 64 = omega (arith, one_below n s (2 ^ 63) (omega arith) fit) in
    let far : index * s < 2 ^ 64 =
    omega (arith, times_below index n s (2 ^ 63) (omega arith) fit) in
    use1 𝓛 (‵ (place_lent (R E) b at (get_or h.held index None) κ))
    (place_seen E 𝓛 b κ o h.held index inside) $
    rewrite ! 0 (λ (place : Option (el_x E)). ‵ (place_lent (R E) b at place κ)) asked.1 refl $
    hide ! $ rewrite ! 1 (λ (p : Ptr). ‵ (fields_seen (R E) κ p h.count rb ro)) e refl $
    move ! (1 ∷ 2 ∷ 0 ∷ []) $
    -- [the fields; the token; the value in its place; the other token]
    enter ! C Λ fn (vptr rb ro ∷ vint w64 index ∷ []) Post $ alloc_all ! (λ l. pass_all ! refl
    ((tt, tt), ((tt, record { fits = are.1.0.1 }), tt)) $
    let En : Env 𝓤 𝓛.H = env fn.locals l in
    first ! $ blocks ! $
    pointer_in ! tt (block_ptr b o) tt rb (ro + 0)
    (start_seen 𝓛 (R E) κ (block_ptr b o) h.count rb ro) (λ q'.
    sets ! (of_opd ! (load ! (through ! refl (fld ! refl (stop !))) (look ! 1 refl))) refl
    (tt, tt) $
    pointer_out ! tt (block_ptr b o) tt rb (ro + 0) $
    sets ! (bin ! (get ! refl) (size_lit ! (record { fits = tiny })) (record { fits = far })) refl
    (tt, record { fits = far }) $
    sets ! (bin ! (get ! refl) (get ! refl) tt) refl (tt, tt) $
    sets_last ! (addr ! (through ! refl (stop !))) refl (tt, tt) $
    exec ! C Λ En (after 1 fn.body) (at_ret En Post) $
    sets ! (of_opd ! (get ! refl)) refl (tt, tt) $
    returns ! (look_at ! 0 refl) $ free_all ! refl $ keep ! (0 ∷ 3 ∷ 2 ∷ []) $
    suffices ! _ (ends_at 𝓛 T stays c y (vptr b at) (record { ref_ptr = (b, at); now = value })
    (tt, (tt, tt)) (tt, (tt, tt))) $ says ! asked.1 $ join ! $ move ! (1 ∷ []) $
    feq_i ! (List Val) (vptr b at ∷ []) (vptr b at ∷ []) refl $ fjoin ! $
    nothing ! $ nothing ! $ fjoin ! $ nothing ! $ fjoin ! $ keep ! (2 ∷ 0 ∷ 1 ∷ []) $ done !))))))
