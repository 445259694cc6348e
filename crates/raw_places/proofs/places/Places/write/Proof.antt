-- `write` makes room of one place, and puts the value there. Assumes `Logic`.
use Rattle.raw_places.proofs.Steps.{◌≡◌, ℕ, ◌+◌, ◌*◌, ◌^◌, ◌<◌, List, [], ◌∷◌, ◌++◌, length, set}
use Rattle.raw_places.proofs.Steps.{refl, sym, ◌∙◌, subst, w64, arith, length-set, proved_at, after}
use Rattle.raw_places.proofs.Steps.{says_two, El, el_x, elτ, lawful, one, times_below, one_below}
use Rattle.raw_places.proofs.Steps.{SProp, ftrue, flft, froom, ◌⊑◌, fact, tables, inst_fn, Fn, Args}
use Rattle.raw_places.proofs.Steps.{Dict, a_type, dcons, dnil, Val, vunit, vint, vptr, Env, WpFn, ‵}
use Rattle.raw_places.proofs.Steps.{raw, ◌⊛◌, prop, at_ret, ◌$◌, ◌∵◌, !, qed, done, move, keep, drop}
use Rattle.raw_places.proofs.Steps.{use1, use3, split, join, fsplit, fsplit3, fjoin, fjoin3, feq_i}
use Rattle.raw_places.proofs.Steps.{rewrite, regoal, suffices, whole, sub, look_in, enter, of_opd}
use Rattle.raw_places.proofs.Steps.{unit_lit, size_lit, bin, load, init, stop, fld, assigns_last}
use Rattle.raw_places.proofs.Steps.{first, blocks, exec, returns, alloc_all, pass_all, free_all}
use Rattle.raw_places.proofs.Steps.{look_at, get, through, sets, env, usize, yes, no, RattleType}
use Rattle.raw_places.proofs.Steps.{copied}
use Rattle.raw_places.proofs.Steps.{bounded, owns, plain, types_at, nothing, heard, Ended, Stays}
use Rattle.raw_places.proofs.Steps.{walk_of, stay_dropped, Goes-dropped, stay_ref, Goes-ref, ends_at}
use Rattle.raw_places.proofs.Steps.{Ghosts}
use Rattle.std.specs.Prelude.{Some}
use Rattle.raw_places.proofs.Rows.{sz, others, room_out, value_in}
use Rattle.raw_places.proofs.Opens.{el_d, row_at, places_open, places_close}
use Rattle.raw_places.specs.contracts.places.Places as Places
use Rattle.raw_places.specs.contracts.places.Places.write as f
use Rattle.raw_places.proofs.places.Places.write.Statement.{statement}
use Rattle.raw_places.proofs.places.Places.write.Code as code

module _ (E : El) (g : Ghosts (el_x E)) (d : Dict) where
  abbrev Y : RattleType
  Y = copied 0 E.row

  abbrev args : Args
  args = bounded (a_type ∷ []) (E.row, tt) (dcons d dnil)

  abbrev ended : Ended
  ended = f.ended E.row g d

  abbrev stayed : Stays ended.signature.params ended.kept
  stayed = (
    stay_ref (0 ∷ []) tt (plain (λ _. Places.the_row Y)),
    (stay_dropped (plain (λ _. usize)) yes, (stay_dropped (plain (λ _. Y)) no, tt)),
  )

pub write_spec : {M : Type 1} → statement M
write_spec 𝓤 𝓛 𝓜 𝓡 wired X L copies g d met =
    let E : El = record { row = X; laws = L } in
    let T = ended E g d in let stays = stayed E g d in
    let c = f.clauses X g d 𝓛 𝓜.mem 𝓡.returns in
    let fn : Fn = inst_fn (args E g d) code.function in
    let C = (tables 𝓤 𝓛.H 𝓜 𝓡 𝓡.env).C in let Λ = (tables 𝓤 𝓛.H 𝓜 𝓡 𝓡.env).Λ in
    proved_at 𝓛 T stays c 𝓜 𝓡 (
      Goes-ref 𝓛 2 0 tt (plain (λ _. Places.the_row (Y E g d))),
      (
        Goes-dropped 𝓛 2 (plain (λ _. usize)) yes (λ κs x w. refl),
        (Goes-dropped 𝓛 2 (plain (λ _. Y E g d)) no (λ κs x w. refl), tt),
      ),
    )
    (f.Key.name (args E g d)) fn (code.unfolded 𝓤 𝓛.H 𝓜 𝓡 wired (X, tt) d) (λ y are.
    let Post : Val → SProp 𝓤 = (walk_of 𝓛 T stays c).post y in
    let κ = y.0.0.0 in let κ₁ = y.0.0.1.0 in let q = y.0.1.0 in let q₁ = y.0.1.1.0 in
    let a = y.0.3 in let vss = y.0.4 in
    let rb : ℕ = a.0.ref_ptr.0 in let ro : ℕ = a.0.ref_ptr.1 in let h : el_d E = a.0.now in
    let index : ℕ = a.1.0 in let value : el_x E = a.1.1.0 in
    let bits = one E vss.1.1.0 ((lawful E 𝓛).typed value vss.1.1.0 are.1.1.0) in
    let v : Val = bits.0 in let s : ℕ = sz E in
    qed 𝓛 (((‵ (flft κ q) ⊛ ‵ (flft κ₁ q₁) ⊛ ‵ ftrue)
    ⊛ ‵ (owns (types_at T.signature.params y.0.0) a vss))
    ∷ (raw (fact 𝓤 (κ₁ ⊑ X.lives)) ⊛ raw (fact 𝓤 (index < length h.held))) ∷ []) ∵
    move ! (1 ∷ []) $ split ! $ drop ! $ heard ! (index < length h.held) (λ inside.
    split ! $ split ! $ move ! (2 ∷ []) $ fsplit3 ! $ fsplit3 ! $ move ! (4 ∷ []) $ fsplit ! $
    keep ! (3 ∷ 4 ∷ 6 ∷ 0 ∷ 7 ∷ []) $
    -- [obs; the borrow; its token; what the value owns; the other token]
    rewrite ! 3 (λ (ws : List Val). ‵ (X.own_val value ws)) bits.1 refl $
    regoal ! (λ (us : List Val). prop (WpFn 𝓤 𝓛.H C Λ fn us Post))
    (λ i. are.0.0 i ++ (are.1.0.0 i ++ (bits.1 i ++ []))) refl $
    enter ! C Λ fn (vptr rb ro ∷ vint w64 index ∷ v ∷ []) Post $
    alloc_all ! (λ l. pass_all ! refl
    ((tt, tt), ((tt, record { fits = are.1.0.1 }), (bits.2, tt))) $
    let En : Env 𝓤 𝓛.H = env fn.locals l in
    places_open E ! tt h rb ro (λ b o at counted fit.
    let n = length h.held in let held = set h.held index (Some value) in
    let tiny : s < 2 ^ 64 = omega (arith, one_below n s (2 ^ 63) (omega arith) fit) in
    let far : index * s < 2 ^ 64 =
    omega (arith, times_below index n s (2 ^ 63) (omega arith) fit) in
    let same : length held ≡ n = length-set h.held index (Some value) in
    let new : el_d E = record {
      start = h.start;
      count = h.count;
      held = held;
      all =
          h.all ∙ sym same;
    } in
    use1 𝓛 (‵ (froom (elτ E) b (index * s + o)) ⊛ ‵ (others E b o h.held index))
    (room_out E 𝓛 b o h.held index inside) $ split ! $
    -- [the room; the other places; the two words; the open borrow; obs; auth; the value; its token]
    first ! $ blocks ! $
    sets ! (of_opd ! (load ! (through ! refl (fld ! refl (stop !)))
    (look_in ! 2 (sub ! 0 refl (whole !))))) refl (tt, tt) $
    sets ! (bin ! (get ! refl) (size_lit ! (record { fits = tiny })) (record { fits = far })) refl
    (tt, record { fits = far }) $
    sets ! (bin ! (get ! refl) (get ! refl) tt) refl (tt, tt) $
    assigns_last ! (of_opd ! (get ! refl)) (through ! refl (stop !)) (init ! 0 refl bits.2) $
    exec ! C Λ En (after 1 fn.body) (at_ret En Post) $
    sets ! (of_opd ! (unit_lit !)) refl (tt, tt) $ move ! (0 ∷ 6 ∷ []) $
    use3 𝓛 (‵ (row_at E new b o)) (value_in E 𝓛 b o h.held index inside value v) $
    places_close E ! tt new b o rb ro at counted
    (subst (λ (k : ℕ). k * s < 2 ^ 63) (sym same) fit) $
    returns ! (look_at ! 0 refl) $ free_all ! refl $
    suffices ! _ (ends_at 𝓛 T stays c y vunit tt (new, (tt, (tt, tt))) (tt, (tt, (tt, tt)))) $
    says_two ! ((refl, refl), refl) $
    feq_i ! (List Val) vss.0 (vptr rb ro ∷ []) are.0.0 $ fjoin3 ! $ nothing ! $ nothing ! $ fjoin !
    $
    nothing ! $ fjoin ! $ move ! (1 ∷ 0 ∷ []) $ fjoin ! $ move ! (1 ∷ 2 ∷ []) $ join ! $
    feq_i ! (List Val) (vunit ∷ []) (vunit ∷ []) refl $ keep ! (1 ∷ 2 ∷ 0 ∷ []) $ done !))))
