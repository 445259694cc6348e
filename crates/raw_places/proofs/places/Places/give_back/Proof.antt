-- `give_back` makes room of the places and hands it to the allocator. Assumes `Logic`.
use Rattle.raw_places.proofs.Steps.{◌≡◌, ℕ, ◌*◌, ◌^◌, ◌<◌, List, [], ◌∷◌, ◌++◌, length, refl, sym}
use Rattle.raw_places.proofs.Steps.{ap, ◌∙◌, subst, w64, arith, proved_at, leaves, after, El, R, elτ}
use Rattle.raw_places.proofs.Steps.{SProp, id⊢, Lft, Share, ftrue, flft, froom, ◌⊑◌, ⊑_trans, fact}
use Rattle.raw_places.proofs.Steps.{tables, inst_fn, Fn, Args, a_type, dcons, dnil, Val, vint, vptr}
use Rattle.raw_places.proofs.Steps.{vunit, Env, WpFn, ‵, raw, ◌⊛◌, later, prop, at_ret, ◌$◌, ◌∵◌, ! }
use Rattle.raw_places.proofs.Steps.{qed, by, move, drop, use1, use3, split, join, fsplit, fsplit3}
use Rattle.raw_places.proofs.Steps.{fjoin, await, feq_i, flt_l, rewrite, regoal, whole, sub, enter}
use Rattle.raw_places.proofs.Steps.{of_opd, bin, unit_lit, stop, fld, no_more, and_then, first}
use Rattle.raw_places.proofs.Steps.{blocks, exec, returns, alloc_all, pass_all, free_all, look_at}
use Rattle.raw_places.proofs.Steps.{get, get_in, sets, is, env, owns, Ptr, block_ptr}
use Rattle.raw_places.proofs.Steps.{in_a_block, bounded, types_at, nothing, heard, alive}
use Rattle.raw_places.proofs.Steps.{Stays, walk_of, stay_dropped, Goes-dropped}
use base.Logic.{never}
use mir.Syntax.{ty_array, place}
use prog.Capped.{capped_fits}
use prog.Memory.{align, capped}
use types.Kit.{given, learn, settles}
use types.Run.{size_word, align_word}
use types.ByLocal.{lands_last}
use denote.Triple.Call.{calls_at_last}
use Rattle.core.proofs.alloc.Calls.{Al, seen, Goes-blank, Gives, at_gives, Gives-goes, Gives-Gives}
use Rattle.core.proofs.atomic.Steps.{fm}
use Rattle.core.proofs.slots.Leases.{uncapped, block_ty, block_size, block_align}
use Rattle.std_alloc.proofs.RawLayout.{as_raw}
use Rattle.raw_places.proofs.Rows.{sz, room_of_row}
use Rattle.raw_places.proofs.Values.{places_val, places_told, lease_val, lease_told}
use Rattle.raw_places.proofs.Walks.{slot_at, then_runs, out_of_block}
use Rattle.raw_places.specs.Ownership.{places_owned}
use Rattle.raw_places.specs.contracts.places.Places.give_back as f
use Rattle.raw_places.proofs.places.Places.give_back.Statement.{statement}
use Rattle.raw_places.proofs.places.Places.give_back.Code as code

pub give_back_spec : {M : Type 1} → statement M
give_back_spec 𝓤 𝓛 𝓜 𝓡 wired X A LX L copies clone cloned g d dd copy_met met md =
    let E : El = record { row = X; laws = LX } in
    let T = f.ended X A clone cloned g d dd in
    let c = f.clauses X A clone cloned g d dd 𝓛 𝓜.mem 𝓡.returns in
    let dicts = dcons cloned (dcons d (dcons dd dnil)) in
    let args : Args = bounded (a_type ∷ a_type ∷ []) (X, (A, tt)) dicts in
    let fn : Fn = inst_fn args code.function in
    let places_slot = slot_at 0 T.signature.params in
    let lease_slot = slot_at 1 T.signature.params in
    let handle_slot = slot_at 2 T.signature.params in
    let stayed : Stays T.signature.params T.kept = (
      stay_dropped places_slot T.kept.0,
      (stay_dropped lease_slot T.kept.1.0, (stay_dropped handle_slot T.kept.1.1.0, tt)),
    ) in
    let C = (tables 𝓤 𝓛.H 𝓜 𝓡 𝓡.env).C in
    let Λ = (tables 𝓤 𝓛.H 𝓜 𝓡 𝓡.env).Λ in
    proved_at 𝓛 T stayed c 𝓜 𝓡 (
      Goes-blank 𝓛 3 places_slot T.kept.0 (λ κs x w. tt),
      (
        Goes-blank 𝓛 3 lease_slot T.kept.1.0 (λ κs x w. tt),
        (Goes-dropped 𝓛 3 handle_slot T.kept.1.1.0 (λ κs x w. refl), tt),
      ),
    )
    (f.Key.name args) fn (code.unfolded 𝓤 𝓛.H 𝓜 𝓡 wired (X, (A, tt)) cloned d dd) (λ y are.
    let Post : Val → SProp 𝓤 = (walk_of 𝓛 T stayed c).post y in
    let κs = y.0.0 in let qs = y.0.1 in let a = y.0.3 in let vss = y.0.4 in
    let κ : Lft = κs.0 in let q : Share = qs.0 in
    let κ₁ : Lft = κs.1.0 in let κ₂ : Lft = κs.1.1.0 in
    let Y : Al = record { row = A; laws = L; g = g; d = d; drops = dd } in
    let places = a.0 in let lease = a.1.0 in
    let handle = a.1.1.0.now in let p = a.1.1.0.ref_ptr in
    let n = places.count in let s : ℕ = sz E in let al : ℕ = capped (align (elτ E)) in
    let τ = block_ty E n in
    let told = places_told places.start n vss.0 are.0.0 in
    qed 𝓛 ((raw (alive 𝓛 T.signature κs qs) ⊛ ‵ (owns (types_at T.signature.params κs) a vss))
    ∷ (raw (fact 𝓤 (κ₁ ⊑ X.lives)) ⊛ raw (fact 𝓤 (κ₂ ⊑ A.lives)) ⊛ raw
    (fact 𝓤 (lease.alloc ≡ handle))
    ⊛ raw (fact 𝓤 (lease.start ≡ places.start)) ⊛ raw (fact 𝓤 (lease.count ≡ n))) ∷ []) ∵
    move ! (1 ∷ []) $ split ! $ drop ! $ split ! $ heard ! _
    (λ le. split ! $ heard ! _ (λ same_alloc.
    split ! $ heard ! _ (λ same_start. heard ! _ (λ same_count.
    split ! $ move ! (1 ∷ []) $ fsplit3 ! $ fsplit ! $ drop ! $
    in_a_block ! places.start (λ p. places_owned (R E) p places.held) (id⊢ 𝓤 (never 𝓤)) (λ b o e.
    fsplit ! $ flt_l ! (λ fit.
    let small : n * s < 2 ^ 63 = subst (λ (k : ℕ). k * s < 2 ^ 63) (sym places.all) fit in
    let far : n * s < 2 ^ 64 = omega (arith, small) in
    use1 𝓛 (‵ (froom (ty_array (elτ E) (length places.held)) b o))
    (room_of_row E 𝓛 b places.held o) $
    rewrite ! 0 (λ (k : ℕ). ‵ (froom (ty_array (elτ E) k) b o)) (sym places.all) refl $
    as_raw ! (ty_array (elτ E) n) b o $
    move ! (1 ∷ []) $ fsplit ! $ drop ! $
    rewrite ! 0 (λ (u : A.Denot × ℕ × Ptr). ‵ (g.dealloc_token u.0 (block_ty E u.1) u.2))
    (λ i. (same_alloc i, same_count i, (same_start ∙ e) i)) refl $
    move ! (2 ∷ []) $ fsplit ! $ fsplit ! $ drop ! $ move ! (1 ∷ []) $ drop ! $
    use1 𝓛 (‵ (seen Y κ p handle)) (id⊢ 𝓤 _) $ move ! (3 ∷ []) $
    use1 𝓛 (‵ (flft κ q) ⊛ ‵ (flft κ₁ qs.1.0) ⊛ ‵ (flft κ₂ qs.1.1.0) ⊛ ‵ ftrue) (id⊢ 𝓤 _) $ split !
    $
    move ! (2 ∷ 0 ∷ []) $ join ! $ move ! (3 ∷ 2 ∷ []) $
    -- [the room; the right to free it; a `&` to the handle with a token; the other token]
    let call = at_gives Y 𝓛 𝓜.mem 𝓡.returns κ q p handle b o (n * s) al τ in
    regoal ! (λ (us : List Val). prop (WpFn 𝓤 𝓛.H C Λ fn us Post))
    (λ i. (told.0 ∙ ap (λ (s : Ptr). places_val s n ∷ []) e) i
    ++ (lease_told vss.1.0 are.1.0.0 i ++ (are.1.1.0.0 i ++ []))) refl $
    enter ! C Λ fn (places_val (block_ptr b o) n ∷ lease_val ∷ vptr p.0 p.1 ∷ []) Post $
    alloc_all ! (λ l. pass_all ! refl
    ((tt, (tt, (record { fits = told.1 }, tt))), ((tt, (tt, tt)), ((tt, tt), tt))) $
    let En : Env 𝓤 𝓛.H = env fn.locals l in
    sets ! (of_opd ! (get_in ! (fld ! refl (stop !)) (sub ! 0 refl (whole !)))) refl (tt, tt) $
    sets ! (of_opd ! (get_in ! (fld ! refl (stop !)) (sub ! 1 refl (whole !)))) refl
    (tt, record { fits = told.1 }) $
    first ! $ blocks ! $
    sets ! (of_opd ! (get ! refl)) refl (tt, tt) $
    sets ! (is ! (bin ! (get ! refl) (size_word !)
    (record { fits = subst (λ (k : ℕ). k < 2 ^ 64) (sym (uncapped n s far)) far }))
    (ap (vint w64) (uncapped n s far))) refl (tt, record { fits = far }) $
    use3 𝓛 (raw ((Gives Y 𝓛 𝓜.mem 𝓡.returns).pre call))
    (Gives-goes Y 𝓛 𝓜.mem 𝓡.returns κ q p handle (⊑_trans κ κ₂ A.lives y.0.2.0 le) b o (n * s) al τ
    (block_size E n far) (block_align E n) far (capped_fits (align (elτ E)))) $
    calls_at_last ! (fm 𝓛 𝓜 𝓡) (Gives Y 𝓛 𝓜.mem 𝓡.returns) (met.deallocate dd) call
    (and_then ! (get ! refl) (and_then ! (get ! refl)
    (and_then ! (get ! refl) (and_then ! (align_word !) (no_more !))))) (λ v.
    use1 𝓛 (later (given (v ≡ vunit) (‵ (flft κ q))))
    (Gives-Gives Y 𝓛 𝓜.mem 𝓡.returns κ q p handle b o (n * s) al τ v) $ await ! tt $
    learn ! (λ is_unit. join ! $
    regoal ! (λ (u : Val). settles En (place 6 []) u
    (out_of_block 𝓛 (then_runs 𝓛 C Λ En (after 3 fn.body) (at_ret En Post)))) is_unit refl $
    lands_last ! refl (tt, tt) $ exec ! C Λ En (after 3 fn.body) (at_ret En Post) $
    sets ! (of_opd ! (unit_lit !)) refl (tt, tt) $
    returns ! (look_at ! 0 refl) $ free_all ! refl $
    feq_i ! (List Val) (vunit ∷ []) (vunit ∷ []) refl $ nothing ! $ nothing ! $ nothing ! $
    fjoin ! $
    nothing ! $ fjoin ! $ nothing ! $ fjoin ! $ move ! (3 ∷ 0 ∷ 2 ∷ 1 ∷ []) $
    by ! (leaves 𝓛 T stayed c y vunit tt (tt, (tt, (tt, tt))) (tt, (tt, (tt, tt))))))))))))))
