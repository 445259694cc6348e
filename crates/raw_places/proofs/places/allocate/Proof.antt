-- `allocate` asks the allocator for a block and makes empty places of its room. Assumes `Logic`.
use Rattle.raw_places.proofs.Steps.{◌≡◌, ℕ, ◌*◌, ◌^◌, ◌<◌, List, [], ◌∷◌, ◌++◌, length, replicate}
use Rattle.raw_places.proofs.Steps.{refl, sym, ap, subst, lit<, w64, arith, proved_at, leaves, after}
use Rattle.raw_places.proofs.Steps.{El, R, el_x, elτ, SProp, id⊢, Lft, Share, ftrue, flft}
use Rattle.raw_places.proofs.Steps.{◌⊑◌, ⊑_trans, fact, tables, inst_fn, Fn, Args, a_type, dcons}
use Rattle.raw_places.proofs.Steps.{dnil, Val, vint, vptr, Env, WpFn, ‵, raw, ◌⊛◌, later, prop}
use Rattle.raw_places.proofs.Steps.{at_ret, ◌$◌, ◌∵◌, !, qed, by, move, drop, use0, use1, use2}
use Rattle.raw_places.proofs.Steps.{split, join, fsplit, fjoin, await, regoal, whole, agg, enter}
use Rattle.raw_places.proofs.Steps.{of_opd, lit, bin, stop, fld, no_more, and_then, first, exec}
use Rattle.raw_places.proofs.Steps.{returns, alloc_all, pass_all, free_all, look_at, get, get_in}
use Rattle.raw_places.proofs.Steps.{sets, sets_last, lands_as, is, env, RattleType, owns, Ptr}
use Rattle.raw_places.proofs.Steps.{block_ptr, param, bounded, types_at, type_at, nothing, heard}
use Rattle.raw_places.proofs.Steps.{alive, Stays, walk_of, stay_dropped, Goes-dropped}
use Rattle.std.proofs.lemmas.List.{length-replicate}
use Rattle.std.specs.Prelude.{Option, Some, None}
use Rattle.std.specs.Vec.Ownership.{FitsInBlock}
use mir.Syntax.{ty_array}
use mir.Val.{vcons, vnil}
use prog.Capped.{capped_fits}
use prog.Memory.{align, capped}
use types.Kit.{flt_i}
use types.Match.{live, vrt, in_variant}
use types.Run.{switches_on, size_word, align_word}
use types.ByLocal.{get_tag}
use denote.Struct.Tuple.{Tuple}
use denote.Triple.Call.{calls_at}
use Rattle.core.proofs.alloc.Calls.{Al, seen, Takes, at_takes, Answered, Takes-goes, Takes-gives}
use Rattle.core.proofs.alloc.Calls.{answers}
use Rattle.core.proofs.alloc.Shapes.{head, arm_body}
use Rattle.core.proofs.atomic.Steps.{fm}
use Rattle.core.proofs.option.Made.{Some-of, none_of}
use Rattle.core.proofs.slots.Leases.{uncapped, block_ty, block_size, block_align}
use Rattle.std_alloc.proofs.Pairs.{pair_of, pair_val}
use Rattle.std_alloc.proofs.RawLayout.{as_written}
use Rattle.raw_places.proofs.Rows.{sz, row_of_room}
use Rattle.raw_places.proofs.Values.{places_val, places_fields, places_made}
use Rattle.raw_places.proofs.Values.{lease_val, lease_fields, lease_made}
use Rattle.raw_places.proofs.Walks.{slot_at, then_runs, four, all_four}
use Rattle.raw_places.specs.Ownership.{row_owned}
use Rattle.raw_places.specs.contracts.places.Places as Places
use Rattle.raw_places.specs.contracts.places.Lease as Lease
use Rattle.raw_places.specs.contracts.places.allocate as f
use Rattle.raw_places.proofs.places.allocate.Statement.{statement}
use Rattle.raw_places.proofs.places.allocate.Code as code

pub allocate_spec : {M : Type 1} → statement M
allocate_spec 𝓤 𝓛 𝓜 𝓡 wired X A LX L g d dd met md =
    let E : El = record { row = X; laws = LX } in
    let T = f.ended X A g d dd in
    let c = f.clauses X A g d dd 𝓛 𝓜.mem 𝓡.returns in
    let args : Args = bounded (a_type ∷ a_type ∷ []) (X, (A, tt)) (dcons d (dcons dd dnil)) in
    let fn : Fn = inst_fn args code.function in
    let handle_slot = slot_at 0 T.signature.params in
    let number_slot = slot_at 1 T.signature.params in
    let stayed : Stays T.signature.params T.kept =
    (stay_dropped handle_slot T.kept.0, (stay_dropped number_slot T.kept.1.0, tt)) in
    let C = (tables 𝓤 𝓛.H 𝓜 𝓡 𝓡.env).C in
    let Λ = (tables 𝓤 𝓛.H 𝓜 𝓡 𝓡.env).Λ in
    proved_at 𝓛 T stayed c 𝓜 𝓡 (
      Goes-dropped 𝓛 3 handle_slot T.kept.0 (λ κs x w. refl),
      (Goes-dropped 𝓛 3 number_slot T.kept.1.0 (λ κs x w. refl), tt),
    )
    (f.Key.name args) fn (code.unfolded 𝓤 𝓛.H 𝓜 𝓡 wired (X, (A, tt)) d dd) (λ y are.
    let Post : Val → SProp 𝓤 = (walk_of 𝓛 T stayed c).post y in
    let κs = y.0.0 in let qs = y.0.1 in let a = y.0.3 in let vss = y.0.4 in
    let κ : Lft = κs.0 in let q : Share = qs.0 in
    let κ₁ : Lft = κs.1.0 in let κ₂ : Lft = κs.1.1.0 in
    let Y : Al = record { row = A; laws = L; g = g; d = d; drops = dd } in
    let Z : RattleType = param 1 A in
    let handle = a.0.now in let p = a.0.ref_ptr in let n = a.1.0 in
    let s : ℕ = sz E in let al : ℕ = capped (align (elτ E)) in let τ = block_ty E n in
    let call =
    at_takes Y 𝓛 𝓜.mem 𝓡.returns κ q p handle (n * s) al τ in
    let Out : RattleType = type_at T.signature.result κs in
    let Rp : RattleType = Places.the_row (R E) in let Rl : RattleType = Lease.the_row (R E) Z g in
    let Both : RattleType = Tuple (Rp ∷ Rl ∷ []) in
    let Asked : Type 0 = FitsInBlock (R E) n in
    qed 𝓛 ((raw (alive 𝓛 T.signature κs qs) ⊛ ‵ (owns (types_at T.signature.params κs) a vss))
    ∷ (raw (fact 𝓤 (κ₁ ⊑ X.lives)) ⊛ raw (fact 𝓤 (κ₂ ⊑ A.lives)) ⊛ raw (fact 𝓤 Asked)) ∷ []) ∵
    move ! (1 ∷ []) $ split ! $ drop ! $ split ! $ heard ! (κ₂ ⊑ A.lives)
    (λ le. heard ! Asked (λ asked.
    let small : n * s < 2 ^ 63 = asked.0 in let far : n * s < 2 ^ 64 = omega (arith, small) in
    let fits = are.1.0.1 in
    split ! $ move ! (1 ∷ []) $ fsplit ! $ fsplit ! $ drop ! $ move ! (1 ∷ []) $ drop ! $
    use1 𝓛 (‵ (seen Y κ p handle)) (id⊢ 𝓤 _) $ move ! (1 ∷ []) $
    use1 𝓛 (‵ (flft κ q) ⊛ ‵ (flft κ₁ qs.1.0) ⊛ ‵ (flft κ₂ qs.1.1.0) ⊛ ‵ ftrue) (id⊢ 𝓤 _) $ split !
    $ move ! (2 ∷ 0 ∷ []) $
    -- [a `&` to the handle; the token of its lifetime; the other token]
    regoal ! (λ (us : List Val). prop (WpFn 𝓤 𝓛.H C Λ fn us Post))
    (λ i. are.0.0 i ++ (are.1.0.0 i ++ [])) refl $
    enter ! C Λ fn (vptr p.0 p.1 ∷ vint w64 n ∷ []) Post $
    alloc_all ! (λ l. pass_all ! refl ((tt, tt), ((tt, record { fits = fits }), tt)) $
    let En : Env 𝓤 𝓛.H = env fn.locals l in
    sets ! (is ! (bin ! (get ! refl) (size_word !)
    (record { fits = subst (λ (k : ℕ). k < 2 ^ 64) (sym (uncapped n s far)) far }))
    (ap (vint w64) (uncapped n s far))) refl (tt, record { fits = far }) $
    use2 𝓛 (raw ((Takes Y 𝓛 𝓜.mem 𝓡.returns).pre call))
    (Takes-goes Y 𝓛 𝓜.mem 𝓡.returns κ q p handle (⊑_trans κ κ₂ A.lives y.0.2.0 le) (n * s) al τ
    (block_size E n far) (block_align E n) far (capped_fits (align (elτ E)))) $
    calls_at ! (fm 𝓛 𝓜 𝓡) (Takes Y 𝓛 𝓜.mem 𝓡.returns) (met.allocate dd) call
    (and_then ! (get ! refl) (and_then ! (get ! refl) (and_then ! (align_word !) (no_more !))))
    (λ v.
    use1 𝓛 (later (raw (Answered Y 𝓛 𝓜.mem 𝓡.returns handle τ v) ⊛ ‵ (flft κ q)))
    (Takes-gives Y 𝓛 𝓜.mem 𝓡.returns κ q p handle (n * s) al τ v) $ await ! tt $ split ! $
    answers Y ! 𝓜.mem 𝓡.returns handle τ v
    (λ b o e. move ! (2 ∷ 3 ∷ []) $ join ! $ move ! (1 ∷ 2 ∷ []) $
    -- [the room; the right to free it; the tokens]
    lands_as ! e refl (tt, (record { fits = lit< tt }, (tt, tt))) $
    first ! $ switches_on ! (get_tag ! (vrt ! refl (fld ! refl (stop !))) (whole !)) $
    exec ! C Λ En (arm_body 0 (head (after 2 fn.body)))
    (then_runs 𝓛 C Λ En (after 3 fn.body) (at_ret En Post)) $
    sets ! (of_opd ! (get_in ! (vrt ! refl (fld ! refl (stop !)))
    (in_variant ! 0 0 refl refl (whole !)))) refl (tt, tt) $
    sets ! (of_opd ! (get ! refl)) refl (tt, tt) $
    sets ! (agg ! (no_more !)) refl (tt, tt) $
    sets ! (agg ! (and_then ! (get ! refl) (and_then ! (get ! refl) (no_more !)))) refl
    (tt, (tt, (record { fits = fits }, tt))) $
    sets ! (agg ! (and_then ! (get ! refl) (no_more !))) refl (tt, (tt, tt)) $
    sets ! (agg ! (and_then ! (get ! refl) (and_then ! (get ! refl) (no_more !)))) refl
    (tt, ((tt, (record { fits = fits }, tt)), ((tt, tt), tt))) $
    sets_last ! (agg ! (and_then ! (lit ! tt) (and_then ! (get ! refl) (no_more !)))) refl
    (tt, (record { fits = lit< tt }, (((tt, (record { fits = fits }, tt)), ((tt, tt), tt)), tt))) $
    exec ! C Λ En (after 3 fn.body) (at_ret En Post) $
    sets ! (of_opd ! (get ! refl)) refl
    (tt, (record { fits = lit< tt }, (((tt, (record { fits = fits }, tt)), ((tt, tt), tt)), tt))) $
    returns ! (look_at ! 0 refl) $ free_all ! refl $
    let none : Option (el_x E) = None in
    let start : Ptr = block_ptr b o in let held = replicate n none in
    let places : Rp.Denot = record {
      start = start;
      count = n;
      held = held;
      all = sym (length-replicate n none);
    } in
    let lease : Rl.Denot = record {
      marker = record {};
      alloc = handle;
      start = start;
      count = n;
    } in
    let pair : Val = pair_val (places_val start n) lease_val in
    as_written ! (ty_array (elτ E) n) b o $
    use1 𝓛 (‵ (row_owned (R E) b o held)) (row_of_room E 𝓛 b n o) $
    flt_i ! (length held * s) (2 ^ 63)
    (subst (λ (k : ℕ). k * s < 2 ^ 63) (sym (length-replicate n none)) small) $ fjoin ! $
    use0 𝓛 (‵ (places_fields start n (places_val start n ∷ []))) (places_made 𝓛 start n are.1.0.1) $
    fjoin ! $ move ! (1 ∷ []) $
    use0 𝓛 (‵ (lease_fields (lease_val ∷ []))) (lease_made 𝓛) $ fjoin ! $ move ! (1 ∷ 0 ∷ []) $
    use2 𝓛 (‵ (Both.own_val (places, lease) (pair ∷ [])))
    (pair_of 𝓛 Rp Rl places lease (places_val start n) lease_val) $
    use1 𝓛 (‵ (Out.own_val (Some (places, lease)) (live 1 (vcons pair vnil) ∷ [])))
    (Some-of 𝓛 Both (places, lease) pair) $
    use0 𝓛 (raw (four 𝓛 (held ≡ held) ((n ≡ n) × (n ≡ n)) (handle ≡ handle) (start ≡ start)))
    (all_four 𝓛 refl (refl, refl) refl refl) $
    nothing ! $ nothing ! $ fjoin ! $ nothing ! $ fjoin ! $ move ! (3 ∷ 0 ∷ 2 ∷ 1 ∷ []) $
    by ! (leaves 𝓛 T stayed c y (live 1 (vcons pair vnil)) (Some (places, lease))
    (tt, (tt, tt)) (tt, (tt, tt))))
    (λ e. join ! $ lands_as ! e refl (tt, (record { fits = lit< tt }, (tt, tt))) $
    first ! $ switches_on ! (get_tag ! (vrt ! refl (fld ! refl (stop !))) (whole !)) $
    exec ! C Λ En (arm_body 1 (head (after 2 fn.body)))
    (then_runs 𝓛 C Λ En (after 3 fn.body) (at_ret En Post)) $
    sets_last ! (agg ! (and_then ! (lit ! tt) (no_more !))) refl
    (tt, (record { fits = lit< tt }, tt)) $
    exec ! C Λ En (after 3 fn.body) (at_ret En Post) $
    sets ! (of_opd ! (get ! refl)) refl (tt, (record { fits = lit< tt }, tt)) $
    returns ! (look_at ! 0 refl) $ free_all ! refl $
    use0 𝓛 (‵ (Out.own_val None (live 0 vnil ∷ []))) (none_of 𝓛 Both) $
    use0 𝓛 (raw (four 𝓛 (Unit {0}) (Unit {0}) (Unit {0}) (Unit {0}))) (all_four 𝓛 tt tt tt tt) $
    nothing ! $ nothing ! $ fjoin ! $ nothing ! $ fjoin ! $ move ! (3 ∷ 0 ∷ 2 ∷ 1 ∷ []) $
    by ! (leaves 𝓛 T stayed c y (live 0 vnil) None (tt, (tt, tt)) (tt, (tt, tt)))))))))
