-- The lines of a port file, one by one.
use Rattle.std.proofs.Common.{◌≡◌, ℕ, ◌+◌, ◌<◌, ◌≤◌, suc, true, false, List, [], ◌∷◌, ◌++◌, length, get_or, drop, map}
use Rattle.std.proofs.Common.{Result, Ok, Err, Bor, refl, sym, ap, ◌∙◌, add-one, append_assoc, subst}
use Rattle.std.specs.Prelude.{IsErrAnd}
use Rattle.axi4_rules.specs.declared.fault.PortFault.{PortFault}
use Rattle.axi4_rules.specs.declared.fault.PortFault.TheVariants as faults
use Rattle.axi4_rules.specs.Lines.{LineData}
use Rattle.axi4_rules.specs.Seen.{IsFault, Gives}
use Rattle.axi4_rules.specs.Ports.{is_skipped, port_in, ports_in, onto_ok}
use Rattle.axi4_rules.proofs.ListLaws.{drop-next, drop-end}

pub skipped : (n : ℕ) (l : List ℕ) (ls : List (List ℕ)) → is_skipped l ≡ true → ports_in n (l ∷ ls)
    ≡ ports_in (suc n) ls
unfolding ports_in
skipped n l ls h = rw h refl

pub said : (n : ℕ) (l : List ℕ) (ls : List (List ℕ)) (p : LineData) → is_skipped l ≡ false → port_in n l ≡ Ok p
    → ports_in n (l ∷ ls) ≡ onto_ok p (ports_in (suc n) ls)
unfolding ports_in
said n l ls p h e = rw (h, e) refl

pub refused : (n : ℕ) (l : List ℕ) (ls : List (List ℕ)) (f : PortFault) → is_skipped l ≡ false → port_in n l ≡ Err f
    → ports_in n (l ∷ ls) ≡ Err f
unfolding ports_in
refused n l ls f h e = rw (h, e) refl

-- ports, and then those of a result
abbrev pub behind : List LineData → Result (List LineData) PortFault → Result (List LineData) PortFault
behind ps (Ok qs) = Ok (ps ++ qs)
behind ps (Err e) = Err e

pub behind-onto : (ps : List LineData) (p : LineData) (r : Result (List LineData) PortFault) → behind ps (onto_ok p r)
    ≡ behind (ps ++ p ∷ []) r
behind-onto ps p (Ok qs) = ap Ok (sym (append_assoc ps (p ∷ []) qs))
behind-onto ps p (Err e) = refl

-- the ports of the lines from the place i on
abbrev pub left : List (Bor (List ℕ)) → ℕ → Result (List LineData) PortFault
left ls i = ports_in (i + 1) (map (λ l. l.now) (drop i ls))

pub left-skipped : (ls : List (Bor (List ℕ))) (i : ℕ) (d : Bor (List ℕ)) → i < length ls
    → is_skipped ((get_or ls i d).now) ≡ true → left ls i ≡ left ls (i + 1)
left-skipped ls i d below h =
    ap (λ l. ports_in (i + 1) (map (λ t. t.now) l)) (drop-next ls i d below)
    ∙ skipped (i + 1) ((get_or ls i d).now) (map (λ t. t.now) (drop (i + 1) ls)) h
    ∙ ap (λ n. ports_in n (map (λ t. t.now) (drop (i + 1) ls))) (sym (add-one (i + 1)))

pub left-said : (ls : List (Bor (List ℕ))) (i : ℕ) (d : Bor (List ℕ)) (p : LineData) → i < length ls
    → is_skipped ((get_or ls i d).now) ≡ false → port_in (i + 1) ((get_or ls i d).now) ≡ Ok p
    → left ls i ≡ onto_ok p (left ls (i + 1))
left-said ls i d p below h e =
    ap (λ l. ports_in (i + 1) (map (λ t. t.now) l)) (drop-next ls i d below)
    ∙ said (i + 1) ((get_or ls i d).now) (map (λ t. t.now) (drop (i + 1) ls)) p h e
    ∙ ap (λ n. onto_ok p (ports_in n (map (λ t. t.now) (drop (i + 1) ls)))) (sym (add-one (i + 1)))

pub left-refused : (ls : List (Bor (List ℕ))) (i : ℕ) (d : Bor (List ℕ)) (f : PortFault) → i < length ls
    → is_skipped ((get_or ls i d).now) ≡ false → port_in (i + 1) ((get_or ls i d).now) ≡ Err f → left ls i ≡ Err f
left-refused ls i d f below h e =
    ap (λ l. ports_in (i + 1) (map (λ t. t.now) l)) (drop-next ls i d below)
    ∙ refused (i + 1) ((get_or ls i d).now) (map (λ t. t.now) (drop (i + 1) ls)) f h e

pub left-none : (ls : List (Bor (List ℕ))) (i : ℕ) → length ls ≤ i → left ls i ≡ Ok []
unfolding ports_in
left-none ls i over = rw (drop-end ls i over) refl

-- a fault that one definition says, said by another
pub carried : {Y Z : Type 0} (e : PortFault) (a : Result Y PortFault) (b : Result Z PortFault) → (a ≡ Err e → b ≡ Err e)
    → IsFault e a → IsFault e b
carried faults.Memory a b f h = tt
carried faults.BadWidth a b f h = f h
carried faults.BadId a b f h = f h
carried faults.BadName a b f h = f h
carried (faults.BadLine n) a b f h = f h

-- a fault that is handed on
pub handed_on : {X Y : Type 0} (view : X → Y) (r : Result X PortFault) (e : PortFault) (said : Result Y PortFault)
    → IsErrAnd r (λ f. f ≡ e) → IsFault e said → Gives view r said
handed_on view (Ok x) e said h why = absurd h
handed_on view (Err f) e said h why = subst (λ (g : PortFault). IsFault g said) (sym h) why
