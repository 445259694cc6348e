-- Some of a list, by places.
use Rattle.std.proofs.Common.{
  ◌≡◌,
  ℕ,
  suc,
  ◌+◌,
  ◌<◌,
  ◌≤◌,
  List,
  [],
  ◌∷◌,
  ◌++◌,
  length,
  get_or,
  take,
  map,
  refl,
  sym,
  ap,
  ◌∙◌,
  arith,
  inl,
  inr,
  subst,
}
use Rattle.std.proofs.Math.Seq.{get_or-append_seam}
use Rattle.std.proofs.lemmas.Bool.{cases_lt}
use Rattle.std.proofs.lemmas.List.{
  take_more,
  map-append,
  length-append,
  length-map,
  get_or_append_left,
  get_or-map,
  get_or_default,
  append_assoc,
}
use Rattle.vcd_reader.specs.declared.variable.VarId.{VarId}
use Rattle.vcd_reader.specs.declared.dump.Dump.{Dump}
use Rattle.vcd_reader.specs.Dump.{Contents}
use Rattle.vcd_reader.specs.Held.{IsOf}
use Rattle.cycle_window.specs.Variables.{places, AreOf}
use Rattle.cycle_window.specs.Ticks.{row_of, sample}
use Rattle.cycle_window.specs.Picks.{picked, AreBelow, ArePicks}

-- values with one more that a function gives of places
pub mapped-more : (f : ℕ → ℕ) (before values new picks : List ℕ) (i value : ℕ) → i < length picks
    → value ≡ f (get_or picks i 0) → values ≡ before ++ map f (take i picks) → new ≡ values ++ value ∷ []
    → new ≡ before ++ map f (take (i + 1) picks)
mapped-more f before values new picks i value lt is so-far pushed =
    pushed ∙ ap (λ (xs : List ℕ). xs ++ value ∷ []) so-far
    ∙ append_assoc before (map f (take i picks)) (value ∷ [])
    ∙ ap (λ (n : ℕ). before ++ (map f (take i picks) ++ n ∷ [])) is
    ∙ ap (λ (xs : List ℕ). before ++ xs)
    (sym (ap (map f) (take_more picks i 0 lt) ∙ map-append f (take i picks) (get_or picks i 0 ∷ [])))

-- the places of no variable
pub picks-none : (list : List ℕ) → ArePicks list [] []
unfolding picked
picks-none list = record { below = λ i lt. absurd (omega arith); stand = refl }

-- the places of one variable more
pub picks-more : (list picks new : List ℕ) (vs : List VarId) (i place : ℕ) (v : VarId)
    → i < length vs → v ≡ get_or vs i v
    → ArePicks list picks (map (λ (x : VarId). x.place) (take i vs))
    → place < length list → get_or list place 0 ≡ v.place → new ≡ picks ++ place ∷ []
    → ArePicks list new (map (λ (x : VarId). x.place) (take (i + 1) vs))
unfolding picked
picks-more list picks new vs i place v lt at h below is pushed = record {
  below = λ j jlt.
      let long : length (picks ++ place ∷ []) ≡ length picks + 1 =
      length-append picks (place ∷ []) in
      let len : length new ≡ length (picks ++ place ∷ []) = ap length pushed in
      subst (λ (xs : List ℕ). get_or xs j 0 < length list) (sym pushed)
      (elim (cases_lt j (length picks)) [
        | inl less ↦
            subst (λ (n : ℕ). n < length list)
            (sym (get_or_append_left picks (place ∷ []) 0 j less)) (h.below j less)
        | inr more ↦
            let e : j ≡ length picks = omega arith in
            subst (λ (n : ℕ). n < length list)
            (sym (ap (λ (n : ℕ). get_or (picks ++ place ∷ []) n 0) e
            ∙ get_or-append_seam picks place [] 0)) below
      ]);
  stand =
      ap (map (λ (n : ℕ). get_or list n 0)) pushed
      ∙ map-append (λ (n : ℕ). get_or list n 0) picks (place ∷ [])
      ∙ ap (λ (xs : List ℕ). xs ++ get_or list place 0 ∷ []) h.stand
      ∙ ap (λ (n : ℕ). map (λ (x : VarId). x.place) (take i vs) ++ n ∷ []) is
      ∙ sym (ap (map (λ (x : VarId). x.place))
      (take_more vs i v lt ∙ ap (λ (y : VarId). take i vs ++ y ∷ []) (sym at))
      ∙ map-append (λ (x : VarId). x.place) (take i vs) (v ∷ []));
}

-- as many as places
pub picked-long : (list picks : List ℕ) → length (picked list picks) ≡ length picks
unfolding picked
picked-long list picks = length-map picks (λ (n : ℕ). get_or list n 0)

-- what is picked of a row is the row of what is picked
pub picked-row : (c : Contents) (places picks : List ℕ) (k : ℕ) → AreBelow (length places) picks
    → picked (row_of c places k) picks ≡ row_of c (picked places picks) k
unfolding picked row_of
picked-row c places [] k below = refl
picked-row c places (p ∷ ps) k below =
    let here : get_or (map (sample c k) places) p 0 ≡ sample c k (get_or places p 0) =
    get_or-map (sample c k) places p 0 0 (below 0 (omega arith)) in
    ap (λ (n : ℕ). n ∷ picked (row_of c places k) ps) here
    ∙ ap (λ (xs : List ℕ). sample c k (get_or places p 0) ∷ xs)
    (picked-row c places ps k (λ i lt. below (suc i) (omega arith)))

-- what is picked of a longer list is the same
picked-grown : (list more picks : List ℕ) → AreBelow (length list) picks
    → ((i : ℕ) → i < length list → get_or more i 0 ≡ get_or list i 0)
    → picked more picks ≡ picked list picks
unfolding picked
picked-grown list more [] below same = refl
picked-grown list more (p ∷ ps) below same =
    let here = same p (below 0 (omega arith)) in
    let rest = picked-grown list more ps (λ i lt. below (suc i) (omega arith)) same in
    ap (λ (n : ℕ). n ∷ picked more ps) here ∙ ap (λ (xs : List ℕ). get_or list p 0 ∷ xs) rest

place-at : (vs : List VarId) (i : ℕ) (v : VarId) → i < length vs
    → get_or (places vs) i 0 ≡ (get_or vs i v).place
place-at vs i v lt = get_or-map (λ (x : VarId). x.place) vs i v 0 lt

-- the places of one variable more, which may have been put after the others
pub shared-more :
    (vs new : List VarId) (picks more : List ℕ) (wanted : List VarId) (i p : ℕ) (v : VarId)
    → i < length wanted → v ≡ get_or wanted i v
    → ArePicks (places vs) picks (places (take i wanted)) → length vs ≤ length new
    → ((i : ℕ) (x : VarId) → i < length vs → get_or new i x ≡ get_or vs i x) → p < length new
    → get_or new p v ≡ v → more ≡ picks ++ p ∷ []
    → ArePicks (places new) more (places (take (i + 1) wanted))
shared-more vs new picks more wanted i p v lt at h longer same inside here pushed =
    let old : length (places vs) ≡ length vs = length-map vs (λ (x : VarId). x.place) in
    let long : length (places new) ≡ length new = length-map new (λ (x : VarId). x.place) in
    let kept : (j : ℕ) → j < length (places vs) → get_or (places new) j 0 ≡ get_or (places vs) j 0 =
    λ j jlt.
    let jin : j < length vs = omega (arith, old) in
    place-at new j v (omega arith) ∙ ap (λ (x : VarId). x.place) (same j v jin)
    ∙ sym (place-at vs j v jin) in
    let grown : ArePicks (places new) picks (places (take i wanted)) =
    record {
      below = λ j jlt. let b = h.below j jlt in omega (arith, b, old, long);
      stand = picked-grown (places vs) (places new) picks h.below kept ∙ h.stand;
    } in
    picks-more (places new) picks more wanted i p v lt at grown (omega (arith, long))
    (place-at new p v inside ∙ ap (λ (x : VarId). x.place) here) pushed

-- a variable more of the dump's
pub bindable-grown : (d : Dump) (vs new : List VarId) (v : VarId) → AreOf d vs → IsOf d v
    → ((i : ℕ) (x : VarId) → i < length vs → get_or new i x ≡ get_or vs i x)
    → ((i : ℕ) → length vs ≤ i → get_or new i v ≡ v) → AreOf d new
bindable-grown d vs new v old of same behind = λ i x lt.
    let whichever : get_or new i x ≡ get_or new i v = get_or_default new i x v lt in
    elim (cases_lt i (length vs)) [
      | inl less ↦ subst (λ (y : VarId). IsOf d y) (sym (same i x less)) (old i x less)
      | inr more ↦ subst (λ (y : VarId). IsOf d y) (sym (whichever ∙ behind i more)) of
    ]
