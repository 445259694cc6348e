-- Changes whose high halves stand after others.
use Rattle.std.proofs.Common.{◌≡◌, ◌≢◌, ℕ, zero, suc, ◌+◌, ◌-◌, ◌*◌, ◌^◌, ◌<◌, ◌≤◌, false, eqb, List, [], ◌∷◌}
use Rattle.std.proofs.Common.{◌++◌, length, get_or, map, refl, ap, sym, ◌∙◌, arith, inl, inr}
use Rattle.std.proofs.lemmas.List.{ext_get_or, get_or-map, get_or-append-add, get_or-set_same, get_or-set_other}
use Rattle.std.proofs.lemmas.List.{length-map}
use Rattle.std.proofs.lemmas.Bool.Decides.{eqb_tells}
use Rattle.std.specs.Prelude.{slice_set}
use Rattle.vcd_reader.specs.declared.step.Change.{Change}
use Rattle.vcd_reader.specs.declared.step.Step.{Step}
use Rattle.vcd_reader.specs.Stored.{stored_value, stored_change, stored_step}

-- a change without a high half says the same over all of them
pub stored-low : (high other : List ℕ) (c : Change) → c.high ≡ 0 → stored_change high c ≡ stored_change other c
unfolding stored_change stored_value
stored-low high other c none = rw none refl

-- a change with one says the same over more in front, where it is as many places further
pub stored-moved : (front high : List ℕ) (c : Change) (by place : ℕ) → length front ≡ by → c.high ≢ 0
    → place ≡ c.high + by
    → stored_change (front ++ high) (record { code = c.code; high = place; low = c.low }) ≡ stored_change high c
unfolding stored_change stored_value
stored-moved front high c by place long some is =
    let old : eqb c.high 0 ≡ false = elim (eqb_tells c.high 0) [ inl p ↦ absurd (some p.1) | inr p ↦ p.0 ] in
    let new : eqb place 0 ≡ false =
    elim (eqb_tells place 0) [ inl p ↦ absurd (some (let h : c.high ≡ 0 = omega (arith, p.1) in h)) | inr p ↦ p.0 ] in
    let at : place - 1 ≡ length front + (c.high - 1) =
    elim (eqb_tells c.high 0) [ inl p ↦ absurd (some p.1) | inr p ↦ omega arith ] in
    rw (old, new, at)
    (ap (λ (v : ℕ). record { code = c.code; value = c.low + 2 ^ 64 * v })
    (get_or-append-add front high (c.high - 1) 0))

module _ {X Y : Type 0} (f g : X → Y) where
  -- of those before a place f is what g was, and of the one there
  pub and-this : (old now : List X) (n : ℕ) → ((i : ℕ) (d : X) → i < n → f (get_or now i d) ≡ g (get_or old i d))
      → ((d : X) → f (get_or now n d) ≡ g (get_or old n d))
      → (i : ℕ) (d : X) → i < n + 1 → f (get_or now i d) ≡ g (get_or old i d)
  and-this old now n before one i d lt =
      elim (eqb_tells i n) [
        | inl p ↦ let h : i ≡ n = p.1 in
            ap (λ (k : ℕ). f (get_or now k d)) h ∙ one d ∙ ap (λ (k : ℕ). g (get_or old k d)) (sym h)
        | inr p ↦ let h : i ≢ n = p.1 in before i d (omega (arith, h))
      ]

  -- the same, where it is put there
  pub more-moved : (old now : List X) (n : ℕ) (y : X) → n < length now
      → ((i : ℕ) (d : X) → i < n → f (get_or now i d) ≡ g (get_or old i d))
      → ((d : X) → f y ≡ g (get_or old n d))
      → (i : ℕ) (d : X) → i < n + 1 → f (get_or (slice_set now n y) i d) ≡ g (get_or old i d)
  more-moved old now n y inside before one i d lt =
      and-this old (slice_set now n y) n
      (λ k e less. ap f (get_or-set_other now n k y e (λ h. omega (arith, h, less))) ∙ before k e less)
      (λ e. ap f (get_or-set_same now n y e inside) ∙ one e) i d lt

  -- those after it stay
  pub others-stay : (old now : List X) (n : ℕ) (y : X)
      → ((i : ℕ) (d : X) → n ≤ i → get_or now i d ≡ get_or old i d)
      → (i : ℕ) (d : X) → n + 1 ≤ i → get_or (slice_set now n y) i d ≡ get_or old i d
  others-stay old now n y rest i d le =
      let h : i ≢ n = λ e. omega (arith, e, le) in
      get_or-set_other now n i y d h ∙ rest i d (omega arith)

  -- all of them
  pub all-moved : (old now : List X) → length now ≡ length old
      → ((i : ℕ) (d : X) → i < length old → f (get_or now i d) ≡ g (get_or old i d)) → map f now ≡ map g old
  all-moved [] [] long each = refl
  all-moved [] (y ∷ ys) long each = absurd (omega (arith, long))
  all-moved (x ∷ xs) [] long each = absurd (omega (arith, long))
  all-moved (x ∷ xs) (y ∷ ys) long each =
      ext_get_or (f y) (map f (y ∷ ys)) (map g (x ∷ xs))
      (length-map (y ∷ ys) f ∙ long ∙ sym (length-map (x ∷ xs) g))
      (λ i lt.
      let l = length-map (y ∷ ys) f in
      let inside : i < length (y ∷ ys) = omega (arith, l, lt) in
      let inside' : i < length (x ∷ xs) = omega (arith, inside, long) in
      get_or-map f (y ∷ ys) i y (f y) inside ∙ each i y inside' ∙ sym (get_or-map g (x ∷ xs) i y (f y) inside'))

-- a step whose changes were moved
pub step-moved : (front high : List ℕ) (old new : Step) → new.time ≡ old.time
    → map (stored_change (front ++ high)) new.changes.items ≡ map (stored_change high) old.changes.items
    → stored_step (front ++ high) new ≡ stored_step high old
unfolding stored_step
step-moved front high old new same moved = rw (same, moved) refl
