-- Marked places, and what stands at them.
use Rattle.std.proofs.Common.{◌≡◌, ◌∙◌, ℕ, zero, suc, ◌+◌, ◌-◌, ◌<◌, ◌≤◌, Bool, true, false, List, [], ◌∷◌}
use Rattle.std.proofs.Common.{length, map, Some, slice_get, refl, ap, sym, subst, arith, inl, inr}
use Rattle.std.specs.Prelude.{unwrap_or, count_by, cond}
use Rattle.std.specs.List.{AllByRecursion, AllZip, All}
use Rattle.std.proofs.lemmas.List.Sums.{sum_by-cons}
use Rattle.std.proofs.lemmas.Option.{slice_get_within, slice_get_cases}
use Rattle.expressions.specs.declared.counter.Counter.{Counter}
use Rattle.assertions.specs.Marks.{is_marked, places_from, slots_from}
use Rattle.assertions.proofs.SlotLaws.{place-at, marked-at}
use Rattle.compiler.specs.Samples.{Held}
use Rattle.compiler.specs.Chosen.{held_found, held_counters}
use Rattle.compiler.proofs.ListLaws.{some-one}
use Rattle.compiler.specs.Parts.{width_found, width_at}

-- each place is below
abbrev pub AreBelow : ℕ → List ℕ → Type 0
AreBelow n places = AllByRecursion (λ p. p < n) places

below-more : (m n : ℕ) (places : List ℕ) → m ≤ n → AreBelow m places → AreBelow n places
below-more m n [] le h = tt
below-more m n (p ∷ ps) le h = (omega (arith, h.0, le), below-more m n ps le h.1)

pub places-below : (place : ℕ) (marks : List Bool) → AreBelow (place + length marks) (places_from place marks)
places-below place [] = tt
places-below place (true ∷ marks) = (
  omega arith,
  below-more (place + 1 + length marks) (place + suc (length marks)) (places_from (place + 1) marks)
      (omega arith) (places-below (place + 1) marks),
)
places-below place (false ∷ marks) =
    below-more (place + 1 + length marks) (place + suc (length marks)) (places_from (place + 1) marks) (omega arith)
    (places-below (place + 1) marks)

pub all-below : (n : ℕ) (marks : List Bool) → length marks ≡ n → AreBelow n (places_from 0 marks)
all-below n marks long =
    below-more (0 + length marks) n (places_from 0 marks) (omega (arith, long)) (places-below 0 marks)

-- the same by places
pub below-each : (n : ℕ) (places : List ℕ) → AreBelow n places → All (λ p. p < n) places
below-each n [] h k d lt = absurd (omega (arith, lt))
below-each n (p ∷ ps) h zero d lt = h.0
below-each n (p ∷ ps) h (suc k) d lt = below-each n ps h.1 k d (omega (arith, lt))

pub places-long : (place : ℕ) (marks : List Bool) → length (places_from place marks) ≡ count_by is_marked marks
places-long place [] = refl
places-long place (true ∷ marks) =
    let count : count_by is_marked (true ∷ marks) ≡ 1 + count_by is_marked marks =
    sum_by-cons (λ x. cond (is_marked x) 1 0) true marks in
    omega (arith, places-long (place + 1) marks, count)
places-long place (false ∷ marks) =
    let count : count_by is_marked (false ∷ marks) ≡ 0 + count_by is_marked marks =
    sum_by-cons (λ x. cond (is_marked x) 1 0) false marks in
    omega (arith, places-long (place + 1) marks, count)

-- the slot of a marked place
pub slot-at : (first : ℕ) (marks : List Bool) (i place : ℕ) → slice_get (places_from 0 marks) i ≡ Some place →
    unwrap_or (slice_get (slots_from first marks) place) 0 ≡ first + i
slot-at first marks i place is =
    let found = place-at first 0 marks i place is in
    let e : place - 0 ≡ place = omega arith in
    ap (λ o. unwrap_or o 0) (ap (λ k. slice_get (slots_from first marks) k) (sym e) ∙ found.slot)

-- a marked place is among the places
pub place-of : (marks : List Bool) (place : ℕ) → slice_get marks place ≡ Some true →
    (i : ℕ) × (slice_get (places_from 0 marks) i ≡ Some place)
place-of marks place is =
    let found = marked-at 0 marks place is in
    let e : 0 + place ≡ place = omega arith in
    (found.0, found.1 ∙ ap (λ p. Some p) e)

-- each place with what is made of it
pub zip-made : {A : Type 0} (R : ℕ → A → Type 0) (f : ℕ → A) (n : ℕ) (places : List ℕ) → ((p : ℕ) → p < n → R p (f p)) →
    AreBelow n places → AllZip R places (map f places)
zip-made R f n [] go h = tt
zip-made R f n (p ∷ ps) go h = (go p h.0, zip-made R f n ps go h.1)

-- what stands at a place that is there
pub stands-at : {A : Type 0} (xs : List A) (i : ℕ) → i < length xs → (x : A) × (slice_get xs i ≡ Some x)
stands-at xs i lt =
    elim ((slice_get_cases xs i).1) [
      | inl found ↦ (found.0, found.2)
      | inr past ↦ absurd (omega (arith, past.0, lt))
    ]

module _ (all : List Counter) where
  abbrev held-one : ℕ → Counter → Held
  held-one p c = record { place = p; counter = c }

  -- a place that is there chooses its counter
  found-there : (p : ℕ) (ps : List ℕ) (c : Counter) → slice_get all p ≡ Some c →
      held_counters all (p ∷ ps) ≡ held-one p c ∷ held_counters all ps
  found-there p ps c is = ap (λ o. held_found p o (held_counters all ps)) is

  pub all-held : (ps : List ℕ) → AreBelow (length all) ps →
      AllByRecursion (λ (h : Held). slice_get all h.place ≡ Some h.counter) (held_counters all ps)
  all-held [] below = tt
  all-held (p ∷ ps) below =
      let c = stands-at all p below.0 in
      subst (AllByRecursion (λ (h : Held). slice_get all h.place ≡ Some h.counter)) (sym (found-there p ps c.0 c.1))
      (c.1, all-held ps below.1)

  pub held-widths : (ps : List ℕ) → AreBelow (length all) ps →
      map (width_at all) ps ≡ map (λ (h : Held). h.counter.width) (held_counters all ps)
  held-widths [] below = refl
  held-widths (p ∷ ps) below =
      let c = stands-at all p below.0 in
      ap (λ o. width_found o ∷ map (width_at all) ps) c.1
      ∙ ap (λ ws. c.0.width ∷ ws) (held-widths ps below.1)
      ∙ sym (ap (map (λ (h : Held). h.counter.width)) (found-there p ps c.0 c.1))

  -- the counter of a place in the list, and the place of a counter
  pub held-at : (ps : List ℕ) → AreBelow (length all) ps → (i p : ℕ) (c : Counter) → slice_get ps i ≡ Some p →
      slice_get all p ≡ Some c → slice_get (held_counters all ps) i ≡ Some (held-one p c)
  held-at [] below i p c at is = absurd (omega (arith, slice_get_within [] i p at))
  held-at (q ∷ ps) below zero p c at is =
      ap (λ hs. slice_get hs 0) (found-there q ps c (ap (slice_get all) (some-one q p at) ∙ is))
      ∙ ap (λ r. Some (held-one r c)) (some-one q p at)
  held-at (q ∷ ps) below (suc i) p c at is =
      let d = stands-at all q below.0 in
      ap (λ hs. slice_get hs (suc i)) (found-there q ps d.0 d.1) ∙ held-at ps below.1 i p c at is

  pub place-held : (ps : List ℕ) → AreBelow (length all) ps → (i : ℕ) (h : Held) → slice_get (held_counters all ps) i
      ≡ Some h
      →
      slice_get ps i ≡ Some h.place
  place-held [] below i h at = absurd (omega (arith, slice_get_within [] i h at))
  place-held (q ∷ ps) below zero h at =
      let d = stands-at all q below.0 in
      ap (λ (g : Held). Some g.place)
      (some-one (held-one q d.0) h (sym (ap (λ hs. slice_get hs 0) (found-there q ps d.0 d.1)) ∙ at))
  place-held (q ∷ ps) below (suc i) h at =
      let d = stands-at all q below.0 in
      place-held ps below.1 i h (sym (ap (λ hs. slice_get hs (suc i)) (found-there q ps d.0 d.1)) ∙ at)

  pub held-long : (ps : List ℕ) → AreBelow (length all) ps → length (held_counters all ps) ≡ length ps
  held-long [] below = refl
  held-long (q ∷ ps) below =
      let d = stands-at all q below.0 in
      ap length (found-there q ps d.0 d.1) ∙ ap suc (held-long ps below.1)

  pub held-places : (ps : List ℕ) → AreBelow (length all) ps → map (λ (h : Held). h.place) (held_counters all ps) ≡ ps
  held-places [] below = refl
  held-places (q ∷ ps) below =
      let d = stands-at all q below.0 in
      ap (map (λ (h : Held). h.place)) (found-there q ps d.0 d.1) ∙ ap (λ rest. q ∷ rest) (held-places ps below.1)
