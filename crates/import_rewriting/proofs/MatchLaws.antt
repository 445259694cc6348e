-- What has a match by its form has one from each tick that wasn't seen.
use Rattle.std.proofs.Common.{◌≡◌, inl, inr, ℕ, zero, suc, ◌+◌, ◌-◌, ◌<◌, ◌≤◌, Bool, true, nat_le, max}
use Rattle.std.proofs.Common.{refl, subst, arith}
use Rattle.std.specs.Prelude.{IsTrue}
use Rattle.std.proofs.lemmas.Bool.{or_cases, or_left, and_parts, leb-true, le-leb}
use Rattle.assertions.specs.Segments.{Seq, Chain, sat, Matches}
use Rattle.assertions.specs.Written.{Written, boolean, delay, lead, repeat, or, and, intersect, throughout, kernel}
use Rattle.assertions.specs.Written.{after, later, IsOrdered}
use Rattle.assertions.proofs.RangeLaws.{one_of-matches, after-matches, later-matches}
use Rattle.import_properties.specs.declared.condition.Condition.{Condition}
use Rattle.import_properties.specs.declared.condition.Condition.TheVariants.{One}
use Rattle.import_properties.specs.Conditions.{value_of}
use Rattle.import_properties.proofs.FormLaws.{sat-one}
use Rattle.import_properties.proofs.RowLaws.{GoesOn}
use Rattle.import_rewriting.specs.Sides.{can_match}

module _ (holds : Condition → ℕ → Bool) (n : ℕ) (one : (k : ℕ) → IsTrue (holds One k))
    (all : (b : Condition) (k : ℕ) → n ≤ k → IsTrue (holds b k)) where
  chain_from : (P : ℕ → ℕ → Type 0) → ((k : ℕ) → n ≤ k → (j : ℕ) × (k < j) × P k j) → (count k : ℕ) → n ≤ k
      → (j : ℕ) × (k + count ≤ j) × Chain P count k j
  chain_from P each zero k late = (k, omega arith, refl)
  chain_from P each (suc count) k late =
      let front = chain_from P each count k late in
      let last = each front.0 (omega (arith, late, front.1)) in
      (last.0, omega (arith, front.1, last.1), (front.0, front.2, last.2))

  joined : (r s : Seq Condition) (least k m j : ℕ) → k < m → m + (least - 1) < j → Matches holds r k m
      → Matches holds s (m + (least - 1)) j → 1 ≤ least → Matches holds (after One r s least) k j
  joined r s least k m j some rest front back low = after-matches Condition holds One one r s least k m j low front back

  pub match-from : (w : Written Condition) → IsOrdered w → can_match w ≡ true → (k : ℕ) → n ≤ k
      → (j : ℕ) × (k < j) × Matches holds (kernel One w) k j
  match-from (boolean b) o t k late = (k + 1, omega arith, (refl, all b k late))
  match-from (delay r zero most s) o t k late =
      let p = and_parts (can_match r) (can_match s) t in
      let front = match-from r o.1 p.0 k late in
      let back = match-from s o.2 p.1 (front.0 - 1) (omega (arith, late, front.1)) in
      let end : front.0 ≡ front.0 - 1 + 1 = omega (arith, front.1) in (
        back.0,
        omega (arith, front.1, back.1),
        one_of-matches Condition holds (after One (kernel One r) (kernel One s)) zero (most - zero) k back.0 zero
            (omega arith) (omega arith) (
              front.0 - 1,
              omega (arith, front.1),
              back.1,
              subst (λ m. Matches holds (kernel One r) k m) end front.2,
              back.2,
            ),
      )
  match-from (delay r (suc least) most s) o t k late =
      let p = and_parts (can_match r) (can_match s) t in
      let front = match-from r o.1 p.0 k late in
      let begin = front.0 + (suc least - 1) in
      let back = match-from s o.2 p.1 begin (omega (arith, late, front.1)) in (
        back.0,
        omega (arith, front.1, back.1),
        one_of-matches Condition holds (after One (kernel One r) (kernel One s)) (suc least) (most - suc least) k
            back.0 (suc least) (omega arith) (omega arith)
            (after-matches Condition holds One one (kernel One r) (kernel One s) (suc least) k front.0 back.0
            (omega arith)
            front.2 back.2),
      )
  match-from (lead least most s) o t k late =
      let back = match-from s o.1 t (k + least) (omega (arith, late)) in (
        back.0,
        omega (arith, back.1),
        one_of-matches Condition holds (later One (kernel One s)) least (most - least) k back.0 least (omega arith)
            (omega arith) (later-matches Condition holds One one (kernel One s) least k back.0 back.2),
      )
  match-from (repeat r least most) o t k late =
      let p = and_parts (nat_le 1 most) (can_match r) t in
      let some = leb-true 1 most p.0 in
      let f =
      chain_from (Matches holds (kernel One r)) (match-from r o.1 p.1) (max 1 least) k late in
      (f.0, omega (arith, f.1), (max 1 least, omega arith, omega (arith, some, o.0), f.2))
  match-from (or r s) o t k late = elim (or_cases (can_match r) (can_match s) t) [
    | inl h ↦ let f = match-from r o.0 h k late in (f.0, f.1, inl f.2)
    | inr h ↦ let f = match-from s o.1 h k late in (f.0, f.1, inr f.2)
  ]
  match-from (and r s) o t k late =
      let p = and_parts (can_match r) (can_match s) t in
      let front = match-from r o.0 p.0 k late in
      let back = match-from s o.1 p.1 k late in
      (max front.0 back.0, omega (arith, front.1), (front.0, back.0, front.2, back.2, refl))
  match-from (intersect r s) o t k late = cc
  match-from (throughout b r) o t k late =
      let f = match-from r o t k late in
      (f.0, f.1, (f.2, λ m from below. all b m (omega (arith, late, from))))

pub goes_on : (w : Written Condition) → IsOrdered w → can_match w ≡ true → GoesOn (kernel One w)
goes_on w o t leaves n k late none =
    let f =
    match-from (sat (value_of leaves) n) n (sat-one leaves n)
    (λ b m after. or_left (nat_le n m) (value_of leaves b m) (le-leb n m after)) w o t k late in
    none f.0 f.1 f.2
