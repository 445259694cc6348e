-- Where a table stands after so many ticks, and its states.
use Rattle.std.proofs.Common.{◌≡◌, ℕ, zero, suc, ◌+◌, ◌<◌, ◌≤◌, Bool, refl, sym, subst, arith}
use Rattle.std.specs.Prelude.{IsTrue}
use Rattle.positions.specs.Plans.{Plan}
use Rattle.positions.specs.States.{PlanState, At}
use Rattle.positions.specs.Tables.{Edge, Table, SomeOf, HasNumber, Fires, Enters, IsRising, NumbersStates}
use Rattle.positions.proofs.Lists.{SomeOf-each, EachOf-each}

module _ (B : Type 0) (t : Table B) (rising : IsRising t) where
  -- the positions after so many ticks from c
  abbrev pub Stands : (B → ℕ → Bool) → ℕ → ℕ → ℕ → Type 0
  Stands holds c zero q = HasNumber t.starts q
  Stands holds c (suc k) q = (p : ℕ) × Stands holds c k p × Enters holds t p (c + k) q

  Enters-Has : (holds : B → ℕ → Bool) (p i q : ℕ) → Enters holds t p i q
      → SomeOf (λ (e : Edge B). HasNumber e.enters q) (t.row p)
  Enters-Has holds p i q h =
      SomeOf-each (λ e. Fires holds i e × HasNumber e.enters q) (λ e. HasNumber e.enters q) (t.row p) (λ e x. x.1) h

  pub Stands-below : (holds : B → ℕ → Bool) (c k q : ℕ) → Stands holds c k q → q < t.size
  Stands-below holds c zero q h = rising.starts q h
  Stands-below holds c (suc k) q h =
      (rising.enters h.0 q (Stands-below holds c k h.0 h.1) (Enters-Has holds h.0 (c + k) q h.2)).1

  pub Stands-local : (h g : B → ℕ → Bool) (c k q : ℕ)
      → ((b : B) (i : ℕ) → c ≤ i → i < c + k → IsTrue (h b i) → IsTrue (g b i)) → Stands h c k q → Stands g c k q
  Stands-local h g c zero q agrees s = s
  Stands-local h g c (suc k) q agrees s = (
    s.0,
    Stands-local h g c k s.0 (λ b i from below. agrees b i from (omega arith)) s.1,
    SomeOf-each (λ e. Fires h (c + k) e × HasNumber e.enters q) (λ e. Fires g (c + k) e × HasNumber e.enters q)
        (t.row s.0)
        (λ e x. (
          EachOf-each (λ b. IsTrue (h b (c + k))) (λ b. IsTrue (g b (c + k))) e.wanted (λ b. agrees b (c + k)
              (omega arith) (omega arith)) x.0,
          x.1,
        )) s.2,
  )

  module _ (r : Plan B) (spells : NumbersStates r t) where
    pub Stands-At : (holds : B → ℕ → Bool) (c k q : ℕ) → Stands holds c k q → (x : PlanState r) × (spells.number x ≡ q)
        × At holds r c k x
    Stands-At holds c zero q h = (spells.starts q).0 h
    Stands-At holds c (suc k) q h =
        let before = Stands-At holds c k h.0 h.1 in
        let next =
        (spells.enters holds before.0 (c + k) q).0 (subst (λ p. Enters holds t p (c + k) q) (sym before.1) h.2) in
        (next.0, next.1, (before.0, before.2, next.2))

    pub At-Stands : (holds : B → ℕ → Bool) (c k : ℕ) (x : PlanState r) → At holds r c k x
        → Stands holds c k (spells.number x)
    At-Stands holds c zero x h = (spells.starts (spells.number x)).1 (x, refl, h)
    At-Stands holds c (suc k) x h = (
      spells.number h.0,
      At-Stands holds c k h.0 h.1,
      (spells.enters holds h.0 (c + k) (spells.number x)).1 (x, refl, h.2),
    )
