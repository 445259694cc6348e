-- The table of pairs spells them.
use Rattle.std.proofs.Common.{◌≡◌, ◌∙◌, ℕ, ◌+◌, ◌*◌, ◌/◌, ◌%◌, ◌<◌, ◌≤◌, inl, inr, Bool, true, List, [], ◌∷◌, ◌++◌}
use Rattle.std.proofs.Common.{refl, sym, ap, subst, arith}
use Rattle.std.specs.Prelude.{IsTrue, map, ◌↔◌}
use Rattle.std.specs.List.{flat_map}
use Rattle.std.proofs.Math.Nat.{mul-le-mul_right}
use Rattle.std.proofs.lemmas.Nat.{div-mul-add, mod-mul-add, div-add-mod'}
use Rattle.std.proofs.lemmas.Bool.{cases_lt, cases_eq, and_parts, and_from}
use Rattle.positions.specs.Plans.{Plan, pair}
use Rattle.positions.specs.States.{PlanState, First, Ends, StepsTo}
use Rattle.positions.specs.Tables.{Edge, Table, SomeOf, HasNumber, Fires, Enters, Accepts, NumbersStates}
use Rattle.positions.specs.Tables.{products, coupled}
use Rattle.positions.specs.Tables.{pair_table}
use Rattle.positions.proofs.Lists.{SomeOf-each, map-SomeOf, SomeOf-append, flat-SomeOf, EachOf-append}
use Rattle.positions.proofs.Lists.{append-EachOf}
use Rattle.positions.proofs.Tables.{EnterIn, AcceptIn}
use Rattle.positions.proofs.Pairs.{Has-products, products-Has}

module _ (B : Type 0) (size : ℕ) (holds : B → ℕ → Bool) (i : ℕ) where
  abbrev Enter : ℕ → List (Edge B) → Type 0
  Enter = EnterIn B holds i

  abbrev Accept : List (Edge B) → Type 0
  Accept = AcceptIn B holds i

  abbrev pub couple_rows : List (Edge B) → List (Edge B) → List (Edge B)
  couple_rows es fs = flat_map (λ e. map (coupled size e) fs) es

  -- what an edge with one of these leads to
  coupled-Enter : (q : ℕ) (e : Edge B) (fs : List (Edge B)) → Enter q (map (coupled size e) fs) → (x : ℕ) × (y : ℕ)
      × (x * size + y ≡ q) × Fires holds i e × HasNumber e.enters x × Enter y fs
  coupled-Enter q e [] h = absurd h
  coupled-Enter q e (f ∷ fs) (inl h) =
      let p = EachOf-append (λ b. IsTrue (holds b i)) e.wanted f.wanted h.0 in
      let k = Has-products size e.enters f.enters q h.1 in
      (k.0, k.1, k.2, p.0, k.3, inl (p.1, k.4))
  coupled-Enter q e (f ∷ fs) (inr h) =
      let k = coupled-Enter q e fs h in (k.0, k.1, k.2, k.3, k.4, inr k.5)

  -- what the edges of a pair lead to
  abbrev pub Coupling : ℕ → List (Edge B) → List (Edge B) → Type 0
  Coupling q es fs = (x : ℕ) × (y : ℕ) × (x * size + y ≡ q) × Enter x es × Enter y fs

  pub couple-Enter : (q : ℕ) (es fs : List (Edge B)) → Enter q (couple_rows es fs) → Coupling q es fs
  couple-Enter q [] fs h = absurd h
  couple-Enter q (e ∷ es) fs h =
      elim (SomeOf-append (λ e. Fires holds i e × HasNumber e.enters q) (map (coupled size e) fs)
      (couple_rows es fs) h) [
        | inl a ↦ let k = coupled-Enter q e fs a in (k.0, k.1, k.2, inl (k.3, k.4), k.5)
        | inr a ↦ let k = couple-Enter q es fs a in (k.0, k.1, k.2, inr k.3, k.4)
      ]

  -- an edge beside each of these
  couple-each : (P Q R : Edge B → Type 0) (es fs : List (Edge B)) → ((e f : Edge B) → P e → Q f → R (coupled size e f))
      → SomeOf P es → SomeOf Q fs → SomeOf R (couple_rows es fs)
  couple-each P Q R es fs each hp hq =
      flat-SomeOf R (λ e. map (coupled size e) fs) es
      (SomeOf-each P (λ e. SomeOf R (map (coupled size e) fs)) es
      (λ e p. map-SomeOf R (coupled size e) fs
      (SomeOf-each Q (λ f. R (coupled size e f)) fs (λ f q. each e f p q) hq)) hp)

  pub Enter-couple : (q : ℕ) (es fs : List (Edge B)) → Coupling q es fs → Enter q (couple_rows es fs)
  Enter-couple q es fs h =
      couple-each (λ e. Fires holds i e × HasNumber e.enters h.0) (λ f. Fires holds i f × HasNumber f.enters h.1)
      (λ e. Fires holds i e × HasNumber e.enters q) es fs
      (λ e f a b. (
        append-EachOf (λ b. IsTrue (holds b i)) e.wanted f.wanted a.0 b.0,
        products-Has size e.enters f.enters h.0 h.1 q h.2 a.1 b.1,
      ))
      h.3 h.4

  coupled-Accept : (e : Edge B) (fs : List (Edge B)) → Accept (map (coupled size e) fs)
      → (Fires holds i e × (e.accepts ≡ true)) × Accept fs
  coupled-Accept e [] h = absurd h
  coupled-Accept e (f ∷ fs) (inl h) =
      let p = EachOf-append (λ b. IsTrue (holds b i)) e.wanted f.wanted h.0 in
      let a = and_parts e.accepts f.accepts h.1 in
      ((p.0, a.0), inl (p.1, a.1))
  coupled-Accept e (f ∷ fs) (inr h) = let a = coupled-Accept e fs h in (a.0, inr a.1)

  pub couple-Accept : (es fs : List (Edge B)) → Accept (couple_rows es fs) → Accept es × Accept fs
  couple-Accept [] fs h = absurd h
  couple-Accept (e ∷ es) fs h =
      elim (SomeOf-append (λ e. Fires holds i e × (e.accepts ≡ true)) (map (coupled size e) fs)
      (couple_rows es fs) h) [
        | inl a ↦ let b = coupled-Accept e fs a in (inl b.0, b.1)
        | inr a ↦ let b = couple-Accept es fs a in (inr b.0, b.1)
      ]

  pub Accept-couple : (es fs : List (Edge B)) → Accept es → Accept fs → Accept (couple_rows es fs)
  Accept-couple es fs he hf =
      couple-each (λ e. Fires holds i e × (e.accepts ≡ true)) (λ f. Fires holds i f × (f.accepts ≡ true))
      (λ e. Fires holds i e × (e.accepts ≡ true)) es fs
      (λ e f a b.
      (append-EachOf (λ b. IsTrue (holds b i)) e.wanted f.wanted a.0 b.0, and_from e.accepts f.accepts a.1 b.1))
      he hf

module _ (B : Type 0) (r s : Plan B) (t u : Table B) (sr : NumbersStates r t) (ss : NumbersStates s u) where
  abbrev Two : Type 0
  Two = PlanState r × PlanState s

  pair-number : Two → ℕ
  pair-number x = sr.number x.0 * u.size + ss.number x.1

  pair-below : (x : Two) → pair-number x < t.size * u.size
  unfolding pair-number
  pair-below x =
      let bx = sr.below x.0 in
      let more : (sr.number x.0 + 1) * u.size ≤ t.size * u.size = mul-le-mul_right u.size (omega (arith, bx)) in
      let product : (sr.number x.0 + 1) * u.size ≡ sr.number x.0 * u.size + u.size = omega arith in
      omega (arith, more, product, ss.below x.1)

  pair-row : (x : Two) → (pair_table t u).row (pair-number x)
      ≡ couple_rows B u.size (λ b k. true) 0 (t.row (sr.number x.0)) (u.row (ss.number x.1))
  unfolding pair-number
  pair-row x =
      let n = sr.number x.0 in
      let m = ss.number x.1 in
      ap (λ k. flat_map (λ e. map (coupled u.size e) (u.row k)) (t.row ((n * u.size + m) / u.size)))
      (mod-mul-add n u.size m (ss.below x.1))
      ∙ ap (λ k. flat_map (λ e. map (coupled u.size e) (u.row m)) (t.row k)) (div-mul-add n u.size m (ss.below x.1))

  pair-state : (p : ℕ) → p < t.size * u.size → (x : Two) × (pair-number x ≡ p)
  unfolding pair-number
  pair-state p below =
      let some : 0 < u.size = (elim (cases_eq u.size 0) [
        | inl none ↦ (let zeros : t.size * u.size ≡ t.size * 0 = ap (λ n. t.size * n) none in
            absurd (omega (arith, zeros)))
        | inr other ↦ omega arith
      ]) in
      let split : p / u.size * u.size + p % u.size ≡ p = div-add-mod' p u.size in
      let high : p / u.size < t.size = (elim (cases_lt (p / u.size) t.size) [
        | inl is ↦ is
        | inr over ↦ (let more : t.size * u.size ≤ p / u.size * u.size = mul-le-mul_right u.size over in
            absurd (omega (arith, more, split)))
      ]) in
      let rest : p % u.size < u.size = omega arith in
      let x = sr.state (p / u.size) high in
      let y = ss.state (p % u.size) rest in
      ((x.0, y.0), ap (λ k. k * u.size + ss.number y.0) x.1 ∙ ap (λ k. p / u.size * u.size + k) y.1 ∙ split)

  pair-rises : (holds : B → ℕ → Bool) (x y : Two) (i : ℕ) → StepsTo holds (pair r s) x i y
      → pair-number x < pair-number y
  unfolding pair-number
  pair-rises holds x y i st =
      let up = sr.rises holds x.0 y.0 i st.0 in
      let more : (sr.number x.0 + 1) * u.size ≤ sr.number y.0 * u.size = mul-le-mul_right u.size (omega (arith, up)) in
      let product : (sr.number x.0 + 1) * u.size ≡ sr.number x.0 * u.size + u.size = omega arith in
      omega (arith, ss.below x.1, more, product)

  abbrev NextOf : (B → ℕ → Bool) → Two → ℕ → ℕ → Type 0
  NextOf holds x i q = (y : Two) × (pair-number y ≡ q) × StepsTo holds (pair r s) x i y

  pair-enters : (holds : B → ℕ → Bool) (x : Two) (i q : ℕ) → Enters holds (pair_table t u) (pair-number x) i q
      ↔ NextOf holds x i q
  unfolding pair-number
  pair-enters holds x i q = (
    λ h.
        let k =
        couple-Enter B u.size holds i q (t.row (sr.number x.0)) (u.row (ss.number x.1))
        (subst (EnterIn B holds i q) (pair-row x) h) in
        let y = (sr.enters holds x.0 i k.0).0 k.3 in
        let z = (ss.enters holds x.1 i k.1).0 k.4 in
        ((y.0, z.0), ap (λ n. n * u.size + ss.number z.0) y.1 ∙ ap (λ n. k.0 * u.size + n) z.1 ∙ k.2, (y.2, z.2)),
    λ h. subst (EnterIn B holds i q) (sym (pair-row x))
        (Enter-couple B u.size holds i q (t.row (sr.number x.0)) (u.row (ss.number x.1)) (
          sr.number h.0.0,
          ss.number h.0.1,
          h.1,
          (sr.enters holds x.0 i (sr.number h.0.0)).1 (h.0.0, refl, h.2.0),
          (ss.enters holds x.1 i (ss.number h.0.1)).1 (h.0.1, refl, h.2.1),
        )),
  )

  pair-accepts : (holds : B → ℕ → Bool) (x : Two) (i : ℕ) → Accepts holds (pair_table t u) (pair-number x) i
      ↔ Ends holds (pair r s) x i
  pair-accepts holds x i = (
    λ h.
        let a =
        couple-Accept B u.size holds i (t.row (sr.number x.0)) (u.row (ss.number x.1))
        (subst (AcceptIn B holds i) (pair-row x) h) in
        ((sr.accepts holds x.0 i).0 a.0, (ss.accepts holds x.1 i).0 a.1),
    λ h. subst (AcceptIn B holds i) (sym (pair-row x))
        (Accept-couple B u.size holds i (t.row (sr.number x.0)) (u.row (ss.number x.1))
        ((sr.accepts holds x.0 i).1 h.0) ((ss.accepts holds x.1 i).1 h.1)),
  )

  pair-starts : (q : ℕ) → HasNumber (pair_table t u).starts q ↔ ((x : Two) × (pair-number x ≡ q) × First (pair r s) x)
  unfolding pair-number
  pair-starts q = (
    λ h.
        let k = Has-products u.size t.starts u.starts q h in
        let x = (sr.starts k.0).0 k.3 in
        let y = (ss.starts k.1).0 k.4 in (
          (x.0, y.0),
          ap (λ n. n * u.size + ss.number y.0) x.1 ∙ ap (λ n. k.0 * u.size + n) y.1 ∙ k.2,
          (x.2, y.2),
        ),
    λ h. products-Has u.size t.starts u.starts (sr.number h.0.0) (ss.number h.0.1) q h.1
        ((sr.starts (sr.number h.0.0)).1 (h.0.0, refl, h.2.0)) ((ss.starts (ss.number h.0.1)).1 (h.0.1, refl, h.2.1)),
  )

  pub pair-spells : NumbersStates (pair r s) (pair_table t u)
  pair-spells = record {
    number = pair-number;
    below = pair-below;
    state = pair-state;
    rises = pair-rises;
    starts = pair-starts;
    enters = pair-enters;
    accepts = pair-accepts;
    empty = (
      λ h. let p = and_parts t.empty u.empty h in (sr.empty.0 p.0, ss.empty.0 p.1),
      λ h. and_from t.empty u.empty (sr.empty.1 h.0) (ss.empty.1 h.1),
    );
  }
