-- The positions that may still come to an end, and where their table stands.
use Rattle.std.proofs.Common.{◌≡◌, ◌∙◌, ◌⊎◌, inl, inr, ℕ, zero, suc, ◌+◌, ◌<◌, ◌≤◌, Bool, true, false, ◌&&◌, ◌||◌}
use Rattle.std.proofs.Common.{if◌then◌else◌, List, [], ◌∷◌, ◌++◌, refl, sym, ap, subst, arith}
use Rattle.std.specs.Prelude.{IsTrue, map, ◌==◌, nat_lt}
use Rattle.std.specs.List.{list_any, flat_map}
use Rattle.std.proofs.lemmas.Bool.{cases_Bool, cases_eq, or_cases, or_left, or_right, and_parts, and_from, both_ways}
use Rattle.std.proofs.lemmas.Bool.{false_from_ne_true, eqb-true, eq-eqb, lt-ltb, ltb-true}
use Rattle.positions.specs.Plans.{Plan}
use Rattle.positions.specs.States.{PlanState, StepsTo, Left}
use Rattle.positions.specs.Tables.{Edge, Table, SomeOf, EachOf, HasNumber, Fires, Enters, Accepts, IsRising}
use Rattle.positions.specs.Tables.{NumbersStates}
use Rattle.positions.specs.Tables.{picked_if}
use Rattle.positions.specs.Living.{edge_leads, lives_for, lives, is_among, led_to, is_position_kept}
use Rattle.positions.specs.Living.{kept_below, place, sift}
use Rattle.positions.specs.Living.{sifted_edge}
use Rattle.positions.specs.Living.{sifted}
use Rattle.positions.proofs.Lists.{SomeOf-each, SomeOf-map, map-SomeOf, SomeOf-append, append-SomeOf}
use Rattle.positions.proofs.Lists.{SomeOf-picked}
use Rattle.positions.proofs.Lists.{picked-SomeOf, flat-SomeOf, SomeOf-Has, Has-SomeOf, EachOf-all}
use Rattle.positions.proofs.Ticks.{Left-goes, goes-Left}
use Rattle.positions.proofs.Standing.{Stands, Stands-below}

pub if-true : {A : Type 0} (b : Bool) (x y : A) → b ≡ true → (if b then x else y) ≡ x
if-true true x y h = refl
if-true false x y h = cc

pub if-false : {A : Type 0} (b : Bool) (x y : A) → b ≡ false → (if b then x else y) ≡ y
if-false true x y h = cc
if-false false x y h = refl

-- the numbers of what is kept
module _ (keeps : ℕ → Bool) where
  pub rank-up : (p n : ℕ) → p ≤ n → kept_below keeps p ≤ kept_below keeps n
  rank-up p zero le = let e : p ≡ 0 = omega arith in omega (arith, ap (kept_below keeps) e)
  rank-up p (suc n) le = elim (cases_eq p (suc n)) [
    | inl e ↦ omega (arith, ap (kept_below keeps) e)
    | inr other ↦ omega (arith, rank-up p n (omega arith))
  ]

  pub rank-next : (p : ℕ) → IsTrue (keeps p) → kept_below keeps (p + 1) ≡ kept_below keeps p + 1
  rank-next p kept = omega
      (arith, if-true {A = ℕ} (keeps p) 1 0 kept, ap (kept_below keeps) (let e : p + 1 ≡ suc p = omega arith in e))

  pub rank-below : (p n : ℕ) → p < n → IsTrue (keeps p) → kept_below keeps p < kept_below keeps n
  rank-below p n lt kept = omega (arith, if-true {A = ℕ} (keeps p) 1 0 kept, rank-up (suc p) n (omega arith))

  -- no more are kept than there are
  pub rank-few : (n : ℕ) → kept_below keeps n ≤ n
  rank-few zero = omega arith
  rank-few (suc n) = elim (cases_Bool (keeps n)) [
    | inl kept ↦ omega (arith, rank-few n, if-true {A = ℕ} (keeps n) 1 0 kept)
    | inr out ↦ omega (arith, rank-few n, if-false {A = ℕ} (keeps n) 1 0 out)
  ]

  pub rank-place : (n q : ℕ) → q < kept_below keeps n → (place keeps n q < n) × IsTrue (keeps (place keeps n q))
      × (kept_below keeps (place keeps n q) ≡ q)
  rank-place zero q below = absurd (omega arith)
  rank-place (suc n) q below = elim (cases_Bool (keeps n && (kept_below keeps n == q))) [
    | inl here ↦
        let e = if-true (keeps n && (kept_below keeps n == q)) n (place keeps n q) here in
        let p = and_parts (keeps n) (kept_below keeps n == q) here in (
          omega (arith, e),
          subst (λ m. IsTrue (keeps m)) (sym e) p.0,
          ap (kept_below keeps) e ∙ eqb-true (kept_below keeps n) q p.1,
        )
    | inr there ↦
        let e = if-false (keeps n && (kept_below keeps n == q)) n (place keeps n q) there in
        let less : q < kept_below keeps n = elim (cases_Bool (keeps n)) [
          | inl kept ↦ elim (cases_eq (kept_below keeps n) q) [
            | inl same ↦
                absurd (both_ways _ there
                (and_from (keeps n) (kept_below keeps n == q) kept (eq-eqb (kept_below keeps n) q same)))
            | inr other ↦ omega (arith, if-true {A = ℕ} (keeps n) 1 0 kept)
          ]
          | inr out ↦ omega (arith, if-false {A = ℕ} (keeps n) 1 0 out)
        ] in
        let rest = rank-place n q less in (
          omega (arith, e, rest.0),
          subst (λ m. IsTrue (keeps m)) (sym e) rest.1,
          ap (kept_below keeps) e ∙ rest.2,
        )
  ]

  pub place-rank : (n p : ℕ) → p < n → IsTrue (keeps p) → place keeps n (kept_below keeps p) ≡ p
  place-rank zero p below kept = absurd (omega arith)
  place-rank (suc n) p below kept = elim (cases_eq p n) [
    | inl same ↦
        if-true (keeps n && (kept_below keeps n == kept_below keeps p)) n (place keeps n (kept_below keeps p))
        (and_from (keeps n) (kept_below keeps n == kept_below keeps p) (subst (λ m. IsTrue (keeps m)) same kept)
        (eq-eqb (kept_below keeps n) (kept_below keeps p) (ap (kept_below keeps) (sym same))))
        ∙ sym same
    | inr other ↦
        if-false (keeps n && (kept_below keeps n == kept_below keeps p)) n (place keeps n (kept_below keeps p))
        (false_from_ne_true _ (λ t.
        let p' = and_parts (keeps n) (kept_below keeps n == kept_below keeps p) t in
        absurd (omega (
          arith,
          eqb-true (kept_below keeps n) (kept_below keeps p) p'.1,
          rank-below p n (omega arith) kept,
        ))))
        ∙ place-rank n p (omega arith) kept
  ]

  sift-Has : (qs : List ℕ) (q : ℕ) → HasNumber (sift keeps qs) q → (x : ℕ) × HasNumber qs x × IsTrue (keeps x)
      × (kept_below keeps x ≡ q)
  sift-Has [] q h = absurd h
  sift-Has (x ∷ xs) q h =
      elim (SomeOf-append (λ z. z ≡ q) (picked_if (keeps x) (kept_below keeps x ∷ [])) (sift keeps xs) h) [
        | inl a ↦
            let k = SomeOf-picked (λ z. z ≡ q) (keeps x) (kept_below keeps x ∷ []) a in
            (x, inl refl, k.0, elim k.1 [ inl e ↦ e | inr e ↦ absurd e ])
        | inr a ↦ let k = sift-Has xs q a in (k.0, inr k.1, k.2, k.3)
      ]

  Has-sift : (qs : List ℕ) (x : ℕ) → HasNumber qs x → IsTrue (keeps x) → HasNumber (sift keeps qs) (kept_below keeps x)
  Has-sift [] x h kept = absurd h
  Has-sift (y ∷ ys) x (inl same) kept =
      append-SomeOf (λ z. z ≡ kept_below keeps x) (picked_if (keeps y) (kept_below keeps y ∷ [])) (sift keeps ys)
      (inl (picked-SomeOf (λ z. z ≡ kept_below keeps x) (keeps y) (kept_below keeps y ∷ [])
      (subst (λ m. IsTrue (keeps m)) (sym same) kept) (inl (ap (kept_below keeps) same))))
  Has-sift (y ∷ ys) x (inr h) kept =
      append-SomeOf (λ z. z ≡ kept_below keeps x) (picked_if (keeps y) (kept_below keeps y ∷ [])) (sift keeps ys)
      (inr (Has-sift ys x h kept))

some-any : {A : Type 0} (p : A → Bool) (xs : List A) → IsTrue (list_any p xs) → SomeOf (λ x. IsTrue (p x)) xs
some-any p [] h = cc
some-any p (x ∷ xs) h = elim (or_cases (p x) (list_any p xs) h) [ inl a ↦ inl a | inr a ↦ inr (some-any p xs a) ]

any-some : {A : Type 0} (p : A → Bool) (xs : List A) → SomeOf (λ x. IsTrue (p x)) xs → IsTrue (list_any p xs)
any-some p [] h = absurd h
any-some p (x ∷ xs) (inl h) = or_left (p x) (list_any p xs) h
any-some p (x ∷ xs) (inr h) = or_right (p x) (list_any p xs) (any-some p xs h)

-- an edge that leads to what passes
leads-on : {B : Type 0} (passes : ℕ → Bool) (e : Edge B) (q : ℕ) → HasNumber e.enters q → IsTrue (passes q)
    → IsTrue (edge_leads passes e)
leads-on passes e q has h =
    or_right e.accepts (list_any passes e.enters)
    (any-some passes e.enters (Has-SomeOf (λ x. IsTrue (passes x)) e.enters q has h))

leads-from : {B : Type 0} (passes : ℕ → Bool) (es : List (Edge B)) → SomeOf (λ e. IsTrue (edge_leads passes e)) es
    → SomeOf (λ (e : Edge B). e.accepts ≡ true) es
    ⊎ ((q : ℕ) × SomeOf (λ (e : Edge B). HasNumber e.enters q) es × IsTrue (passes q))
leads-from passes [] h = absurd h
leads-from passes (e ∷ es) (inl h) = elim (or_cases e.accepts (list_any passes e.enters) h) [
  | inl a ↦ inl (inl a)
  | inr a ↦
      let k = SomeOf-Has (λ x. IsTrue (passes x)) e.enters (some-any passes e.enters a) in
      inr (k.0, inl k.1, k.2)
]
leads-from passes (e ∷ es) (inr h) = elim (leads-from passes es h) [
  | inl a ↦ inl (inr a)
  | inr a ↦ inr (a.0, inr a.1, a.2)
]

module _ (B : Type 0) (t : Table B) (up : IsRising t) where
  abbrev Within : ℕ → ℕ → Bool
  Within n p = lives_for t.size t.row n p

  lives-for-below : (n p : ℕ) → IsTrue (Within n p) → p < t.size
  lives-for-below zero p h = cc
  lives-for-below (suc n) p h =
      ltb-true p t.size (and_parts (nat_lt p t.size) (list_any (edge_leads (Within n)) (t.row p)) h).0

  pub lives-below : (p : ℕ) → IsTrue (lives t p) → p < t.size
  lives-below p h = lives-for-below t.size p h

  -- by its edges
  living : (n p : ℕ) → p < t.size → SomeOf (λ e. IsTrue (edge_leads (Within n) e)) (t.row p) → IsTrue (Within (suc n) p)
  living n p below h =
      and_from (nat_lt p t.size) (list_any (edge_leads (Within n)) (t.row p)) (lt-ltb p t.size below)
      (any-some (edge_leads (Within n)) (t.row p) h)

  -- a position further on needs no more ticks than there are positions after it
  lives-enough : (n m p : ℕ) → IsTrue (Within n p) → t.size ≤ p + m → IsTrue (Within m p)
  lives-enough zero m p h le = cc
  lives-enough (suc n) zero p h le =
      absurd (omega (arith, lives-for-below (suc n) p h))
  lives-enough (suc n) (suc m) p h le =
      let c = and_parts (nat_lt p t.size) (list_any (edge_leads (Within n)) (t.row p)) h in
      let below : p < t.size = ltb-true p t.size c.0 in
      living m p below
      (each (λ q. lives-enough n m q) (t.row p)
      (λ q has. let later = up.enters p q below has in omega (arith, le, later.0))
      (some-any (edge_leads (Within n)) (t.row p) c.1))
    where
      each : ((q : ℕ) → IsTrue (Within n q) → t.size ≤ q + m → IsTrue (Within m q)) → (es : List (Edge B))
          → ((q : ℕ) → SomeOf (λ (e : Edge B). HasNumber e.enters q) es → t.size ≤ q + m)
          → SomeOf (λ e. IsTrue (edge_leads (Within n) e)) es → SomeOf (λ e. IsTrue (edge_leads (Within m) e)) es
      each enough [] late h = absurd h
      each enough (e ∷ es) late (inl h) = elim (or_cases e.accepts (list_any (Within n) e.enters) h) [
        | inl a ↦ inl (or_left e.accepts (list_any (Within m) e.enters) a)
        | inr a ↦
            let k = SomeOf-Has (λ x. IsTrue (Within n x)) e.enters (some-any (Within n) e.enters a) in
            inl (leads-on (Within m) e k.0 k.1 (enough k.0 k.2 (late k.0 (inl k.1))))
      ]
      each enough (e ∷ es) late (inr h) = inr (each enough es (λ q has. late q (inr has)) h)

  -- what leads to a position that lives does so too, and what accepts
  pub lives-enters : (holds : B → ℕ → Bool) (p i q : ℕ) → p < t.size → Enters holds t p i q → IsTrue (lives t q)
      → IsTrue (lives t p)
  lives-enters holds p i q below h on =
      lives-enough (suc t.size) t.size p
      (living t.size p below
      (SomeOf-each (λ e. Fires holds i e × HasNumber e.enters q) (λ e. IsTrue (edge_leads (Within t.size) e)) (t.row p)
      (λ e x. leads-on (Within t.size) e q x.1 on) h))
      (omega arith)

  pub lives-accepts : (holds : B → ℕ → Bool) (p i : ℕ) → p < t.size → Accepts holds t p i → IsTrue (lives t p)
  lives-accepts holds p i below h =
      lives-enough (suc zero) t.size p
      (living zero p below
      (SomeOf-each (λ e. Fires holds i e × (e.accepts ≡ true)) (λ e. IsTrue (edge_leads (Within zero) e)) (t.row p)
      (λ e x. or_left e.accepts (list_any (Within zero) e.enters) x.1) h))
      (omega arith)

  -- a state with a match left lives
  module _ (r : Plan B) (spells : NumbersStates r t) where
    Left-lives-for : (holds : B → ℕ → Bool) (n : ℕ) (x : PlanState r) (i j : ℕ) → t.size ≤ spells.number x + n
        → Left holds r x i j → IsTrue (Within n (spells.number x))
    Left-lives-for holds zero x i j le h = absurd (omega (arith, spells.below x))
    Left-lives-for holds (suc n) x i j le h = elim (Left-goes B holds r x i j h) [
      | inl a ↦
          living n (spells.number x) (spells.below x)
          (SomeOf-each (λ e. Fires holds i e × (e.accepts ≡ true)) (λ e. IsTrue (edge_leads (Within n) e))
          (t.row (spells.number x)) (λ e y. or_left e.accepts (list_any (Within n) e.enters) y.1)
          ((spells.accepts holds x i).1 a.1))
      | inr a ↦
          let later = spells.rises holds x a.0 i a.1 in
          let on = Left-lives-for holds n a.0 (i + 1) j (omega (arith, le, later)) a.2 in
          living n (spells.number x) (spells.below x)
          (SomeOf-each (λ e. Fires holds i e × HasNumber e.enters (spells.number a.0))
          (λ e. IsTrue (edge_leads (Within n) e))
          (t.row (spells.number x)) (λ e y. leads-on (Within n) e (spells.number a.0) y.1 on)
          ((spells.enters holds x i (spells.number a.0)).1 (a.0, refl, a.1)))
    ]

    pub Left-lives : (holds : B → ℕ → Bool) (x : PlanState r) (i j : ℕ) → Left holds r x i j
        → IsTrue (lives t (spells.number x))
    Left-lives holds x i j h = Left-lives-for holds t.size x i j (omega arith) h

    -- a state that lives has a match left, where every boolean is true from then on
    lives-for-Left : (holds : B → ℕ → Bool) (n : ℕ) (x : PlanState r) (i : ℕ)
        → ((b : B) (k : ℕ) → i ≤ k → IsTrue (holds b k)) → IsTrue (Within n (spells.number x))
        → (j : ℕ) × Left holds r x i j
    lives-for-Left holds zero x i free h = cc
    lives-for-Left holds (suc n) x i free h =
        let c =
        and_parts (nat_lt (spells.number x) t.size) (list_any (edge_leads (Within n)) (t.row (spells.number x))) h in
        let fires : (e : Edge B) → Fires holds i e =
        λ e. EachOf-all (λ b. IsTrue (holds b i)) e.wanted (λ b. free b i (omega arith)) in
        elim (leads-from (Within n) (t.row (spells.number x))
        (some-any (edge_leads (Within n)) (t.row (spells.number x)) c.1)) [
          | inl a ↦
              let on : Accepts holds t (spells.number x) i =
              SomeOf-each (λ (e : Edge B). e.accepts ≡ true) (λ e. Fires holds i e × (e.accepts ≡ true))
              (t.row (spells.number x)) (λ e y. (fires e, y)) a in
              (i + 1, goes-Left B holds r x i (i + 1) (inl (refl, (spells.accepts holds x i).0 on)))
          | inr a ↦
              let on : Enters holds t (spells.number x) i a.0 =
              SomeOf-each (λ (e : Edge B). HasNumber e.enters a.0) (λ e. Fires holds i e × HasNumber e.enters a.0)
              (t.row (spells.number x)) (λ e y. (fires e, y)) a.1 in
              let y = (spells.enters holds x i a.0).0 on in
              let rest =
              lives-for-Left holds n y.0 (i + 1) (λ b k from. free b k (omega (arith, from)))
              (subst (λ p. IsTrue (Within n p)) (sym y.1) a.2) in
              (rest.0, goes-Left B holds r x i rest.0 (inr (y.0, y.2, rest.1)))
        ]

    pub lives-Left : (holds : B → ℕ → Bool) (x : PlanState r) (i : ℕ) → ((b : B) (k : ℕ) → i ≤ k → IsTrue (holds b k))
        → IsTrue (lives t (spells.number x)) → (j : ℕ) × Left holds r x i j
    lives-Left holds x i free h = lives-for-Left holds t.size x i free h

  -- something leads to each position that stands
  abbrev Led : ℕ → List ℕ
  Led n = led_to t.starts t.row n

  led-more : (n m q : ℕ) → n ≤ m → HasNumber (Led n) q → HasNumber (Led m) q
  led-more n zero q le h = let e : n ≡ 0 = omega arith in subst (λ k. HasNumber (Led k) q) e h
  led-more n (suc m) q le h = elim (cases_eq n (suc m)) [
    | inl e ↦ subst (λ k. HasNumber (Led k) q) e h
    | inr other ↦
        append-SomeOf (λ x. x ≡ q) (Led m) (picked_if (is_among (Led m) m) (flat_map (λ e. e.enters) (t.row m)))
        (inl (led-more n m q (omega arith) h))
  ]

  Has-among : (qs : List ℕ) (q : ℕ) → HasNumber qs q → IsTrue (is_among qs q)
  Has-among qs q h =
      any-some (λ x. x == q) qs (SomeOf-each (λ x. x ≡ q) (λ x. IsTrue (x == q)) qs (λ x e. eq-eqb x q e) h)

  led-on : (p q : ℕ) → HasNumber (Led p) p → SomeOf (λ (e : Edge B). HasNumber e.enters q) (t.row p)
      → HasNumber (Led (suc p)) q
  led-on p q here on =
      append-SomeOf (λ x. x ≡ q) (Led p) (picked_if (is_among (Led p) p) (flat_map (λ e. e.enters) (t.row p)))
      (inr (picked-SomeOf (λ x. x ≡ q) (is_among (Led p) p) (flat_map (λ e. e.enters) (t.row p))
      (Has-among (Led p) p here)
      (flat-SomeOf (λ x. x ≡ q) (λ (e : Edge B). e.enters) (t.row p) on)))

  Stands-led : (holds : B → ℕ → Bool) (c k q : ℕ) → Stands B t up holds c k q → HasNumber (Led q) q
  Stands-led holds c zero q h = led-more 0 q q (omega arith) h
  Stands-led holds c (suc k) q h =
      let below = Stands-below B t up holds c k h.0 h.1 in
      let on =
      SomeOf-each (λ e. Fires holds (c + k) e × HasNumber e.enters q) (λ (e : Edge B). HasNumber e.enters q) (t.row h.0)
      (λ e x. x.1) h.2 in
      let later = up.enters h.0 q below on in
      led-more (suc h.0) q q (omega (arith, later.0)) (led-on h.0 q (Stands-led holds c k h.0 h.1) on)

  pub Stands-kept : (holds : B → ℕ → Bool) (c k p : ℕ) → Stands B t up holds c k p → IsTrue (lives t p)
      → IsTrue (is_position_kept t p)
  Stands-kept holds c k p h on =
      let below = Stands-below B t up holds c k p h in
      and_from (lives t p) (is_among (Led t.size) p) on
      (Has-among (Led t.size) p (led-more p t.size p (omega (arith, below)) (Stands-led holds c k p h)))

  -- the position of t that has the number q in what is kept
  abbrev pub from : ℕ → ℕ
  from q = place (is_position_kept t) t.size q

  pub from-kept : (q : ℕ) → q < (sifted t).size → (from q < t.size) × IsTrue (is_position_kept t (from q))
      × (kept_below (is_position_kept t) (from q) ≡ q)
  from-kept q below = rank-place (is_position_kept t) t.size q below

  kept-lives : (p : ℕ) → IsTrue (is_position_kept t p) → IsTrue (lives t p)
  kept-lives p h = (and_parts (lives t p) (is_among (led_to t.starts t.row t.size) p) h).0

  pub from-lives : (q : ℕ) → q < (sifted t).size → IsTrue (lives t (from q))
  from-lives q below = kept-lives (from q) (from-kept q below).1

  from-rank : (p : ℕ) → IsTrue (is_position_kept t p) → from (kept_below (is_position_kept t) p) ≡ p
  from-rank p on = place-rank (is_position_kept t) t.size p (lives-below p (kept-lives p on)) on

  -- an edge of what is kept, and the edge that it was
  sifted-some : (P : Edge B → Type 0) (es : List (Edge B)) (q : ℕ)
      → SomeOf (λ e. P e × HasNumber (sift (is_position_kept t) e.enters) q) es → (x : ℕ)
      × SomeOf (λ e. P e × HasNumber e.enters x) es
      × IsTrue (is_position_kept t x) × (kept_below (is_position_kept t) x ≡ q)
  sifted-some P [] q h = absurd h
  sifted-some P (e ∷ es) q (inl h) =
      let k = sift-Has (is_position_kept t) e.enters q h.1 in (k.0, inl (h.0, k.1), k.2, k.3)
  sifted-some P (e ∷ es) q (inr h) = let k = sifted-some P es q h in (k.0, inr k.1, k.2, k.3)

  some-sifted : (P : Edge B → Type 0) (es : List (Edge B)) (x : ℕ) → SomeOf (λ e. P e × HasNumber e.enters x) es
      → IsTrue (is_position_kept t x)
      → SomeOf (λ e. P e × HasNumber (sift (is_position_kept t) e.enters) (kept_below (is_position_kept t) x)) es
  some-sifted P es x h on =
      SomeOf-each (λ e. P e × HasNumber e.enters x)
      (λ e. P e × HasNumber (sift (is_position_kept t) e.enters) (kept_below (is_position_kept t) x)) es
      (λ e a. (a.0, Has-sift (is_position_kept t) e.enters x a.1 on)) h

  pub sifted-rising : IsRising (sifted t)
  sifted-rising = record {
    starts = λ q h.
        let k = sift-Has (is_position_kept t) t.starts q h in
        let less = rank-below (is_position_kept t) k.0 t.size (up.starts k.0 k.1) k.2 in
        omega (arith, k.3, less);
    enters = λ p q below h.
        let f = from-kept p below in
        let here =
        SomeOf-map (λ (e : Edge B). HasNumber e.enters q) (sifted_edge (is_position_kept t)) (t.row (from p)) h in
        let k =
        sifted-some (λ e. Unit {0}) (t.row (from p)) q
        (SomeOf-each (λ e. HasNumber (sift (is_position_kept t) e.enters) q)
        (λ e. Unit {0} × HasNumber (sift (is_position_kept t) e.enters) q)
        (t.row (from p)) (λ e x. (tt, x)) here) in
        let later =
        up.enters (from p) k.0 f.0
        (SomeOf-each (λ (e : Edge B). Unit {0} × HasNumber e.enters k.0) (λ e. HasNumber e.enters k.0) (t.row (from p))
        (λ e x. x.1) k.1) in
        let more = rank-below (is_position_kept t) (from p) k.0 later.0 f.1 in
        let less = rank-below (is_position_kept t) k.0 t.size later.1 k.2 in
        (omega (arith, k.3, more, f.2), omega (arith, k.3, less));
  }

  pub sifted-Accepts : (holds : B → ℕ → Bool) (q i : ℕ) → Accepts holds (sifted t) q i → Accepts holds t (from q) i
  sifted-Accepts holds q i h =
      SomeOf-map (λ (e : Edge B). Fires holds i e × (e.accepts ≡ true)) (sifted_edge (is_position_kept t))
      (t.row (from q)) h

  pub Accepts-sifted : (holds : B → ℕ → Bool) (p i : ℕ) → IsTrue (is_position_kept t p) → Accepts holds t p i
      → Accepts holds (sifted t) (kept_below (is_position_kept t) p) i
  Accepts-sifted holds p i on h =
      map-SomeOf (λ (e : Edge B). Fires holds i e × (e.accepts ≡ true)) (sifted_edge (is_position_kept t))
      (t.row (from (kept_below (is_position_kept t) p)))
      (subst (λ k. Accepts holds t k i) (sym (from-rank p on)) h)

  sifted-Enters : (holds : B → ℕ → Bool) (p i q : ℕ) → Enters holds (sifted t) p i q → (x : ℕ)
      × Enters holds t (from p) i x × IsTrue (is_position_kept t x) × (kept_below (is_position_kept t) x ≡ q)
  sifted-Enters holds p i q h =
      sifted-some (Fires holds i) (t.row (from p)) q
      (SomeOf-map (λ (e : Edge B). Fires holds i e × HasNumber e.enters q) (sifted_edge (is_position_kept t))
      (t.row (from p)) h)

  Enters-sifted : (holds : B → ℕ → Bool) (p i x : ℕ) → IsTrue (is_position_kept t p) → Enters holds t p i x → IsTrue
      (is_position_kept t x)
      → Enters holds (sifted t) (kept_below (is_position_kept t) p) i (kept_below (is_position_kept t) x)
  Enters-sifted holds p i x on h also =
      map-SomeOf (λ (e : Edge B). Fires holds i e × HasNumber e.enters (kept_below (is_position_kept t) x))
      (sifted_edge (is_position_kept t))
      (t.row (from (kept_below (is_position_kept t) p)))
      (some-sifted (Fires holds i) (t.row (from (kept_below (is_position_kept t) p))) x
      (subst (λ k. Enters holds t k i x) (sym (from-rank p on)) h) also)

  -- it stands where t does, so far as that lives
  pub sifted-Stands : (holds : B → ℕ → Bool) (c k q : ℕ) → Stands B (sifted t) sifted-rising holds c k q
      → Stands B t up holds c k (from q)
  sifted-Stands holds c zero q h =
      let x = sift-Has (is_position_kept t) t.starts q h in
      let e : x.0 ≡ from q = sym (from-rank x.0 x.2) ∙ ap from x.3 in
      subst (λ p. HasNumber t.starts p) e x.1
  sifted-Stands holds c (suc k) q h =
      let x = sifted-Enters holds h.0 (c + k) q h.2 in
      let e : x.0 ≡ from q = sym (from-rank x.0 x.2) ∙ ap from x.3 in
      (from h.0, sifted-Stands holds c k h.0 h.1, subst (λ p. Enters holds t (from h.0) (c + k) p) e x.1)

  pub Stands-sifted : (holds : B → ℕ → Bool) (c k p : ℕ) → Stands B t up holds c k p → IsTrue (lives t p)
      → Stands B (sifted t) sifted-rising holds c k (kept_below (is_position_kept t) p)
  Stands-sifted holds c zero p h on = Has-sift (is_position_kept t) t.starts p h (Stands-kept holds c zero p h on)
  Stands-sifted holds c (suc k) p h on =
      let below = Stands-below B t up holds c k h.0 h.1 in
      let before = lives-enters holds h.0 (c + k) p below h.2 on in (
        kept_below (is_position_kept t) h.0,
        Stands-sifted holds c k h.0 h.1 before,
        Enters-sifted holds h.0 (c + k) p (Stands-kept holds c k h.0 h.1 before) h.2
            (Stands-kept holds c (suc k) p h on),
      )
