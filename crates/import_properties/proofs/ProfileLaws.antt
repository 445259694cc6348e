-- An assertion of the profile comes to what its decisions say.
use Rattle.std.proofs.Common.{◌≡◌, inl, inr, ◌⊎◌, ℕ, ◌+◌, ◌-◌, ◌<◌, Bool, refl, subst, arith}
use Rattle.std.proofs.lemmas.Bool.{cases_lt, cases_eq, cases_Bool, both_ways}
use Rattle.assertions.specs.declared.decision.Decision.TheVariants.{Held, Vacuously, Failed}
use Rattle.assertions.specs.Quantifiers.{some_in}
use Rattle.assertions.specs.Segments.{Seq, sat, always, is_match, Matches, AdmitsEmpty}
use Rattle.assertions.specs.Segments as kernel
use Rattle.assertions.specs.Attempts.{every, IsDecided, IsAntecedentOver, EndsAntecedent, IsKept}
use Rattle.assertions.proofs.Quantifiers.{some_in-found, some_in-true}
use Rattle.assertions.proofs.Segments.{Matches-forward, Matches-mono, is_match-Matches, Matches-is_match}
use Rattle.assertions.proofs.LengthLaws.{Matches-back}
use Rattle.import_properties.specs.declared.condition.Condition.{Condition}
use Rattle.import_properties.specs.declared.condition.Condition.TheVariants.{One}
use Rattle.import_properties.specs.Conditions.{value_of}
use Rattle.import_properties.specs.Properties.{Form, sequence, implied, each_later}
use Rattle.import_properties.specs.Outcomes.{ComesTo, ComesToSame, Outcome, failed, good, IsDecidedSo}
use Rattle.import_properties.proofs.LetterLaws.{Matches-unsat-sat, Matches-sat-unsat, unsat-ends, sat-unsat}
use Rattle.import_properties.proofs.FormLaws.{TakesTicks, takes, sat-one, each_later-found}

-- what admits no empty match takes a tick
pub not_empty-takes : (s : Seq Condition) → (AdmitsEmpty s → ⊥) → TakesTicks s
unfolding TakesTicks
not_empty-takes s h holds i j match = elim (cases_eq i j) [
  | inl e ↦
      let here : Matches always s i j = Matches-mono Condition holds always (λ b k t. refl) s i j match in
      let first : i - i ≡ 0 = omega arith in
      let last : j - i ≡ 0 = omega arith in
      absurd (h (subst (λ m. Matches always s 0 m) last
      (subst (λ m. Matches always s m (j - i)) first (Matches-back Condition s i i j (omega arith) here))))
  | inr ne ↦ omega (arith, ne, Matches-forward Condition holds s i j match)
]

module _ (leaves : ℕ → ℕ → Bool) (n c : ℕ) (r s : Seq Condition) (some_s : TakesTicks s) where
  failed-decided : ComesTo (value_of leaves) n (implied r (sequence s)) failed c
      → IsDecided (value_of leaves) (every r) s n c Failed
  failed-decided x =
      let ends = unsat-ends Condition (value_of leaves) n r c (x.0 + 1) (omega (arith, x.1)) x.2 in (
        x.0,
        (x.1, omega (arith, ends), Matches-unsat-sat Condition (value_of leaves) n r c (x.0 + 1) x.2),
        λ j match. x.3 j (takes s some_s (sat (value_of leaves) n) x.0 j match) match,
      )

  decided-failed : IsDecided (value_of leaves) (every r) s n c Failed
      → ComesTo (value_of leaves) n (implied r (sequence s)) failed c
  decided-failed x = (
    x.0,
    x.1.0,
    Matches-sat-unsat Condition (value_of leaves) n r c (x.0 + 1) (omega (arith, x.1.1)) x.1.2,
    λ j some match. x.2 j match,
  )

  kept : ComesTo (value_of leaves) n (implied r (sequence s)) good c → (e : ℕ)
      → EndsAntecedent (value_of leaves) (every r) n c e → IsKept (value_of leaves) s n e
  kept x e end =
      let f = x e end.0 end.2 in (
        f.0,
        unsat-ends Condition (value_of leaves) n s e f.0 f.1 f.2,
        Matches-unsat-sat Condition (value_of leaves) n s e f.0 f.2,
      )

  over : c < n → ComesTo (value_of leaves) n (implied r (sequence s)) good c
      → IsAntecedentOver (value_of leaves) (every r) n c
  over begun x j after match =
      let at : j ≡ j - 1 + 1 = omega (arith, after) in
      let f = x (j - 1) (omega (arith, begun, after)) (subst (λ m. Matches (sat (value_of leaves) n) r c m) at match) in
      omega (arith, after, f.1, unsat-ends Condition (value_of leaves) n s (j - 1) f.0 f.1 f.2)

  good-decided : c < n → ComesTo (value_of leaves) n (implied r (sequence s)) good c
      → IsDecided (value_of leaves) (every r) s n c Held ⊎ IsDecided (value_of leaves) (every r) s n c Vacuously
  good-decided begun x =
      elim (cases_Bool (some_in c n (λ e. is_match (sat (value_of leaves) n) r c (e + 1)))) [
        | inl on ↦
            let f = some_in-found c n (λ e. is_match (sat (value_of leaves) n) r c (e + 1)) on in
            inl (
              (f.0, (f.1, f.2, is_match-Matches Condition (sat (value_of leaves) n) r c (f.0 + 1) f.3)),
              kept x,
              over begun x,
            )
        | inr off ↦ inr (
          λ e end. both_ways _ off (some_in-true c n (λ e. is_match (sat (value_of leaves) n) r c (e + 1)) e end.0 end.1
              (Matches-is_match Condition (sat (value_of leaves) n) r c (e + 1) end.2)),
          over begun x,
        )
      ]

  held-good : IsDecided (value_of leaves) (every r) s n c Held
      → ComesTo (value_of leaves) n (implied r (sequence s)) good c
  held-good x e from match = elim (cases_lt e n) [
    | inl below ↦
        let f = x.1 e (from, below, match) in (
          f.0,
          takes s some_s (sat (value_of leaves) n) e f.0 f.2,
          Matches-sat-unsat Condition (value_of leaves) n s e f.0 f.1 f.2,
        )
    | inr late ↦ absurd (x.2 (e + 1) (omega (arith, late)) match)
  ]

  vacuous-good : IsDecided (value_of leaves) (every r) s n c Vacuously
      → ComesTo (value_of leaves) n (implied r (sequence s)) good c
  vacuous-good x e from match = elim (cases_lt e n) [
    | inl below ↦ absurd (x.0 e (from, below, match))
    | inr late ↦ absurd (x.1 (e + 1) (omega (arith, late)) match)
  ]

-- r |-> s, where s admits no empty match
pub profile-implied : (r s : Seq Condition) → TakesTicks s → (leaves : ℕ → ℕ → Bool) (n : ℕ) (o : Outcome) (c : ℕ)
    → c < n
    → (ComesTo (value_of leaves) n (implied r (sequence s)) o c → IsDecidedSo (value_of leaves) r s n o c)
    × (IsDecidedSo (value_of leaves) r s n o c → ComesTo (value_of leaves) n (implied r (sequence s)) o c)
profile-implied r s some_s leaves n failed c begun =
    (failed-decided leaves n c r s some_s, decided-failed leaves n c r s some_s)
profile-implied r s some_s leaves n good c begun = (
  good-decided leaves n c r s some_s begun,
  λ x. elim x [ inl a ↦ held-good leaves n c r s some_s a | inr a ↦ vacuous-good leaves n c r s some_s a ],
)

-- 1 |-> p is p, from a tick that was seen
pub implied-always : (p : Form Condition) (leaves : ℕ → ℕ → Bool) (n : ℕ) (o : Outcome) (c : ℕ) → c < n
    → (ComesTo (value_of leaves) n p o c → ComesTo (value_of leaves) n (implied (kernel.one One) p) o c)
    × (ComesTo (value_of leaves) n (implied (kernel.one One) p) o c → ComesTo (value_of leaves) n p o c)
implied-always p leaves n failed c begun = (
  λ x. (c, omega arith, (refl, sat-unsat Condition (value_of leaves) n One c begun (sat-one leaves n c)), x),
  λ x. let here : x.0 ≡ c = omega (arith, x.2.0) in subst (λ m. ComesTo (value_of leaves) n p failed m) here x.3,
)
implied-always p leaves n good c begun = (
  λ x e from match.
      let here : c ≡ e = omega (arith, match.0) in
      subst (λ m. ComesTo (value_of leaves) n p good m) here x,
  λ x. x c (omega arith) (refl, sat-one leaves n c),
)

-- what has failed at a tick shows that the tick was seen
abbrev pub FailsSeen : Form Condition → Type 0
FailsSeen p = (leaves : ℕ → ℕ → Bool) (n c : ℕ) → ComesTo (value_of leaves) n p failed c → c < n

pub implied-seen : (t : Seq Condition) (p : Form Condition) → FailsSeen (implied t p)
implied-seen t p leaves n c x =
    omega (arith, x.1, unsat-ends Condition (value_of leaves) n t c (x.0 + 1) (omega (arith, x.1)) x.2)

pub each_later-seen : (first more : ℕ) (p : Form Condition) → FailsSeen p → FailsSeen (each_later first more p)
each_later-seen first more p seen leaves n c x =
    let f = each_later-found (value_of leaves) n p first more c x in
    omega (arith, seen leaves n (c + f.0) f.3)

-- so 1 |-> p is p
pub one-implied : (p : Form Condition) → FailsSeen p → ComesToSame (implied (kernel.one One) p) p
one-implied p seen leaves n failed c = (
  λ x. let here : x.0 ≡ c = omega (arith, x.2.0) in subst (λ m. ComesTo (value_of leaves) n p failed m) here x.3,
  λ x. (implied-always p leaves n failed c (seen leaves n c x)).0 x,
)
one-implied p seen leaves n good c = (
  λ x. x c (omega arith) (refl, sat-one leaves n c),
  λ x e from match.
      let here : c ≡ e = omega (arith, match.0) in
      subst (λ m. ComesTo (value_of leaves) n p good m) here x,
)
