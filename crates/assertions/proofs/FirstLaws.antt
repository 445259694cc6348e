-- First matches, and antecedents that have none of a tick or more.
use Rattle.std.proofs.Common.{◌≡◌, inl, inr, ℕ, zero, suc, ◌<◌, ◌≤◌, Bool, true, false, arith}
use Rattle.std.proofs.lemmas.Bool.{cases_Bool, both_ways}
use Rattle.assertions.specs.Quantifiers.{some_in}
use Rattle.assertions.specs.Segments.{Seq, Matches, MatchesFirst, is_match, always, IsDegenerate, AdmitsEmpty}
use Rattle.assertions.specs.Attempts.{IsDegenerateBy}
use Rattle.assertions.proofs.Quantifiers.{some_in-found, some_in-true}
use Rattle.assertions.proofs.Segments.{Matches-forward, is_match-Matches, Matches-is_match}

module _ (B : Type 0) where
  first-within : (holds : B → ℕ → Bool) (r : Seq B) (i n j : ℕ) → j < n → Matches holds r i j
      → (k : ℕ) × (k ≤ j) × MatchesFirst holds r i k
  first-within holds r i zero j below m = absurd (omega arith)
  first-within holds r i (suc n) j below m =
      elim (cases_Bool (some_in i j (λ k. is_match holds r i k))) [
        | inl on ↦
            let f = some_in-found i j (λ k. is_match holds r i k) on in
            let x = first-within holds r i n f.0 (omega (arith, f.2)) (is_match-Matches B holds r i f.0 f.3) in
            (x.0, omega (arith, x.1, f.2), x.2)
        | inr off ↦ (
          j,
          omega arith,
          (
            m,
            λ k less other.
                both_ways _ off
                (some_in-true i j (λ k. is_match holds r i k) k (Matches-forward B holds r i k other) less
                (Matches-is_match B holds r i k other)),
          ),
        )
      ]

  -- Where there is a match, one is the first.
  pub some-first : (holds : B → ℕ → Bool) (r : Seq B) (i j : ℕ) → Matches holds r i j
      → (k : ℕ) × (k ≤ j) × MatchesFirst holds r i k
  some-first holds r i j m = first-within holds r i (suc j) j (omega arith) m

  -- The first match is empty where any is.
  pub empty-degenerate : (r : Seq B) → AdmitsEmpty r → IsDegenerateBy true r
  empty-degenerate r empty j above m = m.1 0 above empty

  pub none-degenerate_by : (r : Seq B) → IsDegenerate r → IsDegenerateBy true r
  none-degenerate_by r none j above m = none j above m.0

  -- Where none is empty, the first match takes a tick or more if any does.
  pub degenerate_by-none : (r : Seq B) → IsDegenerateBy true r → (AdmitsEmpty r → ⊥) → IsDegenerate r
  degenerate_by-none r none full j above m =
      let x = some-first always r 0 j m in
      by-first x.0 x.2
    where
      by-first : (k : ℕ) → MatchesFirst always r 0 k → ⊥
      by-first zero first = full first.0
      by-first (suc k) first = none (suc k) (omega arith) first
