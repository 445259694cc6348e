-- Lists that are made element by element.
use Rattle.std.proofs.Common.{
  ◌≡◌,
  inl,
  inr,
  ℕ,
  ◌+◌,
  ◌<◌,
  List,
  [],
  ◌∷◌,
  ◌++◌,
  length,
  sym,
  ap,
  ◌∙◌,
  subst,
  arith,
}
use Rattle.std.specs.Prelude.{slice_index_or}
use Rattle.std.proofs.lemmas.Bool.{cases_lt}
use Rattle.std.proofs.Math.ListN.{get_or-append}
use Rattle.std.proofs.Math.Seq.{get_or-append_seam}

-- what holds of each element so far, and of one more
pub each_pushed : {X : Type 0} (P : ℕ → X → Type 0) (old new : List X) (x d : X) (n : ℕ)
    → new ≡ old ++ x ∷ [] → length old ≡ n → ((k : ℕ) → k < n → P k (slice_index_or old k d))
    → P n x → (k : ℕ) → k < n + 1 → P k (slice_index_or new k d)
each_pushed P old new x d n is len h last k below =
    elim (cases_lt k n) [
      | inl lt ↦
          let inside : k < length old = omega (arith, len) in
          let e : slice_index_or new k d ≡ slice_index_or old k d =
          ap (λ l. slice_index_or l k d) is ∙ get_or-append old (x ∷ []) d k inside in
          subst (P k) (sym e) (h k lt)
      | inr ge ↦
          let same : n ≡ k = omega arith in
          let e : slice_index_or new (length old) d ≡ x =
          ap (λ l. slice_index_or l (length old) d) is ∙ get_or-append_seam old x [] d in
          let there : slice_index_or new k d ≡ x =
          subst (λ j. slice_index_or new j d ≡ x) (len ∙ same) e in
          subst (P k) (sym there) (subst (λ j. P j x) same last)
    ]
