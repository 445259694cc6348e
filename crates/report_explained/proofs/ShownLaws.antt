-- Clocks that are shown, one by one.
use Rattle.std.proofs.Common.{◌≡◌, inl, inr, ◌+◌, ◌-◌, ◌≤◌, ℕ, suc, Bool, false, List, [], ◌∷◌, ◌++◌, arith}
use Rattle.std.proofs.Common.{sym, subst}
use Rattle.report_explained.specs.Shown.{AreShown, AreShownIn, is_at_end}

-- none yet
pub shown_none : (must : ℕ → Bool) (first : ℕ) (clocks : List ℕ) → clocks ≡ []
    → AreShown must first (first - first) clocks
unfolding AreShown
shown_none must first clocks is =
    let none : first - first ≡ 0 = omega arith in
    let empty : AreShown must first 0 clocks = is in
    subst (λ n. AreShown must first n clocks) (sym none) empty

-- one more clock is shown
pub shown_more : (must : ℕ → Bool) (first clock : ℕ) (old new : List ℕ) → first ≤ clock
    → new ≡ old ++ clock ∷ [] → AreShown must first (clock - first) old → AreShown must first (clock + 1 - first) new
unfolding AreShown
shown_more must first clock old new above pushed are =
    let count : clock + 1 - first ≡ suc (clock - first) = omega (arith, above) in
    let here : clock ≡ first + (clock - first) = omega (arith, above) in
    let last : AreShown must first (suc (clock - first)) new =
    inl (record { front = old; is = subst (λ c. new ≡ old ++ c ∷ []) here pushed; before = are }) in
    subst (λ n. AreShown must first n new) (sym count) last

-- one more clock is left out
pub left_out_more : (must : ℕ → Bool) (first clock : ℕ) (clocks : List ℕ) → first ≤ clock → must clock ≡ false
    → AreShown must first (clock - first) clocks → AreShown must first (clock + 1 - first) clocks
unfolding AreShown
left_out_more must first clock clocks above free are =
    let count : clock + 1 - first ≡ suc (clock - first) = omega (arith, above) in
    let here : clock ≡ first + (clock - first) = omega (arith, above) in
    let last : AreShown must first (suc (clock - first)) clocks =
    inr (subst (λ c. must c ≡ false) here free, are) in
    subst (λ n. AreShown must first n clocks) (sym count) last

-- all up to the end, or none where the end comes first
pub shown_all : (first from end clock : ℕ) (clocks : List ℕ) → first ≡ from → clock - first ≡ end - first
    → AreShown (is_at_end first end) first (clock - first) clocks → AreShownIn from end clocks
shown_all first from end clock clocks same done are =
    subst (λ n. AreShownIn n end clocks) same
    (subst (λ n. AreShown (is_at_end first end) first n clocks) done are)
