-- What the parts of a clock do to selections.
use Rattle.std.proofs.Common.{◌≡◌, ◌∙◌, inl, inr, ℕ, zero, suc, ◌+◌, ◌<◌, ◌≤◌, Bool, true, not, ◌&&◌, ◌||◌, List, ◌∷◌}
use Rattle.std.proofs.Common.{refl, ap, subst, arith}
use Rattle.std.proofs.lemmas.Bool.{cases_Bool}
use Rattle.signals.specs.declared.verdict.Verdict.{Verdict}
use Rattle.signals.specs.declared.verdict.Verdict.TheVariants.{Holds, Vacuous, Fails, Disabled, Open}
use Rattle.machine_checked.specs.Clocks.{Attempt, Obligation, visited, Fate, is_broken, is_ended, staying, awaits}
use Rattle.machine_checked.specs.Clocks.{some_broken, some_open, Settlement, stays, ends, settle}
use Rattle.assertions.specs.Quantifiers.{some_of}
use Rattle.machine_sections.specs.Automata.{Automaton}
use Rattle.machine_sections.specs.Monitors.{all_visited, some_accepts, fate_in, fates_in, all_settled, all_disabled}
use Rattle.machine_sections.specs.Standing.{select_ticks, is_open}

module _ (a : Automaton) (n : ℕ) where
  pub visit_each-select : (p : ℕ → Bool) (f : ℕ → Attempt) (i k : ℕ) → all_visited a n (select_ticks p f i k)
      ≡ select_ticks p (λ c. visited n (f c) (a.step n (f c).positions)) i k
  visit_each-select p f i zero = refl
  visit_each-select p f i (suc k) =
      let rest = visit_each-select p f (i + 1) k in
      elim (cases_Bool (p i)) [
        | inl on ↦ rw on (ap (λ xs. visited n (f i) (a.step n (f i).positions) ∷ xs) rest)
        | inr off ↦ rw off rest
      ]

  pub some_accepts-select : (p : ℕ → Bool) (f : ℕ → Attempt) (i k : ℕ) → some_accepts a n (select_ticks p f i k)
      ≡ some_of i k (λ c. p c && (a.step n (f c).positions).accepted)
  some_accepts-select p f i zero = refl
  some_accepts-select p f i (suc k) =
      let rest = some_accepts-select p f (i + 1) k in
      elim (cases_Bool (p i)) [
        | inl on ↦ rw on (ap (λ b. (a.step n (f i).positions).accepted || b) rest)
        | inr off ↦ rw off rest
      ]

  pub fates_of-select : (p : ℕ → Bool) (f : ℕ → Obligation) (i k : ℕ) → fates_in a n (select_ticks p f i k)
      ≡ select_ticks p (λ e. fate_in a n (f e)) i k
  fates_of-select p f i zero = refl
  fates_of-select p f i (suc k) =
      let rest = fates_of-select p f (i + 1) k in
      elim (cases_Bool (p i)) [
        | inl on ↦ rw on (ap (λ xs. fate_in a n (f i) ∷ xs) rest)
        | inr off ↦ rw off rest
      ]

abbrev pub stayed : Fate → Obligation
stayed f = record { tick = f.tick; positions = f.positions }

pub staying-select : (p : ℕ → Bool) (f : ℕ → Fate) (i k : ℕ) → staying (select_ticks p f i k)
    ≡ select_ticks (λ e. p e && not (is_ended (f e))) (λ e. stayed (f e)) i k
staying-select p f i zero = refl
staying-select p f i (suc k) =
    let rest = staying-select p f (i + 1) k in
    elim (cases_Bool (p i)) [
      | inr off ↦ rw off rest
      | inl on ↦ elim (cases_Bool (is_ended (f i))) [
        | inl over ↦ rw (on, over) rest
        | inr live ↦ rw (on, live) (ap (λ xs. stayed (f i) ∷ xs) rest)
      ]
    ]

pub some_broken-select : (x : Attempt) (p : ℕ → Bool) (f : ℕ → Fate) (i k : ℕ) → some_broken x (select_ticks p f i k)
    ≡ some_of i k (λ e. p e && (is_broken (f e) && awaits x (f e).tick))
some_broken-select x p f i zero = refl
some_broken-select x p f i (suc k) =
    let rest = some_broken-select x p f (i + 1) k in
    elim (cases_Bool (p i)) [
      | inl on ↦ rw on (ap (λ b. (is_broken (f i) && awaits x (f i).tick) || b) rest)
      | inr off ↦ rw off rest
    ]

pub some_open-select : (x : Attempt) (p : ℕ → Bool) (f : ℕ → Fate) (i k : ℕ) → some_open x (select_ticks p f i k)
    ≡ some_of i k (λ e. p e && (not (is_ended (f e)) && awaits x (f e).tick))
some_open-select x p f i zero = refl
some_open-select x p f i (suc k) =
    let rest = some_open-select x p f (i + 1) k in
    elim (cases_Bool (p i)) [
      | inl on ↦ rw on (ap (λ b. (not (is_ended (f i)) && awaits x (f i).tick) || b) rest)
      | inr off ↦ rw off rest
    ]

pub disable_each-select : (n : ℕ) (p : ℕ → Bool) (f : ℕ → Attempt) (i k : ℕ) → all_disabled n (select_ticks p f i k)
    ≡ select_ticks p (λ c. record { start = (f c).start; verdict = Disabled n }) i k
disable_each-select n p f i zero = refl
disable_each-select n p f i (suc k) =
    let rest = disable_each-select n p f (i + 1) k in
    elim (cases_Bool (p i)) [
      | inl on ↦ rw on (ap (λ xs. record { start = (f i).start; verdict = Disabled n } ∷ xs) rest)
      | inr off ↦ rw off rest
    ]

-- an attempt with this verdict joins a settlement
abbrev pub settled : Verdict → Attempt → Settlement → Settlement
settled Open x r = stays x r
settled (Holds t) x r = ends x (Holds t) r
settled (Vacuous t) x r = ends x (Vacuous t) r
settled (Fails t) x r = ends x (Fails t) r
settled (Disabled t) x r = ends x (Disabled t) r

abbrev pub settlement : (ℕ → Bool) → (ℕ → Attempt) → (ℕ → Verdict) → ℕ → ℕ → Settlement
settlement p f v i k = record {
  live = select_ticks (λ c. p c && is_open (v c)) f i k;
  decided = select_ticks (λ c. p c && not (is_open (v c))) (λ c. record { start = (f c).start; verdict = v c }) i k;
}

settled-on : (p : ℕ → Bool) (f : ℕ → Attempt) (v : ℕ → Verdict) (i k : ℕ) (w : Verdict) → v i ≡ w → p i ≡ true
    → settled w (f i) (settlement p f v (i + 1) k) ≡ settlement p f v i (suc k)
settled-on p f v i k Open e on = rw (on, e) refl
settled-on p f v i k (Holds t) e on = rw (on, e) refl
settled-on p f v i k (Vacuous t) e on = rw (on, e) refl
settled-on p f v i k (Fails t) e on = rw (on, e) refl
settled-on p f v i k (Disabled t) e on = rw (on, e) refl

pub settle_each-select : (n : ℕ) (fates : List Fate) (p : ℕ → Bool) (f : ℕ → Attempt) (v : ℕ → Verdict) (i k : ℕ)
    → ((c : ℕ) → i ≤ c → c < i + k → p c ≡ true → (rest : Settlement) → settle n fates (f c) rest
    ≡ settled (v c) (f c) rest) → all_settled n fates (select_ticks p f i k) ≡ settlement p f v i k
settle_each-select n fates p f v i zero each = refl
settle_each-select n fates p f v i (suc k) each =
    let rest = settle_each-select n fates p f v (i + 1) k (λ c from below. each c (omega arith) (omega arith)) in
    elim (cases_Bool (p i)) [
      | inl on ↦
          let here = each i (omega arith) (omega arith) on (settlement p f v (i + 1) k) in
          subst (λ xs. all_settled n fates xs ≡ settlement p f v i (suc k)) (list-on i k on)
          (ap (λ r. settle n fates (f i) r) rest ∙ here ∙ settled-on p f v i k (v i) refl on)
      | inr off ↦ rw off rest
    ]
  where
    list-on : (i k : ℕ) → p i ≡ true → f i ∷ select_ticks p f (i + 1) k ≡ select_ticks p f i (suc k)
    list-on i k on = rw on refl
