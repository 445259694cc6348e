-- Selections of ticks.
use Rattle.std.proofs.Common.{◌≡◌, ◌∙◌, inl, inr, ℕ, zero, suc, ◌+◌, ◌-◌, ◌<◌, ◌≤◌, Bool, true, false, ◌||◌, List, []}
use Rattle.std.proofs.Common.{◌∷◌, ◌++◌, refl, sym, ap, arith}
use Rattle.std.proofs.lemmas.Bool.{cases_Bool}
use Rattle.std.specs.Prelude.{map}
use Rattle.assertions.specs.Quantifiers.{some_of, some_in}
use Rattle.machine_sections.specs.Standing.{select_ticks}
use Rattle.std.specs.List.{range_with_len}

-- what one tick adds
abbrev pub last_of : {A : Type 0} → Bool → A → List A
last_of true x = x ∷ []
last_of false x = []

pub select-push : {A : Type 0} (p : ℕ → Bool) (f : ℕ → A) (i k : ℕ) → select_ticks p f i (suc k)
    ≡ select_ticks p f i k ++ last_of (p (i + k)) (f (i + k))
select-push p f i zero =
    let e : i + 0 ≡ i = omega arith in
    elim (cases_Bool (p i)) [
      | inl on ↦ rw (e, on) refl
      | inr off ↦ rw (e, off) refl
    ]
select-push p f i (suc k) =
    let e : i + 1 + k ≡ i + suc k = omega arith in
    let later = select-push p f (i + 1) k in
    let same = ap (λ n. select_ticks p f (i + 1) k ++ last_of (p n) (f n)) e in
    elim (cases_Bool (p i)) [
      | inl on ↦ rw on (ap (λ xs. f i ∷ xs) (later ∙ same))
      | inr off ↦ rw off (later ∙ same)
    ]

pub select-same : {A : Type 0} (p q : ℕ → Bool) (f g : ℕ → A) (i k : ℕ) → ((j : ℕ) → i ≤ j → j < i + k → p j ≡ q j)
    → ((j : ℕ) → i ≤ j → j < i + k → p j ≡ true → f j ≡ g j) → select_ticks p f i k ≡ select_ticks q g i k
select-same p q f g i zero passes things = refl
select-same p q f g i (suc k) passes things =
    let rest =
    select-same p q f g (i + 1) k (λ j from below. passes j (omega arith) (omega arith))
    (λ j from below. things j (omega arith) (omega arith)) in
    let here = passes i (omega arith) (omega arith) in
    elim (cases_Bool (p i)) [
      | inl on ↦ rw (sym here ∙ on, on)
          (ap (λ x. x ∷ select_ticks p f (i + 1) k) (things i (omega arith) (omega arith) on)
          ∙ ap (λ xs. g i ∷ xs) rest)
      | inr off ↦ rw (sym here ∙ off, off) rest
    ]

pub select-none : {A : Type 0} (p : ℕ → Bool) (f : ℕ → A) (i k : ℕ) → ((j : ℕ) → i ≤ j → j < i + k → p j ≡ false)
    → select_ticks p f i k ≡ []
select-none p f i zero none = refl
select-none p f i (suc k) none =
    rw (none i (omega arith) (omega arith))
    (select-none p f (i + 1) k (λ j from below. none j (omega arith) (omega arith)))

pub some_of-same : (p q : ℕ → Bool) (i k : ℕ) → ((j : ℕ) → i ≤ j → j < i + k → p j ≡ q j)
    → some_of i k p ≡ some_of i k q
some_of-same p q i zero same = refl
some_of-same p q i (suc k) same =
    ap (λ b. b || some_of (i + 1) k p) (same i (omega arith) (omega arith))
    ∙ ap (λ b. q i || b) (some_of-same p q (i + 1) k (λ j from below. same j (omega arith) (omega arith)))

pub some_in-of : (k : ℕ) (p : ℕ → Bool) → some_in 0 k p ≡ some_of 0 k p
unfolding some_in
some_in-of k p = let e : k - 0 ≡ k = omega arith in ap (λ j. some_of 0 j p) e

-- ticks that don't pass add nothing
pub select-longer : {A : Type 0} (p : ℕ → Bool) (f : ℕ → A) (i k more : ℕ) → ((j : ℕ) → i + k ≤ j → p j ≡ false)
    → select_ticks p f i (k + more) ≡ select_ticks p f i k
select-longer p f i zero more none =
    let e : zero + more ≡ more = omega arith in
    ap (select_ticks p f i) e ∙ empty i more (λ j from. none j (omega arith))
  where
    empty : (i more : ℕ) → ((j : ℕ) → i ≤ j → p j ≡ false) → select_ticks p f i more ≡ []
    empty i zero none = refl
    empty i (suc more) none = rw (none i (omega arith)) (empty (i + 1) more (λ j from. none j (omega arith)))
select-longer p f i (suc k) more none =
    let e : suc k + more ≡ suc (k + more) = omega arith in
    let rest = select-longer p f (i + 1) k more (λ j from. none j (omega arith)) in
    ap (select_ticks p f i) e
    ∙ (elim (cases_Bool (p i)) [
      | inl on ↦ rw on (ap (λ xs. f i ∷ xs) rest)
      | inr off ↦ rw off rest
    ])

pub map-select : {A B : Type 0} (g : A → B) (p : ℕ → Bool) (f : ℕ → A) (i k : ℕ) → map g (select_ticks p f i k)
    ≡ select_ticks p (λ c. g (f c)) i k
map-select g p f i zero = refl
map-select g p f i (suc k) =
    let rest = map-select g p f (i + 1) k in
    elim (cases_Bool (p i)) [
      | inl on ↦ rw on (ap (λ xs. g (f i) ∷ xs) rest)
      | inr off ↦ rw off rest
    ]

pub map-same : {A : Type 0} (f g : ℕ → A) (i k : ℕ) → ((j : ℕ) → i ≤ j → j < i + k → f j ≡ g j)
    → map f (range_with_len i k) ≡ map g (range_with_len i k)
map-same f g i zero same = refl
map-same f g i (suc k) same =
    ap (λ x. x ∷ map f (range_with_len (i + 1) k)) (same i (omega arith) (omega arith))
    ∙ ap (λ xs. g i ∷ xs) (map-same f g (i + 1) k (λ j from below. same j (omega arith) (omega arith)))
