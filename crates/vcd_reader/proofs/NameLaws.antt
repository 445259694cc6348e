-- Names without the range at their end.
use Rattle.std.proofs.Common.{◌≡◌, ◌≢◌, ℕ, zero, suc, ◌<◌, Bool, true, false, not, cond, ◌&&◌, ◌||◌, eqb, List, [], ◌∷◌}
use Rattle.std.proofs.Common.{length, get_or, take, drop, refl, sym, ap, ◌∙◌, arith, inl, inr}
use Rattle.std.specs.List.{list_any}
use Rattle.std.proofs.lemmas.Bool.{eq-eqb}
use Rattle.std.proofs.lemmas.Bool.Decides.{eqb_tells}
use Rattle.vcd_reader.specs.Header.{ends_in_bracket, is_range, name_of}

and_false : (b : Bool) → (b && false) ≡ false
and_false true = refl
and_false false = refl

any-at : (bs : List ℕ) (j : ℕ) → j < length bs → get_or bs j 0 ≡ 91 → list_any (λ c. eqb c 91) bs ≡ true
any-at [] j lt e = absurd (omega arith)
any-at (b ∷ bs) zero lt e = let h : eqb b 91 ≡ true = eq-eqb b 91 e in rw h refl
any-at (b ∷ bs) (suc j) lt e =
    let h = any-at bs j (omega arith) e in elim (eqb b 91) as (λ v. (v || list_any (λ c. eqb c 91) bs) ≡ true)
    [ true ↦ refl | false ↦ h ]

not-range : (b : ℕ) (bs : List ℕ) → (b ≢ 91) → is_range (b ∷ bs) ≡ false
not-range b bs ne = elim (eqb_tells b 91) [ inl p ↦ absurd (ne p.1) | inr p ↦ rw p.0 refl ]

-- without a bracket the text stays
name-plain : (text : List ℕ) → ((k : ℕ) → k < length text → get_or text k 0 ≢ 91) → name_of text ≡ text
unfolding name_of
name-plain [] none = refl
name-plain (b ∷ bs) none =
    let first : is_range (b ∷ bs) ≡ false = not-range b bs (none 0 (omega arith)) in
    rw first (ap (λ (xs : List ℕ). b ∷ xs) (name-plain bs (λ k lt. none (suc k) (omega arith))))

inner-false : (x y : Bool) → (x && not true && y) ≡ false
inner-false true y = refl
inner-false false y = refl

later-open : (b : ℕ) (bs : List ℕ) (j : ℕ) → j < length bs → get_or bs j 0 ≡ 91 → is_range (b ∷ bs) ≡ false
later-open b bs j lt e =
    let h : list_any (λ c. eqb c 91) bs ≡ true = any-at bs j lt e in
    rw h (elim (eqb b 91) as (λ v. (v && not true && list_any (λ c. eqb c 58) bs && ends_in_bracket bs) ≡ false)
    [ true ↦ refl | false ↦ refl ])

cons-cond : (c : Bool) (b : ℕ) (xs ys : List ℕ) → (b ∷ cond c xs ys) ≡ cond c (b ∷ xs) (b ∷ ys)
cons-cond true b xs ys = refl
cons-cond false b xs ys = refl

name-at : (text : List ℕ) (i : ℕ) → i < length text → get_or text i 0 ≡ 91
    → ((k : ℕ) → i < k → k < length text → get_or text k 0 ≢ 91)
    → name_of text ≡ cond (is_range (drop i text)) (take i text) text
unfolding name_of
name-at [] i lt e later = absurd (omega arith)
name-at (b ∷ bs) zero lt e later =
    let h = name-plain bs (λ k less. later (suc k) (omega arith) (omega arith)) in
    elim (is_range (b ∷ bs)) as (λ v. cond v [] (b ∷ name_of bs) ≡ cond v [] (b ∷ bs))
    [ true ↦ refl | false ↦ ap (λ (xs : List ℕ). b ∷ xs) h ]
name-at (b ∷ bs) (suc j) lt e later =
    let first : is_range (b ∷ bs) ≡ false = later-open b bs j (omega arith) e in
    rw first
    (ap (λ (xs : List ℕ). b ∷ xs)
    (name-at bs j (omega arith) e (λ k more less. later (suc k) (omega arith) (omega arith)))
    ∙ cons-cond (is_range (drop j bs)) b (take j bs) bs)

pub name-none : (text : List ℕ) → ((k : ℕ) → k < length text → get_or text k 0 ≢ 91) → text ≡ name_of text
name-none text none = sym (name-plain text none)

pub name-cut : (text : List ℕ) (i : ℕ) → i < length text → get_or text i 0 ≡ 91
    → ((k : ℕ) → i < k → k < length text → get_or text k 0 ≢ 91) → is_range (drop i text) ≡ true
    → take i text ≡ name_of text
name-cut text i lt e later r = sym (name-at text i lt e later ∙ rw r refl)

pub name-kept : (text : List ℕ) (i : ℕ) → i < length text → get_or text i 0 ≡ 91
    → ((k : ℕ) → i < k → k < length text → get_or text k 0 ≢ 91) → is_range (drop i text) ≡ false
    → text ≡ name_of text
name-kept text i lt e later r = sym (name-at text i lt e later ∙ rw r refl)

-- the last byte
pub ends-last : (text : List ℕ) (i : ℕ) → suc i ≡ length text → ends_in_bracket text ≡ eqb (get_or text i 0) 93
ends-last [] i e = absurd (omega arith)
ends-last (b ∷ []) i e = let z : i ≡ 0 = omega arith in rw z refl
ends-last (b ∷ c ∷ cs) zero e = absurd (omega arith)
ends-last (b ∷ c ∷ cs) (suc i) e = ends-last (c ∷ cs) i (omega arith)
