-- Streaks that grow.
use Rattle.std.proofs.Common.{
  ◌≡◌,
  ℕ,
  zero,
  suc,
  ◌+◌,
  ◌-◌,
  List,
  [],
  ◌∷◌,
  ◌++◌,
  length,
  get_or,
  refl,
  sym,
  ap,
  ◌∙◌,
  arith,
  append_assoc,
  map,
  Option,
  Some,
  None,
  Bool,
  true,
  false,
  cond,
  take,
}
use Rattle.std.specs.Prelude.{slice_set, IfSome, ◌<◌, ◌≤◌}
use Rattle.std.specs.List.{flat_map, range_with_len, count_by}
use Rattle.std.proofs.lemmas.Grind.{flat_map-append}
use Rattle.std.proofs.lemmas.List.{append-nil, take_more}
use Rattle.std.proofs.lemmas.List.Sums.{sum_by-cons}
use Rattle.std.proofs.lemmas.List.FromFn.{map-range_with_len_more}
use Rattle.signals.specs.declared.verdict.Verdict.{Verdict}
use Rattle.signals.specs.declared.verdict.Decided.{Decided}
use Rattle.signals.specs.declared.verdict.Verdict.TheVariants as outcome
use Rattle.report_lines.specs.Tallies.{is_holds, is_vacuous, is_fails, is_disabled, is_open}
use Rattle.machine_batches.specs.declared.streak.Streak.{Streak}
use Rattle.machine_batches.specs.Ages.{verdict_moved, deciding_clock, nth}
use Rattle.machine_batches.specs.Streaks.{streak_attempts, attempts_in_all}

-- a list whose last item gives more than before
pub set-last : {A B : Type 0} (f : A → List B) (xs : List A) (n : ℕ) (y d : A) (more : List B) →
    n + 1 ≡ length xs → f y ≡ f (get_or xs n d) ++ more →
    flat_map f (slice_set xs n y) ≡ flat_map f xs ++ more
set-last f [] n y d more h is = absurd (omega (arith, h))
set-last f (x ∷ []) zero y d more h is =
    append-nil (f y) ∙ is ∙ ap (λ zs. zs ++ more) (sym (append-nil (f x)))
set-last f (x ∷ z ∷ xs) zero y d more h is = absurd (omega (arith, h))
set-last f (x ∷ xs) (suc n) y d more h is =
    ap (λ zs. f x ++ zs) (set-last f xs n y d more (omega (arith, h)) is)
    ∙ sym (append_assoc (f x) (flat_map f xs) more)

-- moved on twice
moved-twice : (n i : ℕ) (v : Verdict) → verdict_moved i (verdict_moved n v) ≡ verdict_moved (n + i) v
moved-twice n i (outcome.Holds t) =
    let sum : (t + n) + i ≡ t + (n + i) = omega arith in ap outcome.Holds sum
moved-twice n i (outcome.Vacuous t) =
    let sum : (t + n) + i ≡ t + (n + i) = omega arith in ap outcome.Vacuous sum
moved-twice n i (outcome.Fails t) =
    let sum : (t + n) + i ≡ t + (n + i) = omega arith in ap outcome.Fails sum
moved-twice n i (outcome.Disabled t) =
    let sum : (t + n) + i ≡ t + (n + i) = omega arith in ap outcome.Disabled sum
moved-twice n i outcome.Open = refl

-- a verdict so many clocks later is known so many clocks later, at most
pub later-clock : (n : ℕ) (v : Verdict) (most count : ℕ) → n + count ≤ most
    → deciding_clock (verdict_moved n v) + count ≤ most → deciding_clock v + (n + count) ≤ most
later-clock n (outcome.Holds t) most count few le = omega (arith, le)
later-clock n (outcome.Vacuous t) most count few le = omega (arith, le)
later-clock n (outcome.Fails t) most count few le = omega (arith, le)
later-clock n (outcome.Disabled t) most count few le = omega (arith, le)
later-clock n outcome.Open most count few le = omega (arith, few)

-- the attempt after so many, and those after it
nth-after : (d one : Decided) (n i : ℕ) → one.start ≡ d.start + n → one.verdict ≡ verdict_moved n d.verdict
    → nth one i ≡ nth d (n + i)
nth-after d one n i start verdict =
    let later : one.start + i ≡ d.start + (n + i) = omega (arith, start) in
    let moved = ap (verdict_moved i) verdict ∙ moved-twice n i d.verdict in
    λ j. record { start = later j; verdict = moved j }

-- attempts that go on with others
pub grown : (d one : Decided) (n m : ℕ) → one.start ≡ d.start + n → one.verdict ≡ verdict_moved n d.verdict →
    map (nth d) (range_with_len 0 (n + m))
    ≡ map (nth d) (range_with_len 0 n) ++ map (nth one) (range_with_len 0 m)
grown d one n zero start verdict =
    let none : n + 0 ≡ n = omega arith in
    ap (λ (k : ℕ). map (nth d) (range_with_len 0 k)) none
    ∙ sym (append-nil (map (nth d) (range_with_len 0 n)))
grown d one n (suc m) start verdict =
    let more : n + suc m ≡ (n + m) + 1 = omega arith in
    let next : suc m ≡ m + 1 = omega arith in
    let front = map (nth d) (range_with_len 0 n) in
    ap (λ (k : ℕ). map (nth d) (range_with_len 0 k)) more
    ∙ map-range_with_len_more (nth d) 0 (n + m) (n + m) (omega arith)
    ∙ ap (λ (xs : List Decided). xs ++ nth d (n + m) ∷ []) (grown d one n m start verdict)
    ∙ append_assoc front (map (nth one) (range_with_len 0 m)) (nth d (n + m) ∷ [])
    ∙ ap (λ (x : Decided). front ++ (map (nth one) (range_with_len 0 m) ++ x ∷ []))
    (sym (nth-after d one n m start verdict))
    ∙ ap (λ (xs : List Decided). front ++ xs)
    (sym (map-range_with_len_more (nth one) 0 m m (omega arith)))
    ∙ ap (λ (k : ℕ). front ++ map (nth one) (range_with_len 0 k)) (sym next)

-- the last streak with another one after it
pub last-grown : (xs : List Streak) (last : ℕ) (x more : Streak) (r : Option Streak) →
    last + 1 ≡ length xs → x ≡ get_or xs last x →
    IfSome r (λ s. streak_attempts s ≡ streak_attempts x ++ streak_attempts more) →
    IfSome r (λ s. attempts_in_all (slice_set xs (length xs - 1) s)
    ≡ attempts_in_all xs ++ streak_attempts more)
last-grown xs last x more None h is e = tt
last-grown xs last x more (Some s) h is e =
    let n : length xs - 1 ≡ last = omega (arith, h) in
    ap (λ (k : ℕ). attempts_in_all (slice_set xs k s)) n
    ∙ set-last streak_attempts xs last s x (streak_attempts more) h
    (e ∙ ap (λ (z : Streak). streak_attempts z ++ streak_attempts more) is)

-- one streak more
pub streak-more : (xs : List Streak) (i : ℕ) (s : Streak) → i < length xs → s ≡ get_or xs i s →
    attempts_in_all (take (i + 1) xs) ≡ attempts_in_all (take i xs) ++ streak_attempts s
streak-more xs i s below is =
    ap attempts_in_all (take_more xs i s below ∙ ap (λ (x : Streak). take i xs ++ x ∷ []) (sym is))
    ∙ flat_map-append streak_attempts (take i xs) (s ∷ [])
    ∙ ap (λ (ds : List Decided). attempts_in_all (take i xs) ++ ds) (append-nil (streak_attempts s))

-- whether a verdict is of a kind does not hang on its clock
abbrev pub IsKind : (Verdict → Bool) → Type 0
IsKind is = (n : ℕ) (v : Verdict) → is (verdict_moved n v) ≡ is v

pub kind-holds : IsKind is_holds
kind-holds n (outcome.Holds t) = refl
kind-holds n (outcome.Vacuous t) = refl
kind-holds n (outcome.Fails t) = refl
kind-holds n (outcome.Disabled t) = refl
kind-holds n outcome.Open = refl

pub kind-vacuous : IsKind is_vacuous
kind-vacuous n (outcome.Holds t) = refl
kind-vacuous n (outcome.Vacuous t) = refl
kind-vacuous n (outcome.Fails t) = refl
kind-vacuous n (outcome.Disabled t) = refl
kind-vacuous n outcome.Open = refl

pub kind-fails : IsKind is_fails
kind-fails n (outcome.Holds t) = refl
kind-fails n (outcome.Vacuous t) = refl
kind-fails n (outcome.Fails t) = refl
kind-fails n (outcome.Disabled t) = refl
kind-fails n outcome.Open = refl

pub kind-disabled : IsKind is_disabled
kind-disabled n (outcome.Holds t) = refl
kind-disabled n (outcome.Vacuous t) = refl
kind-disabled n (outcome.Fails t) = refl
kind-disabled n (outcome.Disabled t) = refl
kind-disabled n outcome.Open = refl

pub kind-open : IsKind is_open
kind-open n (outcome.Holds t) = refl
kind-open n (outcome.Vacuous t) = refl
kind-open n (outcome.Fails t) = refl
kind-open n (outcome.Disabled t) = refl
kind-open n outcome.Open = refl

-- of items that are alike, all count or none
alike : {X : Type 0} (p : X → Bool) (g : ℕ → X) (b : Bool) → ((i : ℕ) → p (g i) ≡ b) → (a n : ℕ) →
    count_by p (map g (range_with_len a n)) ≡ cond b n 0
alike p g true h a zero = refl
alike p g false h a zero = refl
alike p g true h a (suc n) =
    let weight : Bool → ℕ = (λ b. cond b 1 0) in
    let rest = alike p g true h (a + 1) n in
    let one = sum_by-cons (λ x. cond (p x) 1 0) (g a) (map g (range_with_len (a + 1) n)) in
    omega (arith, rest, one, ap weight (h a))
alike p g false h a (suc n) =
    let weight : Bool → ℕ = (λ b. cond b 1 0) in
    let rest = alike p g false h (a + 1) n in
    let one = sum_by-cons (λ x. cond (p x) 1 0) (g a) (map g (range_with_len (a + 1) n)) in
    omega (arith, rest, one, ap weight (h a))

-- how many attempts of a streak are of a kind
pub streak-count : (is : Verdict → Bool) → IsKind is → (s : Streak) →
    count_by (λ (d : Decided). is d.verdict) (streak_attempts s)
    ≡ cond (is s.first.verdict) s.count 0
streak-count is kind s =
    alike (λ (d : Decided). is d.verdict) (nth s.first) (is s.first.verdict)
    (λ i. kind i s.first.verdict) 0 s.count
