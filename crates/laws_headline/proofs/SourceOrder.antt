-- Numbers that are put in source order.
use Rattle.std.proofs.Common.{◌≡◌, ◌∙◌, ℕ, zero, suc, ◌+◌, ◌<◌, ◌≤◌, ◌⊎◌, inl, inr, Bool, true, false, cond}
use Rattle.std.proofs.Common.{List, [], ◌∷◌, ◌++◌, Some, map, refl, sym, ap, subst, arith, append_assoc}
use Rattle.std.specs.Prelude.{slice_get, ◌==◌}
use Rattle.std.specs.List.{range_with_len}
use Rattle.std.proofs.lemmas.Bool.{cases_lt}
use Rattle.std.proofs.lemmas.List.{append-nil}
use Rattle.workers_core.specs.States.{put, put_each}
use Rattle.laws_headline.specs.Owners.{AreRisingFrom, AreRising, total, AreDealt}
use Rattle.laws_headline.specs.ThreadRounds.{in_order}
use Rattle.laws_headline.proofs.ListLaws.{mapped}
use Rattle.laws_headline.proofs.OwnedLaws.{only, only-above, range-rises}
use Rattle.laws_headline.proofs.GatherLaws.{put-before, put-after}

-- one more weighs so much more
put-weighs-step : (h : ℕ → ℕ) (i x : ℕ) (xs : List ℕ) → (i < x) ⊎ (x ≤ i)
    → total h (put i xs) ≡ h i + total h xs → total h (put i (x ∷ xs)) ≡ h i + (h x + total h xs)
put-weighs-step h i x xs (inl lt) next = ap (total h) (put-before i x xs lt)
put-weighs-step h i x xs (inr le) next = let e = ap (total h) (put-after i x xs le) in omega (arith, e, next)

put-weighs : (h : ℕ → ℕ) (i : ℕ) (xs : List ℕ) → total h (put i xs) ≡ h i + total h xs
put-weighs h i [] = refl
put-weighs h i (x ∷ xs) = put-weighs-step h i x xs (cases_lt i x) (put-weighs h i xs)

puts-weigh : (h : ℕ → ℕ) (is xs : List ℕ) → total h (put_each is xs) ≡ total h is + total h xs
puts-weigh h [] xs = omega arith
puts-weigh h (i ∷ is) xs = omega (arith, puts-weigh h is (put i xs), put-weighs h i xs)

in-order-weighs : (h : ℕ → ℕ) (xs : List ℕ) → total h (in_order xs) ≡ total h xs
in-order-weighs h xs = omega (arith, puts-weigh h xs [])

-- a number that isn't there is another one than those that are
only-itself : (i : ℕ) → only i i ≡ 1
only-itself i =
    let yes : (i == i) ≡ true = grind arith in ap (λ (b : Bool). cond {A = ℕ} b 1 0) yes

not-only : (i x : ℕ) → only i x ≡ 0 → x ≡ i → ⊥
not-only i x none is =
    let one : only i x ≡ 1 = ap (only i) is ∙ only-itself i in absurd (omega (arith, one, none))

put-rises-step : (i low x : ℕ) (xs : List ℕ) → AreRisingFrom low (x ∷ xs) → low ≤ i → (x ≡ i → ⊥) →
    (x + 1 ≤ i → AreRisingFrom (x + 1) (put i xs)) → (i < x) ⊎ (x ≤ i) → AreRisingFrom low (put i (x ∷ xs))
put-rises-step i low x xs h le other next (inl lt) =
    subst (AreRisingFrom low) (sym (put-before i x xs lt)) (le, (omega (arith, lt), h.1))
put-rises-step i low x xs h le other next (inr ge) =
    subst (AreRisingFrom low) (sym (put-after i x xs ge)) (h.0, next (omega (arith, ge, other)))

put-rises : (i low : ℕ) (xs : List ℕ) → AreRisingFrom low xs → low ≤ i → total (only i) xs ≡ 0
    → AreRisingFrom low (put i xs)
put-rises i low [] h le none = (le, tt)
put-rises i low (x ∷ xs) h le none =
    put-rises-step i low x xs h le (not-only i x (omega (arith, none)))
    (λ more. put-rises i (x + 1) xs h.1 more (omega (arith, none))) (cases_lt i x)

puts-rise : (is xs : List ℕ) → AreRising xs → ((v : ℕ) → total (only v) is + total (only v) xs ≤ 1)
    → AreRising (put_each is xs)
puts-rise [] xs h once = h
puts-rise (i ∷ is) xs h once =
    puts-rise is (put i xs)
    (put-rises i 0 xs h (omega arith) (omega (arith, once i, only-itself i)))
    (λ v. omega (arith, once v, put-weighs (only v) i xs))

in-order-rises : (xs : List ℕ) → ((v : ℕ) → total (only v) xs ≤ 1) → AreRising (in_order xs)
in-order-rises xs once = puts-rise xs [] tt (λ v. omega (arith, once v))

-- all of these are below a number
abbrev Below : ℕ → List ℕ → Type 0
Below low [] = Unit {0}
Below low (y ∷ ys) = (y < low) × Below low ys

below-more : (low x : ℕ) (ys : List ℕ) → low ≤ x → Below low ys → Below x ys
below-more low x [] le b = tt
below-more low x (y ∷ ys) le b = (omega (arith, le, b.0), below-more low x ys le b.1)

below-end : (x : ℕ) (ys : List ℕ) → Below x ys → Below (x + 1) (ys ++ x ∷ [])
below-end x [] b = (omega arith, tt)
below-end x (y ∷ ys) b = (omega (arith, b.0), below-end x ys b.1)

put-last : (i : ℕ) (ys : List ℕ) → Below i ys → put i ys ≡ ys ++ i ∷ []
put-last i [] b = refl
put-last i (y ∷ ys) b =
    put-after i y ys (omega (arith, b.0)) ∙ ap (λ (zs : List ℕ). y ∷ zs) (put-last i ys b.1)

puts-last : (xs ys : List ℕ) (low : ℕ) → AreRisingFrom low xs → Below low ys → put_each xs ys ≡ ys ++ xs
puts-last [] ys low h b = sym (append-nil ys)
puts-last (x ∷ xs) ys low h b =
    let here : Below x ys = below-more low x ys h.0 b in
    ap (put_each xs) (put-last x ys here)
    ∙ puts-last xs (ys ++ x ∷ []) (x + 1) h.1 (below-end x ys here)
    ∙ append_assoc ys (x ∷ []) xs

-- numbers that rise are in order
pub in-order-keeps : (xs : List ℕ) → AreRising xs → in_order xs ≡ xs
in-order-keeps xs h = puts-last xs [] 0 h tt

-- of lists that together have each number once, each has it at most once
one-of : (f : List ℕ → ℕ) (lists : List (List ℕ)) (w : ℕ) (xs : List ℕ) → slice_get lists w ≡ Some xs
    → f xs ≤ total f lists
one-of f [] w xs is = absurd cc
one-of f (ys ∷ lists) zero xs is =
    let same : ys ≡ xs = cc in let e = ap f same in omega (arith, e)
one-of f (ys ∷ lists) (suc w) xs is = omega (arith, one-of f lists w xs is)

once-step : (v a n : ℕ) (b : Bool) → (a == v) ≡ b → total (only v) (range_with_len (a + 1) n) ≤ 1
    → only v a + total (only v) (range_with_len (a + 1) n) ≤ 1
once-step v a n true is rest =
    let same : a ≡ v = grind (arith, is) in
    let here : only v a ≡ 1 = ap (λ (b : Bool). cond {A = ℕ} b 1 0) is in
    let none : total (only a) (range_with_len (a + 1) n) ≡ 0 =
    only-above a (range_with_len (a + 1) n) (range-rises (a + 1) n) in
    let moved : total (only v) (range_with_len (a + 1) n) ≡ 0 =
    subst (λ (x : ℕ). total (only x) (range_with_len (a + 1) n) ≡ 0) same none in
    omega (arith, here, moved)
once-step v a n false is rest =
    let none : only v a ≡ 0 = ap (λ (b : Bool). cond {A = ℕ} b 1 0) is in omega (arith, none, rest)

once : (v a n : ℕ) → total (only v) (range_with_len a n) ≤ 1
once v a zero = omega arith
once v a (suc n) = once-step v a n (a == v) refl (once v (a + 1) n)

weigh-in-order : (h : ℕ → ℕ) (lists : List (List ℕ)) → total (total h) (map in_order lists) ≡ total (total h) lists
weigh-in-order h [] = refl
weigh-in-order h (xs ∷ lists) = omega (arith, in-order-weighs h xs, weigh-in-order h lists)

-- lists that together are all numbers are dealt out, once each is in order
pub dealt-in-order : (n : ℕ) (lists : List (List ℕ))
    → ((h : ℕ → ℕ) → total (total h) lists ≡ total h (range_with_len 0 n)) → AreDealt n (map in_order lists)
dealt-in-order n lists all =
    record {
      rise = λ w xs is.
          let r = mapped in_order lists w xs is in
          subst AreRising r.same
          (in-order-rises r.of
          (λ v. omega (arith, one-of (total (only v)) lists w r.of r.is, all (only v), once v 0 n)));
      all = λ h. weigh-in-order h lists ∙ all h;
    }
