-- Numbers, digit by digit.
use Rattle.std.proofs.Common.{◌≡◌, ℕ, ◌+◌, ◌-◌, ◌*◌, ◌<◌, ◌≤◌, min, true, false, List, [], ◌∷◌, length, get_or, drop}
use Rattle.std.proofs.Common.{Option, Some, None, ◌++◌, Bor, map, append_assoc, append-nil, refl, sym, ap, ◌∙◌, arith}
use Rattle.std.specs.Prelude.{◌==◌}
use Rattle.std.specs.Char.{is_ascii_digit}
use Rattle.std.specs.List.{list_all}
use Rattle.std.proofs.lemmas.Bool.{true≢false, ne_eqb}
use Rattle.axi4_rules.specs.Lines.{◌>>=◌, decimal_from, number, all_numbers}
use Rattle.axi4_rules.proofs.ListLaws.{drop-next, drop-end, with_front}

pub decimal_from-le : (n : ℕ) (ds : List ℕ) → n ≤ decimal_from n ds
unfolding decimal_from
decimal_from-le n [] = omega arith
decimal_from-le n (d ∷ ds) = omega (arith, decimal_from-le (10 * n + (d - 48)) ds)

-- a number that is cut at 65,536 on the way is the same in the end
pub decimal_from-cut : (n : ℕ) (ds : List ℕ) → min 65536 (decimal_from (min n 65536) ds) ≡ min 65536 (decimal_from n ds)
unfolding decimal_from
decimal_from-cut n [] = omega arith
decimal_from-cut n (d ∷ ds) =
    sym (decimal_from-cut (10 * min n 65536 + (d - 48)) ds)
    ∙ ap (λ m. min 65536 (decimal_from m ds)) (omega arith)
    ∙ decimal_from-cut (10 * n + (d - 48)) ds

pub decimal_from-next : (n : ℕ) (ds : List ℕ) (i d : ℕ) → i < length ds → decimal_from n (drop i ds)
    ≡ decimal_from (10 * n + (get_or ds i d - 48)) (drop (i + 1) ds)
unfolding decimal_from
decimal_from-next n ds i d below = rw (drop-next ds i d below) refl

pub no_number : (ds : List ℕ) → (length ds == 0) ≡ true → number ds ≡ None
unfolding number
no_number ds h = rw h refl

pub not_digits : (ds : List ℕ) → list_all is_ascii_digit ds ≡ false → number ds ≡ None
unfolding number
not_digits [] h = absurd (true≢false h)
not_digits (d ∷ ds) h = rw (ne_eqb (length (d ∷ ds)) 0 (λ e. absurd (omega arith)), h) refl

pub is_number : (ds : List ℕ) (n : ℕ) → 0 < length ds → list_all is_ascii_digit ds ≡ true
    → min 65536 (decimal_from 0 ds) ≡ n → number ds ≡ Some n
unfolding number
is_number [] n some all h = absurd (omega arith)
is_number (d ∷ ds) n some all h = rw (ne_eqb (length (d ∷ ds)) 0 (λ e. absurd (omega arith)), all, h) refl

pub digit_more : (ds : List ℕ) (n i m o : ℕ) → i < length ds → o ≡ get_or ds i 0 - 48 → m ≡ min (10 * n + o) 65536
    → min 65536 (decimal_from n (drop i ds)) ≡ min 65536 (decimal_from m (drop (i + 1) ds))
digit_more ds n i m o below ones is =
    ap (min 65536) (decimal_from-next n ds i 0 below ∙ ap (λ k. decimal_from (10 * n + k) (drop (i + 1) ds)) (sym ones))
    ∙ sym (decimal_from-cut (10 * n + o) (drop (i + 1) ds))
    ∙ ap (λ k. min 65536 (decimal_from k (drop (i + 1) ds))) (sym is)

pub no_digit_left : (ds : List ℕ) (n i : ℕ) → length ds ≤ i → n ≤ 65536 → min 65536 (decimal_from n (drop i ds)) ≡ n
unfolding decimal_from
no_digit_left ds n i over small = ap (λ l. min 65536 (decimal_from n l)) (drop-end ds i over) ∙ omega arith

number-onto : (xs : List ℕ) (n : ℕ) (o : Option (List ℕ)) → with_front xs (o >>= (λ ns. Some (n ∷ ns)))
    ≡ with_front (xs ++ n ∷ []) o
number-onto xs n None = refl
number-onto xs n (Some ns) = ap Some (sym (append_assoc xs (n ∷ []) ns))

-- one more number of a list
pub number_more : (ts : List (Bor (List ℕ))) (i : ℕ) (d : Bor (List ℕ)) (xs : List ℕ) (n : ℕ) → i < length ts
    → number ((get_or ts i d).now) ≡ Some n → with_front xs (all_numbers (map (λ t. t.now) (drop i ts)))
    ≡ with_front (xs ++ n ∷ []) (all_numbers (map (λ t. t.now) (drop (i + 1) ts)))
number_more ts i d xs n below h = rw (drop-next ts i d below, h) (number-onto xs n _)

-- no number is left
pub numbers_end : (ts : List (Bor (List ℕ))) (i : ℕ) (xs : List ℕ) → length ts ≤ i
    → with_front xs (all_numbers (map (λ t. t.now) (drop i ts))) ≡ Some xs
numbers_end ts i xs over = rw (drop-end ts i over) (ap Some (append-nil xs))
