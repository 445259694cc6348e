-- The longest token, by its first byte.
use Rattle.std.proofs.Common.{◌≡◌, ◌⊎◌, ℕ, zero, suc, ◌+◌, ◌-◌, ◌<◌, ◌≤◌, leb, eqb, Bool, true, false, cond, List, []}
use Rattle.std.proofs.Common.{◌∷◌, length, get_or, take, drop, Option, Some, None, refl, sym, ap, ◌∙◌, arith, inl, inr}
use Rattle.std.proofs.Common.{subst, add-one}
use Rattle.std.specs.List.{list_all}
use Rattle.std.proofs.Math.Seq.{drop-cons}
use Rattle.std.proofs.lemmas.Bool.{ne_eqb, le-leb, lt-leb}
use lib.Dec.{leb-suc-suc, leb-suc-zero}
use Rattle.std.proofs.Math.ListN.{drop_of_length-le}
use Rattle.lexer.specs.declared.piece.Shape.{Shape}
use Rattle.lexer.specs.declared.piece.Shape.TheVariants as shape
use Rattle.lexer.specs.Lexemes.{is_digit, is_letter, is_word_part, is_system_part, is_digit_part, is_based_digit}
use Rattle.lexer.specs.Lexemes.{is_based_part, base_of, digits_tail, base_tail, size_tail, symbol_of, symbol_shape}
use Rattle.lexer.specs.Lexemes.{one_symbol, two_symbol, three_symbol, when, shape_of, or_shorter, longest_from}
use Rattle.lexer.specs.Lexemes.{longest_lexeme}
use Rattle.lexer.specs.declared.token.Base.{Base}
use Rattle.lexer.specs.Runs.{run_length, digits_len, base_len, with_quote, size_len}

pub tells : (b : Bool) → (b ≡ true) ⊎ (b ≡ false)
tells true = inl refl
tells false = inr refl

passes : (p : ℕ → Bool) (b : ℕ) (bs : List ℕ) (x : Bool) → p b ≡ x
    → run_length p (b ∷ bs) ≡ cond x (suc (run_length p bs)) 0
unfolding run_length
passes p b bs x e = rw e refl

pub run-step : (p : ℕ → Bool) (bytes : List ℕ) (i : ℕ) → i < length bytes → p (get_or bytes i 0) ≡ true
    → run_length p (drop i bytes) ≡ suc (run_length p (drop (i + 1) bytes))
unfolding run_length
run-step p bytes i lt h = rw (drop-cons bytes i 0 lt, h, add-one) refl

pub run-stop : (p : ℕ → Bool) (bytes : List ℕ) (i : ℕ) → i < length bytes → p (get_or bytes i 0) ≡ false
    → run_length p (drop i bytes) ≡ 0
unfolding run_length
run-stop p bytes i lt h = rw (drop-cons bytes i 0 lt, h) refl

pub run-none : (p : ℕ → Bool) (bs : List ℕ) → bs ≡ [] → run_length p bs ≡ 0
unfolding run_length
run-none p bs e = rw e refl

pub run-le : (p : ℕ → Bool) (bs : List ℕ) → run_length p bs ≤ length bs
unfolding run_length
run-le p [] = omega arith
run-le p (b ∷ bs) = elim (tells (p b)) [ inl h ↦ rw h (omega (arith, run-le p bs)) | inr h ↦ rw h (omega arith) ]

-- whether all of the first j pass is whether the run is that long
all-take : (p : ℕ → Bool) (bs : List ℕ) (j : ℕ) → j ≤ length bs → list_all p (take j bs) ≡ leb j (run_length p bs)
all-take p bs zero h = sym (le-leb 0 (run_length p bs) (omega arith))
all-take p [] (suc j) h = absurd (omega arith)
all-take p (b ∷ bs) (suc j) h =
    elim (tells (p b)) [
      | inl e ↦ rw (passes p b bs true e, e, leb-suc-suc) (all-take p bs j (omega arith))
      | inr e ↦ rw (passes p b bs false e, e) (sym (leb-suc-zero j))
    ]

pub order : (a b : ℕ) → (a ≤ b) ⊎ (b < a)
order zero b = inl (omega arith)
order (suc a) zero = inr (omega arith)
order (suc a) (suc b) = elim (order a b) [ inl h ↦ inl (omega arith) | inr h ↦ inr (omega arith) ]

module _ (b : ℕ) (bs : List ℕ) (p : ℕ → Bool) (s : Shape)
    (kind : (ts : List ℕ) → shape_of b ts ≡ when (list_all p ts) s) where
  longest_from-run : (n : ℕ) → n ≤ length bs → run_length p bs ≤ n
      → longest_from b bs n ≡ Some (suc (run_length p bs), s)
  unfolding longest_from
  longest_from-run zero le h =
      let none : run_length p bs ≡ 0 = omega arith in
      rw (kind []) (ap (λ (n : ℕ). Some (suc n, s)) (sym none))
  longest_from-run (suc n) le h =
      elim (order (suc n) (run_length p bs)) [
        | inl up ↦
            let whole : run_length p bs ≡ suc n = omega arith in
            rw (kind (take (suc n) bs), all-take p bs (suc n) le, le-leb (suc n) (run_length p bs) up)
            (ap (λ (m : ℕ). Some (suc m, s)) (sym whole))
        | inr down ↦ rw (kind (take (suc n) bs), all-take p bs (suc n) le, lt-leb (suc n) (run_length p bs) down)
            (longest_from-run n (omega arith) (omega arith))
      ]

  pub longest-run : longest_lexeme b bs ≡ Some (suc (run_length p bs), s)
  unfolding longest_lexeme
  longest-run = longest_from-run (length bs) (omega arith) (run-le p bs)

word : (b : ℕ) → is_letter b ≡ true → (ts : List ℕ) → shape_of b ts ≡ when (list_all is_word_part ts) shape.Word
unfolding shape_of
word b h ts = rw h refl

pub longest-word : (b : ℕ) (bs : List ℕ) → is_letter b ≡ true
    → longest_lexeme b bs ≡ Some (suc (run_length is_word_part bs), shape.Word)
longest-word b bs h = longest-run b bs is_word_part shape.Word (word b h)

system : (b : ℕ) → is_letter b ≡ false → eqb b 36 ≡ true → (ts : List ℕ)
    → shape_of b ts ≡ when (list_all is_system_part ts) shape.System
unfolding shape_of
system b h k ts = rw (h, k) refl

pub longest-system : (b : ℕ) (bs : List ℕ) → is_letter b ≡ false → eqb b 36 ≡ true
    → longest_lexeme b bs ≡ Some (suc (run_length is_system_part bs), shape.System)
longest-system b bs h k = longest-run b bs is_system_part shape.System (system b h k)

-- The longest that is something, if that many bytes are, and more are nothing.
module _ (b : ℕ) (bs : List ℕ) (m : ℕ) (past : (n : ℕ) → m < n → n ≤ length bs → shape_of b (take n bs) ≡ None) where
  longest_from-at : (s : Shape) → shape_of b (take m bs) ≡ Some s → (n : ℕ) → n ≤ length bs → m ≤ n
      → longest_from b bs n ≡ Some (suc m, s)
  unfolding longest_from
  longest_from-at s is zero le h =
      let none : m ≡ 0 = omega arith in
      let here : shape_of b [] ≡ Some s = subst (λ (k : ℕ). shape_of b (take k bs) ≡ Some s) none is in
      rw here (ap (λ (n : ℕ). Some (suc n, s)) (sym none))
  longest_from-at s is (suc n) le h =
      elim (order m n) [
        | inl below ↦ rw (past (suc n) (omega arith) le) (longest_from-at s is n (omega arith) below)
        | inr up ↦
            let whole : m ≡ suc n = omega arith in
            let here : shape_of b (take (suc n) bs) ≡ Some s =
            subst (λ (k : ℕ). shape_of b (take k bs) ≡ Some s) whole is in
            rw here (ap (λ (k : ℕ). Some (suc k, s)) (sym whole))
      ]

  pub longest-at : (s : Shape) → shape_of b (take m bs) ≡ Some s → m ≤ length bs → longest_lexeme b bs ≡ Some (suc m, s)
  unfolding longest_lexeme
  longest-at s is le = longest_from-at s is (length bs) (omega arith) le

longest_from-none : (b : ℕ) (bs : List ℕ) → ((n : ℕ) → n ≤ length bs → shape_of b (take n bs) ≡ None) → (n : ℕ)
    → n ≤ length bs → longest_from b bs n ≡ None
unfolding longest_from
longest_from-none b bs none zero le = rw (none 0 (omega arith)) refl
longest_from-none b bs none (suc n) le = rw (none (suc n) le) (longest_from-none b bs none n (omega arith))

pub longest-none : (b : ℕ) (bs : List ℕ) → ((n : ℕ) → n ≤ length bs → shape_of b (take n bs) ≡ None)
    → longest_lexeme b bs ≡ None
unfolding longest_lexeme
longest-none b bs none = longest_from-none b bs none (length bs) (omega arith)

-- numbers, from the back: digits of a base
list_all-past : (p : ℕ → Bool) (bs : List ℕ) (n : ℕ) → run_length p bs < n → n ≤ length bs
    → list_all p (take n bs) ≡ false
list_all-past p bs n h le = all-take p bs n le ∙ lt-leb n (run_length p bs) h

list_all-here : (p : ℕ → Bool) (bs : List ℕ) → list_all p (take (run_length p bs) bs) ≡ true
list_all-here p bs =
    all-take p bs (run_length p bs) (run-le p bs) ∙ le-leb (run_length p bs) (run_length p bs) (omega arith)

digits_len-le : (o : Option Base) (bs : List ℕ) → digits_len o bs ≤ suc (length bs)
digits_len-le None bs = omega arith
digits_len-le (Some base) [] = omega arith
digits_len-le (Some base) (b ∷ bs) =
    elim (tells (is_based_digit base b)) [
      | inl e ↦ rw e (omega (arith, run-le (is_based_part base) bs))
      | inr e ↦ rw e (omega arith)
    ]

digits_tail-past : (o : Option Base) (bs : List ℕ) (n : ℕ) → digits_len o bs ≤ n → n ≤ length bs
    → digits_tail o (take n bs) ≡ false
digits_tail-past None bs n h le = refl
digits_tail-past (Some base) [] n h le = absurd (omega arith)
digits_tail-past (Some base) (b ∷ bs) n h le =
    elim (tells (is_based_digit base b)) [
      | inl e ↦ let k = rw e at h in digits_past base b bs n e k le
      | inr e ↦ let k = rw e at h in no_digit base b bs n e k
    ]
  where
    digits_past : (base : Base) (b : ℕ) (bs : List ℕ) (n : ℕ) → is_based_digit base b ≡ true
        → suc (suc (run_length (is_based_part base) bs)) ≤ n → n ≤ suc (length bs)
        → digits_tail (Some base) (take n (b ∷ bs)) ≡ false
    digits_past base b bs zero e h le = absurd (omega arith)
    digits_past base b bs (suc n) e h le = rw e (list_all-past (is_based_part base) bs n (omega arith) (omega arith))

    no_digit : (base : Base) (b : ℕ) (bs : List ℕ) (n : ℕ) → is_based_digit base b ≡ false → 1 ≤ n
        → digits_tail (Some base) (take n (b ∷ bs)) ≡ false
    no_digit base b bs zero e h = absurd (omega arith)
    no_digit base b bs (suc n) e h = rw e refl

digits_tail-here : (o : Option Base) (bs : List ℕ) (n : ℕ) → digits_len o bs ≡ suc n → digits_tail o (take n bs) ≡ true
digits_tail-here None bs n h = absurd (omega arith)
digits_tail-here (Some base) [] zero h = refl
digits_tail-here (Some base) [] (suc n) h = absurd (omega arith)
digits_tail-here (Some base) (b ∷ bs) n h =
    elim (tells (is_based_digit base b)) [
      | inl e ↦ let k = rw e at h in digits base b bs n e k
      | inr e ↦ let k = rw e at h in no_digit base b bs n k
    ]
  where
    digits : (base : Base) (b : ℕ) (bs : List ℕ) (n : ℕ) → is_based_digit base b ≡ true
        → suc (suc (run_length (is_based_part base) bs)) ≡ suc n → digits_tail (Some base) (take n (b ∷ bs)) ≡ true
    digits base b bs zero e h = absurd (omega arith)
    digits base b bs (suc n) e h =
        let same : run_length (is_based_part base) bs ≡ n = omega arith in
        rw e (subst (λ (k : ℕ). list_all (is_based_part base) (take k bs) ≡ true) same
        (list_all-here (is_based_part base) bs))

    no_digit : (base : Base) (b : ℕ) (bs : List ℕ) (n : ℕ) → 1 ≡ suc n → digits_tail (Some base) (take n (b ∷ bs))
        ≡ true
    no_digit base b bs zero h = refl
    no_digit base b bs (suc n) h = absurd (omega arith)

-- after a quote
base_len-le : (bs : List ℕ) → base_len bs ≤ length bs
unfolding base_len
base_len-le [] = omega arith
base_len-le (b ∷ bs) = digits_len-le (base_of b) bs

base_tail-past : (bs : List ℕ) (n : ℕ) → base_len bs < n → n ≤ length bs → base_tail (take n bs) ≡ false
unfolding base_len
base_tail-past bs zero h le = absurd (omega arith)
base_tail-past [] (suc n) h le = refl
base_tail-past (b ∷ bs) (suc n) h le = digits_tail-past (base_of b) bs n (omega arith) (omega arith)

base_tail-here : (bs : List ℕ) (n : ℕ) → base_len bs ≡ suc n → base_tail (take (suc n) bs) ≡ true
unfolding base_len
base_tail-here [] n h = absurd (omega arith)
base_tail-here (b ∷ bs) n h = digits_tail-here (base_of b) bs n h

pub longest-quoted : (b : ℕ) (bs : List ℕ) (n : ℕ) → b ≡ 39 → base_len bs ≡ suc n
    → longest_lexeme b bs ≡ Some (suc (suc n), shape.Number)
unfolding shape_of
longest-quoted b bs n e h =
    rw e (longest-at 39 bs (suc n)
    (λ m lt le. rw (base_tail-past bs m (omega arith) le) refl) shape.Number (rw (base_tail-here bs n h) refl)
    (omega (arith, base_len-le bs)))

pub longest-quote_alone : (b : ℕ) (bs : List ℕ) → b ≡ 39 → base_len bs ≡ 0 → longest_lexeme b bs ≡ None
unfolding shape_of
longest-quote_alone b bs e h = rw e (longest-none 39 bs (λ n le. alone n le))
  where
    alone : (n : ℕ) → n ≤ length bs → shape_of 39 (take n bs) ≡ None
    alone zero le = refl
    alone (suc n) le = rw (base_tail-past bs (suc n) (omega arith) le) refl

-- after a first digit
size_len-le : (bs : List ℕ) → size_len bs ≤ length bs
unfolding size_len
size_len-le [] = omega arith
size_len-le (b ∷ bs) =
    elim (tells (is_digit_part b)) [
      | inl e ↦ rw e (omega (arith, size_len-le bs))
      | inr e ↦
          elim (tells (eqb b 39)) [
            | inl q ↦ rw (e, q) (quoted (base_len bs) (length bs) (base_len-le bs))
            | inr q ↦ rw (e, q) (omega arith)
          ]
    ]
  where
    quoted : (n m : ℕ) → n ≤ m → with_quote n ≤ suc m
    quoted zero m le = omega arith
    quoted (suc n) m le = omega arith

size_tail-past : (bs : List ℕ) (n : ℕ) → size_len bs < n → n ≤ length bs → size_tail (take n bs) ≡ false
unfolding size_len size_tail
size_tail-past bs zero h le = absurd (omega arith)
size_tail-past [] (suc n) h le = absurd (omega arith)
size_tail-past (b ∷ bs) (suc n) h le =
    elim (tells (is_digit_part b)) [
      | inl e ↦ let k = rw e at h in rw e (size_tail-past bs n (omega (arith, k)) (omega arith))
      | inr e ↦
          elim (tells (eqb b 39)) [
            | inl q ↦ let k = rw (e, q) at h in rw (e, q) (quoted (base_len bs) bs n refl k (omega arith))
            | inr q ↦ rw (e, q) refl
          ]
    ]
  where
    quoted : (l : ℕ) (bs : List ℕ) (n : ℕ) → base_len bs ≡ l → with_quote l < suc n → n ≤ length bs
        → base_tail (take n bs) ≡ false
    quoted zero bs zero e h le = refl
    quoted zero bs (suc n) e h le = base_tail-past bs (suc n) (omega arith) le
    quoted (suc l) bs n e h le = base_tail-past bs n (omega arith) le

size_tail-here : (bs : List ℕ) → size_tail (take (size_len bs) bs) ≡ true
unfolding size_len size_tail
size_tail-here [] = refl
size_tail-here (b ∷ bs) =
    elim (tells (is_digit_part b)) [
      | inl e ↦ rw (e, e) (size_tail-here bs)
      | inr e ↦
          elim (tells (eqb b 39)) [
            | inl q ↦ rw (e, q) (quoted (base_len bs) b bs refl e q)
            | inr q ↦ rw (e, q) refl
          ]
    ]
  where
    quoted : (l : ℕ) (b : ℕ) (bs : List ℕ) → base_len bs ≡ l → is_digit_part b ≡ false → eqb b 39 ≡ true
        → size_tail (take (with_quote l) (b ∷ bs)) ≡ true
    quoted zero b bs e h q = refl
    quoted (suc n) b bs e h q = rw (h, q) (base_tail-here bs n e)

pub longest-number : (b : ℕ) (bs : List ℕ) → is_letter b ≡ false → eqb b 36 ≡ false → is_digit b ≡ true
    → longest_lexeme b bs ≡ Some (suc (size_len bs), shape.Number)
unfolding shape_of
longest-number b bs h k d =
    longest-at b bs (size_len bs) (λ n lt le. numbered (take n bs) false (size_tail-past bs n lt le)) shape.Number
    (numbered (take (size_len bs) bs) true (size_tail-here bs)) (size_len-le bs)
  where
    numbered : (ts : List ℕ) (t : Bool) → size_tail ts ≡ t → shape_of b ts ≡ when t shape.Number
    numbered ts t e = rw (h, k, d, e) refl

-- What stands after a first digit: more of them, and a quote with what belongs to it.
abbrev pub quote_len : List ℕ → ℕ
quote_len [] = 0
quote_len (b ∷ bs) = cond (eqb b 39) (with_quote (base_len bs)) 0

pub size_len-run : (bs : List ℕ)
    → size_len bs ≡ run_length is_digit_part bs + quote_len (drop (run_length is_digit_part bs) bs)
unfolding size_len run_length
size_len-run [] = refl
size_len-run (b ∷ bs) =
    elim (tells (is_digit_part b)) [
      | inl e ↦ rw (passes is_digit_part b bs true e, e) (omega (arith, size_len-run bs))
      | inr e ↦ rw (passes is_digit_part b bs false e, e) (omega arith)
    ]

-- symbols
shape-symbol : (b : ℕ) (ts : List ℕ) → is_letter b ≡ false → eqb b 36 ≡ false → is_digit b ≡ false → eqb b 39 ≡ false
    → shape_of b ts ≡ symbol_of b ts
unfolding shape_of
shape-symbol b ts h k d q = rw (h, k, d, q) refl

module _ (b : ℕ) (kind : (ts : List ℕ) → shape_of b ts ≡ symbol_of b ts) where
  longest-at_two : (c d : ℕ) (more : List ℕ) (n : ℕ) → n ≤ length more → longest_from b (c ∷ d ∷ more) (suc (suc n))
      ≡ longest_from b (c ∷ d ∷ more) 2
  unfolding longest_from
  longest-at_two c d more zero le = refl
  longest-at_two c d [] (suc n) le = absurd (omega arith)
  longest-at_two c d (e ∷ more) (suc n) le =
      rw (kind (c ∷ d ∷ e ∷ take n more)) (longest-at_two c d (e ∷ more) n (omega arith))

  pub longest-three : (c d : ℕ) (more : List ℕ) → longest_lexeme b (c ∷ d ∷ more)
      ≡ or_shorter (symbol_shape (three_symbol b c d)) 3
      (or_shorter (symbol_shape (two_symbol b c)) 2 (or_shorter (symbol_shape (one_symbol b)) 1 None))
  unfolding longest_lexeme longest_from
  longest-three c d more =
      longest-at_two c d more (length more) (omega arith) ∙ rw (kind (c ∷ d ∷ []), kind (c ∷ []), kind []) refl

  pub longest-two : (c : ℕ) → longest_lexeme b (c ∷ []) ≡ or_shorter (symbol_shape (two_symbol b c)) 2
      (or_shorter (symbol_shape (one_symbol b)) 1 None)
  unfolding longest_lexeme longest_from
  longest-two c = rw (kind (c ∷ []), kind []) refl

  pub longest-one : longest_lexeme b [] ≡ or_shorter (symbol_shape (one_symbol b)) 1 None
  unfolding longest_lexeme longest_from
  longest-one = rw (kind []) refl

module _ (bytes : List ℕ) (at : ℕ) (h : is_letter (get_or bytes at 0) ≡ false) (k : get_or bytes at 0 ≡ 36 → ⊥)
    (d : is_digit (get_or bytes at 0) ≡ false) (q : get_or bytes at 0 ≡ 39 → ⊥) where
  kind : (ts : List ℕ) → shape_of (get_or bytes at 0) ts ≡ symbol_of (get_or bytes at 0) ts
  kind ts = shape-symbol (get_or bytes at 0) ts h (ne_eqb _ _ k) d (ne_eqb _ _ q)

  pub symbol-one : at < length bytes → length bytes - at ≡ 1 → longest_lexeme (get_or bytes at 0) (drop (at + 1) bytes)
      ≡ or_shorter (symbol_shape (one_symbol (get_or bytes at 0))) 1 None
  symbol-one lt e =
      let nil : drop (at + 1) bytes ≡ [] = drop_of_length-le bytes (omega arith) in
      ap (longest_lexeme (get_or bytes at 0)) nil ∙ longest-one (get_or bytes at 0) kind

  behind : (i : ℕ) → i < length bytes → drop i bytes ≡ get_or bytes i 0 ∷ drop (i + 1) bytes
  behind i lt = rw add-one (drop-cons bytes i 0 lt)

  pub symbol-two : at < length bytes → length bytes - at ≡ 2
      → longest_lexeme (get_or bytes at 0) (drop (at + 1) bytes)
      ≡ or_shorter (symbol_shape (two_symbol (get_or bytes at 0) (get_or bytes (at + 1) 0))) 2
      (or_shorter (symbol_shape (one_symbol (get_or bytes at 0))) 1 None)
  symbol-two lt e =
      let nil : drop (at + 1 + 1) bytes ≡ [] = drop_of_length-le bytes (omega arith) in
      ap (longest_lexeme (get_or bytes at 0)) (behind (at + 1) (omega arith)
      ∙ ap (λ (r : List ℕ). get_or bytes (at + 1) 0 ∷ r) nil)
      ∙ longest-two (get_or bytes at 0) kind (get_or bytes (at + 1) 0)

  pub symbol-three : at < length bytes → (length bytes - at ≡ 1 → ⊥) → (length bytes - at ≡ 2 → ⊥)
      → longest_lexeme (get_or bytes at 0) (drop (at + 1) bytes)
      ≡ or_shorter (symbol_shape (three_symbol (get_or bytes at 0) (get_or bytes (at + 1) 0) (get_or bytes (at + 2) 0)))
      3 (or_shorter (symbol_shape (two_symbol (get_or bytes at 0) (get_or bytes (at + 1) 0))) 2
      (or_shorter (symbol_shape (one_symbol (get_or bytes at 0))) 1 None))
  symbol-three lt e f =
      let two : at + 1 + 1 ≡ at + 2 = omega arith in
      let second : drop (at + 1 + 1) bytes ≡ get_or bytes (at + 2) 0 ∷ drop (at + 2 + 1) bytes =
      ap (λ (i : ℕ). drop i bytes) two ∙ behind (at + 2) (omega arith) in
      ap (longest_lexeme (get_or bytes at 0)) (behind (at + 1) (omega arith)
      ∙ ap (λ (r : List ℕ). get_or bytes (at + 1) 0 ∷ r) second)
      ∙ longest-three (get_or bytes at 0) kind (get_or bytes (at + 1) 0) (get_or bytes (at + 2) 0)
      (drop (at + 2 + 1) bytes)

pub ruleset symbols = (symbol-one, symbol-two, symbol-three)
