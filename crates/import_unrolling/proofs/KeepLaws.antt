-- Words and bytes, one after another.
use Rattle.std.proofs.Common.{◌≡◌, ℕ, suc, ◌+◌, ◌<◌, ◌≤◌, true, false, List, [], ◌∷◌, ◌++◌, length, drop, get_or, refl}
use Rattle.std.proofs.Common.{sym, ap, ◌∙◌, add-one, append_assoc, append-nil, drop-cons}
use Rattle.std.proofs.lemmas.Bool.{eq-eqb, ne_eqb}
use Rattle.std.proofs.Math.ListN.{drop_of_length-le}
use Rattle.import_tokens.specs.declared.token.Token.{Token}
use Rattle.import_scopes.specs.Words.{begins_assertion}
use Rattle.import_unrolling.specs.Unrolled.{word_bytes, is_loop, has_loop, is_among, Unrolls}

module _ (tokens : List Token) (place : ℕ) (d : Token) (lt : place < length tokens) where
  cell : drop place tokens ≡ get_or tokens place d ∷ drop (place + 1) tokens
  cell = rw add-one (drop-cons tokens place d lt)

  pub word_here : begins_assertion (get_or tokens place d).kind ≡ true → word_bytes (drop place tokens)
      ≡ (get_or tokens place d).at ∷ word_bytes (drop (place + 1) tokens)
  unfolding word_bytes
  word_here h = ap word_bytes cell ∙ rw h refl

  pub no_word_here : begins_assertion (get_or tokens place d).kind ≡ false → word_bytes (drop place tokens)
      ≡ word_bytes (drop (place + 1) tokens)
  unfolding word_bytes
  no_word_here h = ap word_bytes cell ∙ rw h refl

  pub loop_here : is_loop (get_or tokens place d).kind ≡ true → has_loop (drop place tokens) ≡ true
  unfolding has_loop
  loop_here h = ap has_loop cell ∙ rw h refl

  pub no_loop_here : is_loop (get_or tokens place d).kind ≡ false → has_loop (drop place tokens)
      ≡ has_loop (drop (place + 1) tokens)
  unfolding has_loop
  no_loop_here h = ap has_loop cell ∙ rw h refl

pub bytes_more : (bytes after : List ℕ) (b : ℕ) (here rest all : List ℕ) → all ≡ bytes ++ here → here ≡ b ∷ rest
    → after ≡ bytes ++ b ∷ [] → all ≡ after ++ rest
bytes_more bytes after b here rest all so_far is e =
    so_far ∙ ap (λ (bs : List ℕ). bytes ++ bs) is ∙ sym (append_assoc bytes (b ∷ []) rest)
    ∙ ap (λ (bs : List ℕ). bs ++ rest) (sym e)

pub bytes_all : (tokens : List Token) (bytes : List ℕ) (place : ℕ) (all : List ℕ) → length tokens ≤ place
    → all ≡ bytes ++ word_bytes (drop place tokens) → bytes ≡ all
unfolding word_bytes
bytes_all tokens bytes place all le so_far =
    sym (so_far ∙ ap (λ (ts : List Token). bytes ++ word_bytes ts) (drop_of_length-le tokens le)
    ∙ append-nil bytes)

pub no_loop_left : (tokens : List Token) (place : ℕ) → length tokens ≤ place
    → has_loop (drop place tokens) ≡ false
unfolding has_loop
no_loop_left tokens place le = ap has_loop (drop_of_length-le tokens le)

module _ (some all : List ℕ) (next place : ℕ) where
  pub among_over : length some ≤ next → is_among (drop next some) (drop place all) ≡ true
  unfolding is_among
  among_over le = ap (λ (xs : List ℕ). is_among xs (drop place all)) (drop_of_length-le some le)

  module _ (lt : next < length some) (lt-all : place < length all) where
    abbrev x : ℕ
    x = get_or some next 0

    abbrev y : ℕ
    y = get_or all place 0

    first : drop next some ≡ x ∷ drop (next + 1) some
    first = rw add-one (drop-cons some next 0 lt)

    cells : is_among (drop next some) (drop place all)
        ≡ is_among (x ∷ drop (next + 1) some) (y ∷ drop (place + 1) all)
    cells =
        ap (λ (xs : List ℕ). is_among xs (drop place all)) first
        ∙ ap (λ (ys : List ℕ). is_among (x ∷ drop (next + 1) some) ys) (rw add-one (drop-cons all place 0 lt-all))

    pub among_taken : get_or some next 0 ≡ get_or all place 0 → is_among (drop next some) (drop place all)
        ≡ is_among (drop (next + 1) some) (drop (place + 1) all)
    unfolding is_among
    among_taken e = cells ∙ rw (eq-eqb x y e) refl

    pub among_passed : (get_or some next 0 ≡ get_or all place 0 → ⊥) → is_among (drop next some) (drop place all)
        ≡ is_among (drop next some) (drop (place + 1) all)
    unfolding is_among
    among_passed differ =
        cells ∙ rw (ne_eqb x y differ) refl
        ∙ ap (λ (xs : List ℕ). is_among xs (drop (place + 1) all)) (sym first)

pub among_same : (xs : List ℕ) → is_among xs xs ≡ true
unfolding is_among
among_same [] = refl
among_same (x ∷ xs) = rw (eq-eqb x x refl) (among_same xs)

pub unrolls_same : (tokens all : List Token) → all ≡ tokens → Unrolls tokens all
unrolls_same tokens all e =
    rw e (record {
      kept = among_same (word_bytes tokens);
      once = λ none. refl;
    })
