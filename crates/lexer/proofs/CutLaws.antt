-- Cutting, a step at a time.
use Rattle.std.proofs.Common.{◌≡◌, ◌⊎◌, ℕ, zero, suc, ◌+◌, ◌-◌, ◌<◌, ◌≤◌, eqb, Bool, true, false, ◌&&◌, List, [], ◌∷◌}
use Rattle.std.proofs.Common.{◌++◌, length, get_or, take, drop, map, Option, Some, None, option_map, Result, Ok, Err}
use Rattle.std.proofs.Common.{refl, sym, ap, ◌∙◌, arith, add-one, inl, inr}
use Rattle.std.proofs.Math.Seq.{drop-cons}
use Rattle.std.proofs.Math.ListN.{drop_of_length-le}
use Rattle.std.proofs.lemmas.Bool.{ne_eqb, eq-eqb}
use Rattle.std.proofs.lemmas.List.{length-drop}
use Rattle.lexer.specs.declared.token.Token.{Token}
use Rattle.lexer.specs.declared.scan.Next.{Next}
use Rattle.lexer.specs.declared.scan.Next.TheVariants.{Gap, Lexeme, Unclosed, Stray}
use Rattle.lexer.specs.declared.fault.LexFault.{LexFault}
use Rattle.lexer.specs.Lexemes.{longest_lexeme}
use Rattle.lexer.specs.Runs.{run_length}
use Rattle.lexer.specs.Cutting.{Cut, cut_of, is_space, stays_on_line, begins_with, comment_end, comment_gap}
use Rattle.lexer.specs.Cutting.{next_lexeme, next_token, with_cut, with_token, kind_of, end_at, cut_after, cuts}

order : (a b : ℕ) → (a < b) ⊎ (b ≤ a)
order zero zero = inr (omega arith)
order zero (suc b) = inl (omega arith)
order (suc a) zero = inr (omega arith)
order (suc a) (suc b) = elim (order a b) [ inl h ↦ inl (omega arith) | inr h ↦ inr (omega arith) ]

drop-nil : (n : ℕ) → drop {A = ℕ} n [] ≡ []
drop-nil zero = refl
drop-nil (suc n) = refl

pub drop-drop : (bs : List ℕ) (i n : ℕ) → drop n (drop i bs) ≡ drop (i + n) bs
drop-drop bs zero n = let e : n ≡ 0 + n = omega arith in ap (λ (k : ℕ). drop k bs) e
drop-drop [] (suc i) n = drop-nil n ∙ sym (drop-nil (suc i + n))
drop-drop (b ∷ bs) (suc i) n =
    let e : suc (i + n) ≡ suc i + n = omega arith in drop-drop bs i n ∙ ap (λ (k : ℕ). drop k (b ∷ bs)) e

pub comment-none : (bs : List ℕ) → bs ≡ [] → comment_end bs ≡ None
unfolding comment_end
comment-none bs e = rw e refl

-- so much later
abbrev pub later : ℕ → Option ℕ → Option ℕ
later n o = option_map (λ k. n + k) o

pub later-zero : (o : Option ℕ) → o ≡ later 0 o
later-zero None = refl
later-zero (Some k) = ap (λ (n : ℕ). Some n) (omega arith)

later-suc : (n m : ℕ) (o : Option ℕ) → m ≡ n + 1 → later n (option_map suc o) ≡ later m o
later-suc n m None e = refl
later-suc n m (Some k) e = ap (λ (n : ℕ). Some n) (omega arith)

pub begins_with-no : (bytes : List ℕ) (i c : ℕ) → (i < length bytes → get_or bytes i 0 ≡ c → ⊥)
    → begins_with c (drop i bytes) ≡ false
begins_with-no bytes i c h =
    elim (order i (length bytes)) [
      | inl lt ↦ rw (drop-cons bytes i 0 lt) (ne_eqb _ c (h lt))
      | inr ge ↦ rw (drop_of_length-le bytes ge) refl
    ]

pub begins_with-is : (bytes : List ℕ) (i c : ℕ) → i < length bytes → get_or bytes i 0 ≡ c → begins_with c (drop i bytes)
    ≡ true
begins_with-is bytes i c lt h = rw (drop-cons bytes i 0 lt) (eq-eqb _ c h)

module _ (bytes : List ℕ) (i : ℕ) (lt : i < length bytes) where
  cell : drop i bytes ≡ get_or bytes i 0 ∷ drop (i + 1) bytes
  cell = rw add-one (drop-cons bytes i 0 lt)

  pub comment-here : true ≡ (eqb (get_or bytes i 0) 42 && begins_with 47 (drop (i + 1) bytes))
      → comment_end (drop i bytes) ≡ Some 2
  unfolding comment_end
  comment-here h = ap comment_end cell ∙ rw (← h) refl

  comment-on : false ≡ (eqb (get_or bytes i 0) 42 && begins_with 47 (drop (i + 1) bytes)) → comment_end (drop i bytes)
      ≡ option_map suc (comment_end (drop (i + 1) bytes))
  unfolding comment_end
  comment-on h = ap comment_end cell ∙ rw (← h) refl

  -- one more byte inside a comment
  pub comment-more : (total : Option ℕ) (start : ℕ) → start ≤ i
      → false ≡ (eqb (get_or bytes i 0) 42 && begins_with 47 (drop (i + 1) bytes))
      → total ≡ later (i - start) (comment_end (drop i bytes))
      → total ≡ later (i + 1 - start) (comment_end (drop (i + 1) bytes))
  comment-more total start low h e =
      e ∙ ap (later (i - start)) (comment-on h)
      ∙ later-suc (i - start) (i + 1 - start) (comment_end (drop (i + 1) bytes)) (omega arith)

-- pieces in front of others
abbrev pub cuts_behind : List Token → Result (List Cut) LexFault → Result (List Cut) LexFault
cuts_behind [] r = r
cuts_behind (p ∷ ps) r = with_cut (cut_of p) (cuts_behind ps r)

pub cuts_behind-push : (ps : List Token) (p : Token) (r : Result (List Cut) LexFault)
    → cuts_behind ps (with_cut (cut_of p) r) ≡ cuts_behind (ps ++ p ∷ []) r
cuts_behind-push [] p r = refl
cuts_behind-push (q ∷ ps) p r = ap (with_cut (cut_of q)) (cuts_behind-push ps p r)

pub cuts_behind-end : (ps : List Token) (p : Token) → cuts_behind ps (Ok (cut_of p ∷ []))
    ≡ Ok (map cut_of (ps ++ p ∷ []))
cuts_behind-end [] p = refl
cuts_behind-end (q ∷ ps) p = ap (with_cut (cut_of q)) (cuts_behind-end ps p)

pub cuts_behind-err : (ps : List Token) (f : LexFault) → cuts_behind ps (Err f) ≡ Err f
cuts_behind-err [] f = refl
cuts_behind-err (p ∷ ps) f = ap (with_cut (cut_of p)) (cuts_behind-err ps f)

pub cuts-end : (turns at : ℕ) (bs : List ℕ) → bs ≡ [] → cuts turns at bs ≡ Ok (end_at at ∷ [])
unfolding cuts
cuts-end zero at bs e = rw e refl
cuts-end (suc turns) at bs e = rw e refl

-- one turn
pub cuts-turn : (turns at : ℕ) (bytes : List ℕ) (x : Next) → at < length bytes → length (drop at bytes) ≤ turns
    → x ≡ next_token (get_or bytes at 0) (drop (at + 1) bytes)
    → cuts turns at (drop at bytes)
    ≡ cut_after x at (drop at bytes) (λ n. cuts (turns - 1) (at + n) (drop (at + n) bytes))
unfolding cuts
cuts-turn zero at bytes x lt le e = absurd (omega (arith, length-drop at bytes))
cuts-turn (suc turns) at bytes x lt le e =
    let cell : drop at bytes ≡ get_or bytes at 0 ∷ drop (at + 1) bytes = rw add-one (drop-cons bytes at 0 lt) in
    let less : suc turns - 1 ≡ turns = omega arith in
    rw less (ap (cuts (suc turns) at) cell
    ∙ ap (λ (y : Next). cut_after y at (get_or bytes at 0 ∷ drop (at + 1) bytes)
    (λ n. cuts turns (at + n) (drop n (get_or bytes at 0 ∷ drop (at + 1) bytes)))) (sym e)
    ∙ ap (λ (r : List ℕ). cut_after x at r (λ n. cuts turns (at + n) (drop n r))) (sym cell)
    ∙ moved x turns at bytes)
  where
    moved : (x : Next) (turns at : ℕ) (bytes : List ℕ)
        → cut_after x at (drop at bytes) (λ n. cuts turns (at + n) (drop n (drop at bytes)))
        ≡ cut_after x at (drop at bytes) (λ n. cuts turns (at + n) (drop (at + n) bytes))
    moved (Gap n) turns at bytes = ap (cuts turns (at + n)) (drop-drop bytes at n)
    moved (Lexeme n s) turns at bytes =
        ap (λ (r : List ℕ). with_token (kind_of s (take n (drop at bytes))) at (take n (drop at bytes))
        (cuts turns (at + n) r)) (drop-drop bytes at n)
    moved Unclosed turns at bytes = refl
    moved Stray turns at bytes = refl

-- what comes next
module _ (bytes : List ℕ) (at : ℕ) where
  pub next-space : true ≡ is_space (get_or bytes at 0) → next_token (get_or bytes at 0) (drop (at + 1) bytes) ≡ Gap 1
  unfolding next_token
  next-space h = rw (← h) refl

  abbrev pair : ℕ → Bool
  pair c = eqb (get_or bytes at 0) 47 && begins_with c (drop (at + 1) bytes)

  module _ (h : false ≡ is_space (get_or bytes at 0)) where
    pub next-line : true ≡ pair 47 → next_token (get_or bytes at 0) (drop (at + 1) bytes)
        ≡ Gap (suc (run_length stays_on_line (drop (at + 1) bytes)))
    unfolding next_token
    next-line k = rw (← h, ← k) refl

    module _ (no_line : false ≡ pair 47) where
      pub next-comment : true ≡ pair 42 → next_token (get_or bytes at 0) (drop (at + 1) bytes)
          ≡ comment_gap (comment_end (drop (at + 2) bytes))
      unfolding next_token
      next-comment k =
          let two : at + 1 + 1 ≡ at + 2 = omega arith in
          rw (← h, ← no_line, ← k)
          (ap (λ (bs : List ℕ). comment_gap (comment_end bs))
          (drop-drop bytes (at + 1) 1 ∙ ap (λ (i : ℕ). drop i bytes) two))

      pub next-token : false ≡ pair 42 → next_token (get_or bytes at 0) (drop (at + 1) bytes)
          ≡ next_lexeme (longest_lexeme (get_or bytes at 0) (drop (at + 1) bytes))
      unfolding next_token
      next-token k = rw (← h, ← no_line, ← k) refl

pub ruleset cutting = (comment-none, next-space, begins_with-is)
