-- What the computed tokens of a text cover, and what a fault says.
use Rattle.std.proofs.Common.{◌≡◌, ◌⊎◌, ℕ, zero, suc, ◌+◌, ◌<◌, ◌≤◌, eqb, Bool, true, false, ◌&&◌, List, [], ◌∷◌, ◌++◌}
use Rattle.std.proofs.Common.{length, take, drop, Option, Some, None, option_map, Result, Ok, Err, refl, sym, ap, ◌∙◌}
use Rattle.std.proofs.Common.{arith, subst, inl, inr}
use Rattle.std.specs.List.{list_all}
use Rattle.std.proofs.lemmas.List.{length-drop}
use Rattle.std.proofs.lemmas.Bool.{eqb-true, eq-eqb}
use Rattle.lexer.specs.declared.piece.Shape.{Shape}
use Rattle.lexer.specs.declared.token.Kind.{Kind}
use Rattle.lexer.specs.declared.scan.Next.{Next}
use Rattle.lexer.specs.declared.scan.Next.TheVariants.{Gap, Lexeme, Unclosed, Stray}
use Rattle.lexer.specs.declared.fault.LexFault.{LexFault}
use Rattle.lexer.specs.declared.fault.LexFault.TheVariants.{BadCharacter, BadNumber, UnclosedComment, Memory}
use Rattle.lexer.specs.Lexemes.{shape_of, or_shorter, longest_from, longest_lexeme}
use Rattle.lexer.specs.Runs.{run_length}
use Rattle.lexer.specs.Cutting.{Cut, kind_of, is_space, stays_on_line, begins_with, comment_end, comment_gap}
use Rattle.lexer.specs.Cutting.{next_lexeme, next_token, with_cut, with_token, cut_after, cuts, tokens_of}
use Rattle.lexer.specs.Covering.{EndsLine, BeginsWith, HasNoClose, HasFirstClose, IsGap, white, to_line_end, to_close}
use Rattle.lexer.specs.Covering.{shape_of_text, IsLongest, HasNoToken, HasNoGap, IsCut, at_end, over_gap, over_token}
use Rattle.lexer.specs.Covering.{IsFaulty, behind_gap, behind_token, bad_character, bad_number, unclosed, IsLexFault}
use Rattle.lexer.proofs.LongestLaws.{tells, order, run-le}

-- two bytes in front, by the test and as a fact
pair-is : (a b c : ℕ) (bs : List ℕ) → (eqb c a && begins_with b bs) ≡ true → BeginsWith a b (c ∷ bs)
pair-is a b c bs h = by_first (tells (eqb c a))
  where
    by_second : (bs : List ℕ) → eqb c a ≡ true → begins_with b bs ≡ true → BeginsWith a b (c ∷ bs)
    by_second [] e k = absurd cc
    by_second (d ∷ bs) e k = (eqb-true c a e, eqb-true d b k)

    by_first : (eqb c a ≡ true) ⊎ (eqb c a ≡ false) → BeginsWith a b (c ∷ bs)
    by_first (inl e) = let k = rw e at h in by_second bs e k
    by_first (inr e) = let k = rw e at h in absurd cc

pair-not : (a b c : ℕ) (bs : List ℕ) → (eqb c a && begins_with b bs) ≡ false → BeginsWith a b (c ∷ bs) → ⊥
pair-not a b c [] h w = w
pair-not a b c (d ∷ bs) h w = let k = rw (eq-eqb c a w.0, eq-eqb d b w.1) at h in cc

-- lines
run-take : (p : ℕ → Bool) (bs : List ℕ) → list_all p (take (run_length p bs) bs) ≡ true
unfolding run_length
run-take p [] = refl
run-take p (b ∷ bs) = elim (tells (p b)) [ inl h ↦ rw (h, h) (run-take p bs) | inr h ↦ rw h refl ]

run-ends : (bs : List ℕ) → EndsLine (drop (run_length stays_on_line bs) bs)
unfolding run_length
run-ends [] = tt
run-ends (b ∷ bs) =
    elim (tells (eqb b 10)) [
      | inl h ↦ rw h (eqb-true b 10 h)
      | inr h ↦ rw h (run-ends bs)
    ]

-- comments
record Closes (bs : List ℕ) (n : ℕ) : Type 0 where
  inside : List ℕ
  rest : List ℕ
  parts : bs ≡ inside ++ 42 ∷ 47 ∷ rest
  len : n ≡ length inside + 2
  first : HasFirstClose inside rest

closes-here : (b : ℕ) (bs : List ℕ) → BeginsWith 42 47 (b ∷ bs) → Closes (b ∷ bs) 2
closes-here b [] w = absurd w
closes-here b (c ∷ bs) w = record {
  inside = [];
  rest = bs;
  parts = ap (λ (x : ℕ). x ∷ c ∷ bs) w.0 ∙ ap (λ (x : ℕ). 42 ∷ x ∷ bs) w.1;
  len = refl;
  first = λ n lt. absurd (omega arith);
}

closes-later : (b n : ℕ) (bs : List ℕ) → (BeginsWith 42 47 (b ∷ bs) → ⊥) → Closes bs n → Closes (b ∷ bs) (suc n)
closes-later b n bs apart c = record {
  inside = b ∷ c.inside;
  rest = c.rest;
  parts = ap (λ (xs : List ℕ). b ∷ xs) c.parts;
  len = omega (arith, c.len);
  first =
      by_place b c.inside c.rest (λ w. apart (subst (λ (xs : List ℕ). BeginsWith 42 47 (b ∷ xs)) (sym c.parts) w))
      c.first;
}
  where
    by_place : (b : ℕ) (inside rest : List ℕ) → (BeginsWith 42 47 (b ∷ inside ++ 42 ∷ 47 ∷ rest) → ⊥)
        → HasFirstClose inside rest → HasFirstClose (b ∷ inside) rest
    by_place b inside rest apart more zero lt w = apart w
    by_place b inside rest apart more (suc n) lt w = more n (omega arith) w

option-later : (o : Option ℕ) (n : ℕ) → option_map suc o ≡ Some n → (k : ℕ) × (o ≡ Some k) × (n ≡ suc k)
option-later None n h = absurd cc
option-later (Some k) n h = (k, refl, cc)

option-never : (o : Option ℕ) → option_map suc o ≡ None → o ≡ None
option-never None h = refl
option-never (Some k) h = absurd cc

comment-closes : (bs : List ℕ) (n : ℕ) → comment_end bs ≡ Some n → Closes bs n
unfolding comment_end
comment-closes [] n h = absurd cc
comment-closes (b ∷ bs) n h =
    elim (tells (eqb b 42 && begins_with 47 bs)) [
      | inl e ↦ let k =
          rw e at h in let two : 2 ≡ n = cc (k) in
          subst (λ (m : ℕ). Closes (b ∷ bs) m) two (closes-here b bs (pair-is 42 47 b bs e))
      | inr e ↦
          let k = rw e at h in
          let m = option-later (comment_end bs) n k in
          subst (λ (m : ℕ). Closes (b ∷ bs) m) (sym m.2)
          (closes-later b m.0 bs (pair-not 42 47 b bs e) (comment-closes bs m.0 m.1))
    ]

comment-open : (bs : List ℕ) → comment_end bs ≡ None → HasNoClose bs
unfolding comment_end
comment-open [] h n lt w = absurd (omega arith)
comment-open (b ∷ bs) h n lt w =
    elim (tells (eqb b 42 && begins_with 47 bs)) [
      | inl e ↦ let k = rw e at h in absurd cc
      | inr e ↦ let k =
          rw e at h in by_place (pair-not 42 47 b bs e) (comment-open bs (option-never (comment_end bs) k)) n lt w
    ]
  where
    by_place : (BeginsWith 42 47 (b ∷ bs) → ⊥) → HasNoClose bs → HasNoClose (b ∷ bs)
    by_place apart more zero lt w = apart w
    by_place apart more (suc n) lt w = more n (omega arith) w

take-front : (xs ys : List ℕ) (n : ℕ) → n ≡ length xs + 2 → take n (xs ++ 42 ∷ 47 ∷ ys) ≡ xs ++ 42 ∷ 47 ∷ []
take-front [] ys n e = rw e refl
take-front (x ∷ xs) ys zero e = absurd (omega arith)
take-front (x ∷ xs) ys (suc n) e = ap (λ (zs : List ℕ). x ∷ zs) (take-front xs ys n (omega arith))

drop-front : (xs ys : List ℕ) (n : ℕ) → n ≡ length xs + 2 → drop n (xs ++ 42 ∷ 47 ∷ ys) ≡ ys
drop-front [] ys n e = rw e refl
drop-front (x ∷ xs) ys zero e = absurd (omega arith)
drop-front (x ∷ xs) ys (suc n) e = drop-front xs ys n (omega arith)

front-le : (xs ys : List ℕ) → length xs + 2 ≤ length (xs ++ 42 ∷ 47 ∷ ys)
front-le [] ys = omega arith
front-le (x ∷ xs) ys = omega (arith, front-le xs ys)

-- the longest token
abbrev IsPast : ℕ → List ℕ → ℕ → Type 0
IsPast b bs n = (m : ℕ) → n < m → m ≤ length bs → shape_of b (take m bs) ≡ None

past-longer : (b : ℕ) (bs : List ℕ) (n : ℕ) → IsPast b bs n → (m : ℕ) → suc n < m → m ≤ suc (length bs)
    → shape_of_text (take m (b ∷ bs)) ≡ None
past-longer b bs n past zero lt le = absurd (omega arith)
past-longer b bs n past (suc m) lt le = past m (omega arith) (omega arith)

longest-here : (b : ℕ) (bs : List ℕ) (n : ℕ) (s : Shape) → n ≤ length bs → IsPast b bs n → shape_of b (take n bs)
    ≡ Some s → IsLongest (b ∷ bs) (suc n) s
longest-here b bs n s le past h =
    record { some = omega arith; inside = omega arith; is = h; longer = past-longer b bs n past }

past-more : (b : ℕ) (bs : List ℕ) (n : ℕ) → IsPast b bs (suc n) → shape_of b (take (suc n) bs) ≡ None → IsPast b bs n
past-more b bs n past h m lt le =
    elim (order m (suc n)) [
      | inl up ↦ let e : m ≡ suc n = omega arith in
          subst (λ (k : ℕ). shape_of b (take k bs) ≡ None) (sym e) h
      | inr down ↦ past m down le
    ]

longest_from-is : (b : ℕ) (bs : List ℕ) (n : ℕ) (r : ℕ × Shape) → n ≤ length bs → IsPast b bs n → longest_from b bs n
    ≡ Some r → IsLongest (b ∷ bs) r.0 r.1
unfolding longest_from
longest_from-is b bs zero r le past h = by_shape (shape_of b []) refl h
  where
    by_shape : (o : Option Shape) → shape_of b [] ≡ o → or_shorter o 1 None ≡ Some r → IsLongest (b ∷ bs) r.0 r.1
    by_shape None e k = absurd cc
    by_shape (Some s) e k =
        let same : (1, s) ≡ r = cc (k) in subst (λ (x : ℕ × Shape). IsLongest (b ∷ bs) x.0 x.1) same
        (longest-here b bs 0 s le past e)
longest_from-is b bs (suc n) r le past h =
    by_shape (shape_of b (take (suc n) bs)) refl
    (λ e k. longest_from-is b bs n r (omega arith) (past-more b bs n past e) k) h
  where
    by_shape : (o : Option Shape) → shape_of b (take (suc n) bs) ≡ o
        → (shape_of b (take (suc n) bs) ≡ None → longest_from b bs n ≡ Some r → IsLongest (b ∷ bs) r.0 r.1)
        → or_shorter o (suc (suc n)) (longest_from b bs n) ≡ Some r → IsLongest (b ∷ bs) r.0 r.1
    by_shape None e more k = more e k
    by_shape (Some s) e more k =
        let same : (suc (suc n), s) ≡ r = cc (k) in subst (λ (x : ℕ × Shape). IsLongest (b ∷ bs) x.0 x.1) same
        (longest-here b bs (suc n) s le past e)

longest_from-none : (b : ℕ) (bs : List ℕ) (n : ℕ) → longest_from b bs n ≡ None → (m : ℕ) → m ≤ n
    → shape_of b (take m bs) ≡ None
unfolding longest_from
longest_from-none b bs zero h m le =
    let e : m ≡ 0 = omega arith in subst (λ (k : ℕ). shape_of b (take k bs) ≡ None) (sym e)
    (by_shape (shape_of b []) refl h)
  where
    by_shape : (o : Option Shape) → shape_of b [] ≡ o → or_shorter o 1 None ≡ None → shape_of b [] ≡ None
    by_shape None e k = e
    by_shape (Some s) e k = absurd cc
longest_from-none b bs (suc n) h m le = by_shape (shape_of b (take (suc n) bs)) refl (λ k. longest_from-none b bs n k) h
  where
    by_shape : (o : Option Shape) → shape_of b (take (suc n) bs) ≡ o
        → (longest_from b bs n ≡ None → (m : ℕ) → m ≤ n → shape_of b (take m bs) ≡ None)
        → or_shorter o (suc (suc n)) (longest_from b bs n) ≡ None → shape_of b (take m bs) ≡ None
    by_shape (Some s) e more k = absurd cc
    by_shape None e more k =
        elim (order m n) [
          | inl below ↦ more k m below
          | inr up ↦ let same : m ≡ suc n = omega arith in
              subst (λ (j : ℕ). shape_of b (take j bs) ≡ None) (sym same) e
        ]

-- what comes next, as a fact
abbrev IsNext : List ℕ → Next → Type 0
IsNext bytes (Gap n) = (0 < n) × (n ≤ length bytes) × IsGap (take n bytes) (drop n bytes)
IsNext bytes (Lexeme n s) = HasNoGap bytes × IsLongest bytes n s
IsNext bytes Unclosed = BeginsWith 47 42 bytes × HasNoClose (drop 2 bytes)
IsNext bytes Stray = (0 < length bytes) × HasNoGap bytes × HasNoToken bytes

next-line : (b : ℕ) (bs : List ℕ) → BeginsWith 47 47 (b ∷ bs)
    → IsNext (b ∷ bs) (Gap (suc (run_length stays_on_line bs)))
unfolding run_length
next-line b [] w = absurd w
next-line b (c ∷ bs) w =
    let second : run_length stays_on_line (c ∷ bs) ≡ suc (run_length stays_on_line bs) = rw w.1 refl in
    let front : (b ∷ c ∷ take (run_length stays_on_line bs) bs) ≡ (47 ∷ 47 ∷ take (run_length stays_on_line bs) bs) =
    ap (λ (x : ℕ). x ∷ c ∷ take (run_length stays_on_line bs) bs) w.0
    ∙ ap (λ (x : ℕ). 47 ∷ x ∷ take (run_length stays_on_line bs) bs) w.1 in
    subst (λ (n : ℕ). IsNext (b ∷ c ∷ bs) (Gap (suc n))) (sym second) (
      omega arith,
      omega (arith, run-le stays_on_line bs),
      subst (λ (xs : List ℕ). IsGap xs (drop (run_length stays_on_line bs) bs)) (sym front)
          (to_line_end (run-take stays_on_line bs) (run-ends bs)),
    )

comment-gap : (b c n : ℕ) (bs : List ℕ) → b ≡ 47 → c ≡ 42 → Closes bs n → IsNext (b ∷ c ∷ bs) (Gap (2 + n))
comment-gap b c n bs e f k =
    let front : take n bs ≡ k.inside ++ 42 ∷ 47 ∷ [] = ap (take n) k.parts ∙ take-front k.inside k.rest n k.len in
    let back : drop n bs ≡ k.rest = ap (drop n) k.parts ∙ drop-front k.inside k.rest n k.len in
    let two : 2 + n ≡ suc (suc n) = omega arith in
    subst (λ (m : ℕ). IsNext (b ∷ c ∷ bs) (Gap m)) (sym two) (
      omega arith,
      omega (arith, k.len, front-le k.inside k.rest, ap length k.parts),
      rw (e, f, front, back) (to_close k.inside k.first),
    )

next-comment : (b : ℕ) (bs : List ℕ) → BeginsWith 47 42 (b ∷ bs)
    → IsNext (b ∷ bs) (comment_gap (comment_end (drop 1 bs)))
next-comment b [] w = absurd w
next-comment b (c ∷ bs) w = by_end (comment_end bs) refl
  where
    by_end : (o : Option ℕ) → comment_end bs ≡ o → IsNext (b ∷ c ∷ bs) (comment_gap o)
    by_end None e = (w, comment-open bs e)
    by_end (Some n) e = comment-gap b c n bs w.0 w.1 (comment-closes bs n e)

next-found : (b : ℕ) (bs : List ℕ) → HasNoGap (b ∷ bs) → IsNext (b ∷ bs) (next_lexeme (longest_lexeme b bs))
unfolding longest_lexeme
next-found b bs apart = by_token (longest_from b bs (length bs)) refl
  where
    by_token : (o : Option (ℕ × Shape)) → longest_from b bs (length bs) ≡ o → IsNext (b ∷ bs) (next_lexeme o)
    by_token None e = (omega arith, apart, λ m le. none m le e)
      where
        none : (m : ℕ) → m ≤ suc (length bs) → longest_from b bs (length bs) ≡ None → shape_of_text (take m (b ∷ bs))
            ≡ None
        none zero le k = refl
        none (suc m) le k = longest_from-none b bs (length bs) k m (omega arith)
    by_token (Some r) e = (apart, longest_from-is b bs (length bs) r (omega arith) (λ m lt le. absurd (omega arith)) e)

no_gap : (b : ℕ) (bs : List ℕ) → is_space b ≡ false → (eqb b 47 && begins_with 47 bs) ≡ false
    → (eqb b 47 && begins_with 42 bs) ≡ false → HasNoGap (b ∷ bs)
no_gap b bs h k l = record {
  no_line = pair-not 47 47 b bs k;
  no_comment = pair-not 47 42 b bs l;
  no_space = λ c cs e. let same : b ≡ c = cc in subst (λ (x : ℕ). is_space x ≡ false) same h;
}

pub next-is : (b : ℕ) (bs : List ℕ) → IsNext (b ∷ bs) (next_token b bs)
unfolding next_token
next-is b bs =
    elim (tells (is_space b)) [
      | inl h ↦ rw h (omega arith, omega arith, white h)
      | inr h ↦
          elim (tells (eqb b 47 && begins_with 47 bs)) [
            | inl k ↦ rw (h, k) (next-line b bs (pair-is 47 47 b bs k))
            | inr k ↦
                elim (tells (eqb b 47 && begins_with 42 bs)) [
                  | inl l ↦ rw (h, k, l) (next-comment b bs (pair-is 47 42 b bs l))
                  | inr l ↦ rw (h, k, l) (next-found b bs (no_gap b bs h k l))
                ]
          ]
    ]

-- what was cut is so
abbrev IsAnswer : ℕ → List ℕ → Result (List Cut) LexFault → Type 0
IsAnswer at bytes (Ok tokens) = IsCut at bytes tokens
IsAnswer at bytes (Err (BadCharacter byte)) = IsFaulty at bytes (BadCharacter byte)
IsAnswer at bytes (Err (BadNumber byte)) = IsFaulty at bytes (BadNumber byte)
IsAnswer at bytes (Err (UnclosedComment byte)) = IsFaulty at bytes (UnclosedComment byte)
IsAnswer at bytes (Err Memory) = ⊥

answer-gap : (at n : ℕ) (bytes : List ℕ) (r : Result (List Cut) LexFault) → 0 < n → n ≤ length bytes
    → IsGap (take n bytes) (drop n bytes) → IsAnswer (at + n) (drop n bytes) r → IsAnswer at bytes r
answer-gap at n bytes (Ok tokens) some le g a = over_gap some le g a
answer-gap at n bytes (Err (BadCharacter byte)) some le g a = behind_gap some le g a
answer-gap at n bytes (Err (BadNumber byte)) some le g a = behind_gap some le g a
answer-gap at n bytes (Err (UnclosedComment byte)) some le g a = behind_gap some le g a
answer-gap at n bytes (Err Memory) some le g a = a

answer-token : (at n : ℕ) (bytes : List ℕ) (s : Shape) (k : Kind) (r : Result (List Cut) LexFault) → HasNoGap bytes
    → IsLongest bytes n s → kind_of s (take n bytes) ≡ Some k → IsAnswer (at + n) (drop n bytes) r
    → IsAnswer at bytes (with_cut (record { kind = k; at = at; text = take n bytes }) r)
answer-token at n bytes s k (Ok tokens) apart l e a = over_token apart l e a
answer-token at n bytes s k (Err (BadCharacter byte)) apart l e a = behind_token apart l e a
answer-token at n bytes s k (Err (BadNumber byte)) apart l e a = behind_token apart l e a
answer-token at n bytes s k (Err (UnclosedComment byte)) apart l e a = behind_token apart l e a
answer-token at n bytes s k (Err Memory) apart l e a = a

answer-after : (at : ℕ) (bytes : List ℕ) (x : Next) (go : ℕ → Result (List Cut) LexFault) → IsNext bytes x
    → ((n : ℕ) → 0 < n → n ≤ length bytes → IsAnswer (at + n) (drop n bytes) (go n))
    → IsAnswer at bytes (cut_after x at bytes go)
answer-after at bytes (Gap n) go next more = answer-gap at n bytes (go n) next.0 next.1 next.2 (more n next.0 next.1)
answer-after at bytes (Lexeme n s) go next more = by_kind (kind_of s (take n bytes)) refl
  where
    by_kind : (o : Option Kind) → kind_of s (take n bytes) ≡ o
        → IsAnswer at bytes (with_token o at (take n bytes) (go n))
    by_kind None e = bad_number next.0 next.1 e
    by_kind (Some k) e = answer-token at n bytes s k (go n) next.0 next.1 e (more n next.1.some next.1.inside)
answer-after at bytes Unclosed go next more = unclosed next.0 next.1
answer-after at bytes Stray go next more = bad_character next.0 next.1 next.2

cuts-answer : (turns at : ℕ) (bytes : List ℕ) → length bytes ≤ turns → IsAnswer at bytes (cuts turns at bytes)
unfolding cuts
cuts-answer zero at [] le = at_end
cuts-answer (suc turns) at [] le = at_end
cuts-answer zero at (b ∷ bs) le = absurd (omega arith)
cuts-answer (suc turns) at (b ∷ bs) le =
    answer-after at (b ∷ bs) (next_token b bs) (λ n. cuts turns (at + n) (drop n (b ∷ bs))) (next-is b bs)
    (λ n some inside. cuts-answer turns (at + n) (drop n (b ∷ bs)) (omega (arith, length-drop n (b ∷ bs))))

answer : (bytes : List ℕ) → IsAnswer 0 bytes (tokens_of bytes)
unfolding tokens_of
answer bytes = cuts-answer (length bytes) 0 bytes (omega arith)

pub tokens_of-covered : (bytes : List ℕ) (tokens : List Cut) → tokens_of bytes ≡ Ok tokens → IsCut 0 bytes tokens
tokens_of-covered bytes tokens h = subst (λ (r : Result (List Cut) LexFault). IsAnswer 0 bytes r) h (answer bytes)

pub tokens_of-faulty : (bytes : List ℕ) (fault : LexFault) → tokens_of bytes ≡ Err fault → IsLexFault bytes fault
tokens_of-faulty bytes Memory h = tt
tokens_of-faulty bytes (BadCharacter at) h =
    subst (λ (r : Result (List Cut) LexFault). IsAnswer 0 bytes r) h (answer bytes)
tokens_of-faulty bytes (BadNumber at) h =
    subst (λ (r : Result (List Cut) LexFault). IsAnswer 0 bytes r) h (answer bytes)
tokens_of-faulty bytes (UnclosedComment at) h =
    subst (λ (r : Result (List Cut) LexFault). IsAnswer 0 bytes r) h (answer bytes)

pub tokens_of-memory : (bytes : List ℕ) → tokens_of bytes ≡ Err Memory → ⊥
tokens_of-memory bytes h = subst (λ (r : Result (List Cut) LexFault). IsAnswer 0 bytes r) h (answer bytes)

pub tokens_of-first : (bytes : List ℕ) (fault : LexFault) → tokens_of bytes ≡ Err fault → IsFaulty 0 bytes fault
tokens_of-first bytes Memory h = absurd (tokens_of-memory bytes h)
tokens_of-first bytes (BadCharacter at) h = tokens_of-faulty bytes (BadCharacter at) h
tokens_of-first bytes (BadNumber at) h = tokens_of-faulty bytes (BadNumber at) h
tokens_of-first bytes (UnclosedComment at) h = tokens_of-faulty bytes (UnclosedComment at) h
