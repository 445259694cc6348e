-- What is read as a tree is spelled by it.
use Rattle.std.proofs.Common.{◌≡◌, ◌⊎◌, ℕ, zero, suc, Bool, true, false, cond, List, [], ◌∷◌, Option, Some, None, refl}
use Rattle.std.proofs.Common.{sym, ◌∙◌, subst, inl, inr}
use Rattle.std.proofs.lemmas.Bool.{eqb-true}
use Rattle.lexer.specs.declared.token.Number.{Number}
use Rattle.lexer.specs.declared.token.Token.{Token}
use Rattle.lexer.specs.declared.token.Symbol.TheVariants as symbol
use Rattle.lexer.specs.declared.token.Kind.{Kind}
use Rattle.lexer.specs.declared.token.Kind.TheVariants as kind
use Rattle.parser_grammar.specs.declared.bound.Bound.{Bound}
use Rattle.parser_grammar.specs.declared.bound.Index.{Index}
use Rattle.parser_grammar.specs.declared.bound.Select.{Select}
use Rattle.parser_grammar.specs.declared.mark.Function.{Function}
use Rattle.parser_grammar.specs.declared.mark.Mark.{Mark}
use Rattle.parser_grammar.specs.declared.mark.Mark.TheVariants as marks
use Rattle.parser_grammar.specs.declared.operator.Infix.{Infix}
use Rattle.parser_grammar.specs.declared.operator.Prefix.{Prefix}
use Rattle.parser_grammar.specs.declared.operator.Prefix.TheVariants as prefix
use Rattle.parser_grammar.specs.declared.terminal.Terminal.{Terminal}
use Rattle.parser_grammar.specs.declared.terminal.Terminal.TheVariants as words
use Rattle.parser_grammar.specs.declared.terminal.Terminal.TheVariants.{OpenRound, CloseRound, CloseBrace, OpenSquare}
use Rattle.parser_grammar.specs.declared.terminal.Terminal.TheVariants.{CloseSquare, Comma, Colon, Dot}
use Rattle.parser_grammar.specs.Terminals.{terminal, names, is, is_name, is_word}
use Rattle.parser_grammar.specs.Bounds.{index, bound_within}
use Rattle.parser_grammar.specs.Operators.{infix_of, is_infix}
use Rattle.parser_grammar.specs.Marks.{mark, mark_of_terminal, mark_of_operator, mark_of_number, precedence}
use Rattle.parser_grammar.specs.Marks.{has_precedence}
use Rattle.parser_grammar.specs.Trees.{Tree, number, path, concatenation, past, call, unary, choice, end}
use Rattle.parser_grammar.specs.Expressions.{AreMembers, no_member, member, IsPath, name, IsSelected, whole, bit, bits}
use Rattle.parser_grammar.specs.Expressions.{IsTicks, one_tick, some_ticks, Operand, is_number, is_path}
use Rattle.parser_grammar.specs.Expressions.{is_concatenation}
use Rattle.parser_grammar.specs.Expressions.{in_brackets, is_past, is_call, is_unary, is_tighter, is_chain, Follows}
use Rattle.parser_grammar.specs.Expressions.{no_more}
use Rattle.parser_grammar.specs.Expressions.{one_more, AreParts, no_parts, one_part, Spells, is_operand, is_choice}
use Rattle.parser_grammar.specs.Readers.{◌>>=◌, Reader, lead, expect, pick, optional, each}
use Rattle.parser_grammar.specs.ReadExpressions.{name_of, word_of, members, path_words, select, links_of, parts_of}
use Rattle.parser_grammar.specs.ReadExpressions.{name_reader, bracket_reader, concatenation_reader, past_reader}
use Rattle.parser_grammar.specs.ReadExpressions.{call_reader}
use Rattle.parser_grammar.specs.ReadExpressions.{prefix_reader, prefixed_by, prefixed_with, link_reader, links}
use Rattle.parser_grammar.specs.ReadExpressions.{chain_of}
use Rattle.parser_grammar.specs.ReadExpressions.{level, choice_by, choice_with, expr_with, readers}
use Rattle.parser_grammar.proofs.TerminalLaws.{is-true}
use Rattle.parser_grammar.proofs.ReaderLaws.{Reads, bind-some, bind-then, lead-some, expect-some, pick-some, IsOptional}
use Rattle.parser_grammar.proofs.ReaderLaws.{absent, present, optional-sound, each-sound}
use Rattle.parser_grammar.proofs.Complete.{level-zero, level-suc, expr-is, infix-level}

-- words
pub word-some : (t a : Token) → word_of t ≡ Some a → (is_word t ≡ true) × (t ≡ a)
unfolding word_of
word-some t a h = by_test (is_word t) h
  where
    by_test : (b : Bool) → cond b (Some t) None ≡ Some a → (b ≡ true) × (t ≡ a)
    by_test true k = (refl, cc)
    by_test false k = absurd cc

pub name-some : (t a : Token) → name_of t ≡ Some a → (is_name t ≡ true) × (t ≡ a)
unfolding name_of
name-some t a h = by_test (is_name t) h
  where
    by_test : (b : Bool) → cond b (Some t) None ≡ Some a → (b ≡ true) × (t ≡ a)
    by_test true k = (refl, cc)
    by_test false k = absurd cc

record IsPrefix (m : Mark) : Type 0 where
  operator : Prefix
  is : m ≡ marks.Prefix operator

operator-mark : (k : Kind) → IsPrefix (mark_of_operator k) ⊎ (mark_of_operator k ≡ marks.Other)
operator-mark (kind.Symbol symbol.Bang) = inl (record { operator = prefix.Not; is = refl })
operator-mark (kind.Symbol symbol.Tilde) = inl (record { operator = prefix.Complement; is = refl })
operator-mark (kind.Symbol symbol.And) = inl (record { operator = prefix.And; is = refl })
operator-mark (kind.Symbol symbol.Nand) = inl (record { operator = prefix.Nand; is = refl })
operator-mark (kind.Symbol symbol.Or) = inl (record { operator = prefix.Or; is = refl })
operator-mark (kind.Symbol symbol.Nor) = inl (record { operator = prefix.Nor; is = refl })
operator-mark (kind.Symbol symbol.Xor) = inl (record { operator = prefix.Xor; is = refl })
operator-mark (kind.Symbol symbol.Xnor) = inl (record { operator = prefix.Xnor; is = refl })
operator-mark (kind.Symbol symbol.XnorCaret) = inl (record { operator = prefix.Xnor; is = refl })
operator-mark _ = inr refl

no_operator : (k : Kind) (m : Mark) → mark_of_operator k ≡ m → ((op : Prefix) → marks.Prefix op ≡ m → ⊥)
    → (marks.Other ≡ m → ⊥) → ⊥
no_operator k m h p o = elim (operator-mark k) [ inl e ↦ p e.operator (sym e.is ∙ h) | inr e ↦ o (sym e ∙ h) ]

no_number : (k : Kind) (m : Mark) → mark_of_number k ≡ m → ((n : Number) → marks.Number n ≡ m → ⊥)
    → (marks.Other ≡ m → ⊥) → ⊥
no_number (kind.Number n) m h p o = p n h
no_number _ m h p o = o h

mark-name_terminal : (w : Terminal) (k : Kind) → mark_of_terminal w k ≡ marks.Name → names w ≡ true
mark-name_terminal words.Counter k h = refl
mark-name_terminal words.Clear k h = refl
mark-name_terminal words.Load k h = refl
mark-name_terminal words.Add k h = refl
mark-name_terminal words.Sub k h = refl
mark-name_terminal words.Name k h = refl
mark-name_terminal words.Operator k h = absurd (no_operator k marks.Name h (λ op e. cc) (λ e. cc))
mark-name_terminal words.Number k h = absurd (no_number k marks.Name h (λ n e. cc) (λ e. cc))
mark-name_terminal _ k h = absurd cc

pub mark-name : (t : Token) → mark t ≡ marks.Name → is_name t ≡ true
unfolding is_name mark
mark-name t h = mark-name_terminal (terminal t) t.kind h

mark-opening_terminal : (w : Terminal) (k : Kind) → mark_of_terminal w k ≡ marks.Opening → w ≡ OpenRound
mark-opening_terminal words.OpenRound k h = refl
mark-opening_terminal words.Operator k h = absurd (no_operator k marks.Opening h (λ op e. cc) (λ e. cc))
mark-opening_terminal words.Number k h = absurd (no_number k marks.Opening h (λ n e. cc) (λ e. cc))
mark-opening_terminal _ k h = absurd cc

pub mark-opening : (t : Token) → mark t ≡ marks.Opening → terminal t ≡ OpenRound
unfolding mark
mark-opening t h = mark-opening_terminal (terminal t) t.kind h

pub opening-mark : (t : Token) → terminal t ≡ OpenRound → mark t ≡ marks.Opening
unfolding mark
opening-mark t h = rw h refl

-- paths and selects
pub members-sound : Reads members (λ more ts rest. AreMembers more ts rest)
unfolding members
members-sound ts p h =
    each-sound (is Dot) (λ dot. pick word_of) (λ xs us vs. AreMembers xs us vs) (λ us. no_member)
    (λ t a xs us vs rest is_dot read more.
    let x = pick-some word_of us (a, vs) read in
    let w = word-some x.token a x.picked in
    rw (x.parts, w.1) (member (is-true Dot t is_dot) (subst (λ (v : Token). is_word v ≡ true) w.1 w.0) more))
    ts p h

path_by : (t a : Token) (more ts us vs : List Token) → ts ≡ t ∷ us → is_name t ≡ true → t ≡ a → AreMembers more us vs
    → IsPath (a ∷ more) ts vs
path_by t a more ts us vs e n s m = rw (e, s) (name (subst (λ (v : Token). is_name v ≡ true) s n) m)

pub path-sound : Reads path_words (λ ws ts rest. IsPath ws ts rest)
unfolding path_words
path-sound ts p h =
    let a = bind-some (pick name_of ts) (λ (p : Token × List Token). members p.1 >>= λ q. Some (p.0 ∷ q.0, q.1)) p h in
    let b = bind-some (members a.0.1) (λ (q : List Token × List Token). Some (a.0.0 ∷ q.0, q.1)) p a.2 in
    let same : (a.0.0 ∷ b.0.0, b.0.1) ≡ p = cc (b.2) in
    let x = pick-some name_of ts a.0 a.1 in
    let w = name-some x.token a.0.0 x.picked in
    subst (λ (q : List Token × List Token). IsPath q.0 ts q.1) same
    (path_by x.token a.0.0 b.0.0 ts a.0.1 b.0.1 x.parts w.0 w.1 (members-sound a.0.1 b.0 b.1))

select_by-sound : (d : ℕ) (left n right : Token) (i : Index) (low : Option Index) (us vs ws rest : List Token)
    → terminal left ≡ OpenSquare → us ≡ n ∷ vs → index n ≡ Some i → IsOptional Colon (pick index) vs low ws
    → ws ≡ right ∷ rest → terminal right ≡ CloseSquare
    → IsSelected (suc d) (Some (record { high = i; low = low })) (left ∷ us) rest
select_by-sound d left n right i low us vs ws rest o e k absent f c = rw (e, f) (bit o k c)
select_by-sound d left n right i low us vs ws rest o e k (present {t = t} {us = xs} {a = j} g l r) f c =
    let x = pick-some index xs (j, ws) r in
    bits_by x.token us vs xs ws e k g l x.parts x.picked f
  where
    bits_by : (m : Token) (us vs xs ws : List Token) → us ≡ n ∷ vs → index n ≡ Some i → vs ≡ t ∷ xs → terminal t ≡ Colon
        → xs ≡ m ∷ ws → index m ≡ Some j → ws ≡ right ∷ rest
        → IsSelected (suc d) (Some (record { high = i; low = Some j })) (left ∷ us) rest
    bits_by m us vs xs ws e k g l a b f = rw (e, g, a, f) (bits o k l b c)

select-sound : (d : ℕ) (left : Token) (us : List Token) (q : Select × List Token) → terminal left ≡ OpenSquare
    → select us ≡ Some q → IsSelected (suc d) (Some q.0) (left ∷ us) q.1
unfolding select
select-sound d left us q o h =
    bind-then (pick index us) (λ (p : Index × List Token). optional Colon (pick index) p.1
    >>= λ q. expect CloseSquare q.1 >>= λ r. Some (record { high = p.0; low = q.0 }, r.1)) q h
    (λ a a_is a_rest.
    bind-then (optional Colon (pick index) a.1) (λ (q : Option Index × List Token). expect CloseSquare q.1
    >>= λ r. Some (record { high = a.0; low = q.0 }, r.1)) q a_rest
    (λ b b_is b_rest.
    bind-then (expect CloseSquare b.1) (λ (r : Token × List Token). Some (record { high = a.0; low = b.0 }, r.1)) q
    b_rest
    (λ c c_is c_rest.
    let s : Select = record { high = a.0; low = b.0 } in
    let same : (s, c.1) ≡ q = cc (c_rest) in
    let x = pick-some index us a a_is in
    let z = expect-some CloseSquare b.1 c c_is in
    subst (λ (r : Select × List Token). IsSelected (suc d) (Some r.0) (left ∷ us) r.1) same
    (select_by-sound d left x.token c.0 a.0 b.0 us a.1 b.1 c.1 o x.parts x.picked
    (optional-sound Colon (pick index) a.1 b b_is) z.parts z.marked))))

selected-sound : (d : ℕ) (ts : List Token) (s : Option Select) (rest : List Token)
    → IsOptional OpenSquare (readers d).select ts s rest → IsSelected d s ts rest
unfolding readers
selected-sound d ts _ _ absent = whole
selected-sound zero ts _ _ (present e o r) = absurd cc
selected-sound (suc d) ts _ rest (present {t = t} {us = us} {a = s} e o r) = rw e (select-sound d t us (s, rest) o r)

-- what is proved of the readers, one deeper
abbrev pub IsSound : ℕ → Type 0
IsSound zero = Unit {0}
IsSound (suc d) =
    Reads (readers (suc d)).expr (λ e ts rest. Spells d e ts rest)
    × Reads (readers (suc d)).prefixed (λ e ts rest. Operand d zero e ts rest)

named-sound : (d : ℕ) (t : Token) (ts : List Token) (p : Tree × List Token) → mark t ≡ marks.Name
    → name_reader (readers d) t ts ≡ Some p → Operand d zero p.0 (t ∷ ts) p.1
unfolding name_reader
named-sound d t ts p m h =
    let a =
    bind-some (members ts) (λ (p : List Token × List Token). optional OpenSquare (readers d).select p.1
    >>= λ q. Some (path (t ∷ p.0) q.0, q.1)) p h in
    let b =
    bind-some (optional OpenSquare (readers d).select a.0.1)
    (λ (q : Option Select × List Token). Some (path (t ∷ a.0.0) q.0, q.1)) p a.2 in
    let same : (path (t ∷ a.0.0) b.0.0, b.0.1) ≡ p = cc (b.2) in
    subst (λ (r : Tree × List Token). Operand d zero r.0 (t ∷ ts) r.1) same
    (is_path (name (mark-name t m) (members-sound ts a.0 a.1))
    (selected-sound d a.0.1 b.0.0 b.0.1 (optional-sound OpenSquare (readers d).select a.0.1 b.0 b.1)))

record Brackets (d : ℕ) (e : Tree) (ts rest : List Token) : Type 0 where
  right : Token
  inside : Spells d e ts (right ∷ rest)
  marked : terminal right ≡ CloseRound

bracketed-sound : (d : ℕ) → IsSound (suc d) → (ts : List Token) (p : Tree × List Token)
    → bracket_reader (readers (suc d)) ts ≡ Some p → Brackets d p.0 ts p.1
unfolding bracket_reader
bracketed-sound d inner ts p h =
    let a =
    bind-some ((readers (suc d)).expr ts) (λ (p : Tree × List Token). expect CloseRound p.1
    >>= λ r. Some (p.0, r.1)) p h in
    let b = bind-some (expect CloseRound a.0.1) (λ (r : Token × List Token). Some (a.0.0, r.1)) p a.2 in
    let same : (a.0.0, b.0.1) ≡ p = cc (b.2) in
    let z = expect-some CloseRound a.0.1 b.0 b.1 in
    subst (λ (r : Tree × List Token). Brackets d r.0 ts r.1) same
    (record {
      right = b.0.0;
      inside = subst (λ (us : List Token). Spells d a.0.0 ts us) z.parts (inner.0 ts a.0 a.1);
      marked = z.marked;
    })

bracketed-zero : (ts : List Token) (p : Tree × List Token) → bracket_reader (readers zero) ts ≡ Some p → ⊥
unfolding bracket_reader readers
bracketed-zero ts p h = absurd cc

opened-sound : (d : ℕ) → IsSound d → (t : Token) (ts : List Token) (p : Tree × List Token) → mark t ≡ marks.Opening
    → bracket_reader (readers d) ts ≡ Some p → Operand d zero p.0 (t ∷ ts) p.1
opened-sound zero inner t ts p m h = absurd (bracketed-zero ts p h)
opened-sound (suc d) inner t ts p m h = let b = bracketed-sound d inner ts p h in in_brackets m b.inside b.marked

parts-sound : (d : ℕ) (r : Reader Tree) → Reads r (λ e ts rest. Spells d e ts rest)
    → Reads (each (is Comma) (λ comma. r)) (λ xs ts rest. AreParts d (parts_of xs) ts rest)
parts-sound d r ok ts p h =
    each-sound (is Comma) (λ comma. r) (λ xs us vs. AreParts d (parts_of xs) us vs) (λ us. no_parts)
    (λ t a xs us vs rest is_comma read more. one_part (is-true Comma t is_comma) (ok us (a, vs) read) more) ts p h

concatenated-sound : (d : ℕ) → IsSound d → (t : Token) (ts : List Token) (p : Tree × List Token) → mark t ≡ marks.Brace
    → concatenation_reader (readers d) t ts ≡ Some p → Operand d zero p.0 (t ∷ ts) p.1
unfolding concatenation_reader readers
concatenated-sound zero inner t ts p m h = absurd cc
concatenated-sound (suc d) inner t ts p m h =
    let r = (readers (suc d)).expr in
    bind-then (r ts) (λ (p : Tree × List Token). each (is Comma) (λ comma. r) p.1 >>= λ q. expect CloseBrace q.1
    >>= λ r. Some (concatenation t p.0 (parts_of q.0), r.1)) p h
    (λ a a_is a_rest.
    bind-then (each (is Comma) (λ comma. r) a.1) (λ (q : List Tree × List Token). expect CloseBrace q.1
    >>= λ r. Some (concatenation t a.0 (parts_of q.0), r.1)) p a_rest
    (λ b b_is b_rest.
    bind-then (expect CloseBrace b.1) (λ (r : Token × List Token). Some (concatenation t a.0 (parts_of b.0), r.1)) p
    b_rest
    (λ c c_is c_rest.
    let same : (concatenation t a.0 (parts_of b.0), c.1) ≡ p = cc (c_rest) in
    let z = expect-some CloseBrace b.1 c c_is in
    subst (λ (r : Tree × List Token). Operand (suc d) zero r.0 (t ∷ ts) r.1) same
    (is_concatenation m (inner.0 ts a a_is)
    (subst (λ (us : List Token). AreParts d (parts_of b.0) a.1 us) z.parts
    (parts-sound d r inner.0 a.1 b b_is)) z.marked))))

ticks-sound : (ts : List Token) (ticks : Option Bound) (rest : List Token)
    → IsOptional Comma (pick (bound_within 1 64)) ts ticks rest → IsTicks ticks ts rest
ticks-sound ts _ _ absent = one_tick
ticks-sound ts _ rest (present {t = t} {us = us} {a = b} e k r) =
    let x = pick-some (bound_within 1 64) us (b, rest) r in rw (e, x.parts) (some_ticks k x.picked)

passed-sound : (d : ℕ) → IsSound d → (t : Token) (ts : List Token) (p : Tree × List Token) → mark t ≡ marks.Past
    → past_reader (readers d) t ts ≡ Some p → Operand d zero p.0 (t ∷ ts) p.1
unfolding past_reader readers
passed-sound zero inner t ts p m h =
    let a = bind-some (expect OpenRound ts) (λ (o : Token × List Token). None) p h in absurd cc
passed-sound (suc d) inner t ts p m h =
    let r = (readers (suc d)).expr in
    bind-then (expect OpenRound ts) (λ (o : Token × List Token). r o.1
    >>= λ p. optional Comma (pick (bound_within 1 64)) p.1 >>= λ q. expect CloseRound q.1
    >>= λ r. Some (past t p.0 q.0, r.1)) p h
    (λ o o_is o_rest.
    bind-then (r o.1) (λ (p : Tree × List Token). optional Comma (pick (bound_within 1 64)) p.1
    >>= λ q. expect CloseRound q.1 >>= λ r. Some (past t p.0 q.0, r.1)) p o_rest
    (λ a a_is a_rest.
    bind-then (optional Comma (pick (bound_within 1 64)) a.1) (λ (q : Option Bound × List Token). expect CloseRound q.1
    >>= λ r. Some (past t a.0 q.0, r.1)) p a_rest
    (λ b b_is b_rest.
    bind-then (expect CloseRound b.1) (λ (r : Token × List Token). Some (past t a.0 b.0, r.1)) p b_rest
    (λ c c_is c_rest.
    let same : (past t a.0 b.0, c.1) ≡ p = cc (c_rest) in
    let y = expect-some OpenRound ts o o_is in
    let z = expect-some CloseRound b.1 c c_is in
    let ticks = ticks-sound a.1 b.0 b.1 (optional-sound Comma (pick (bound_within 1 64)) a.1 b b_is) in
    subst (λ (r : Tree × List Token). Operand (suc d) zero r.0 (t ∷ ts) r.1) same
    (subst (λ (us : List Token). Operand (suc d) zero (past t a.0 b.0) (t ∷ us) c.1) (sym y.parts)
    (is_past m y.marked (inner.0 o.1 a a_is)
    (subst (λ (us : List Token). IsTicks b.0 a.1 us) z.parts ticks) z.marked))))))

called-sound : (d : ℕ) → IsSound d → (g : Function) (t : Token) (ts : List Token) (p : Tree × List Token)
    → mark t ≡ marks.Call g → call_reader (readers d) g t ts ≡ Some p → Operand d zero p.0 (t ∷ ts) p.1
unfolding call_reader
called-sound d inner g t ts p m h =
    let o =
    bind-some (expect OpenRound ts) (λ (o : Token × List Token). bracket_reader (readers d) o.1
    >>= λ p. Some (call g t p.0, p.1)) p h in
    let a = bind-some (bracket_reader (readers d) o.0.1) (λ (p : Tree × List Token). Some (call g t p.0, p.1)) p o.2 in
    let same : (call g t a.0.0, a.0.1) ≡ p = cc (a.2) in
    let y = expect-some OpenRound ts o.0 o.1 in
    subst (λ (r : Tree × List Token). Operand d zero r.0 (t ∷ ts) r.1) same
    (subst (λ (us : List Token). Operand d zero (call g t a.0.0) (t ∷ us) a.0.1) (sym y.parts)
    (by_depth d inner o.0.0 o.0.1 a.0 y.marked a.1))
  where
    by_depth : (d : ℕ) → IsSound d → (left : Token) (us : List Token) (q : Tree × List Token)
        → terminal left ≡ OpenRound → bracket_reader (readers d) us ≡ Some q
        → Operand d zero (call g t q.0) (t ∷ left ∷ us) q.1
    by_depth zero inner left us q y k = absurd (bracketed-zero us q k)
    by_depth (suc d) inner left us q y k = let b = bracketed-sound d inner us q k in is_call m y b.inside b.marked

prefixing-sound : (d : ℕ) → IsSound d → (op : Prefix) (t : Token) (ts : List Token) (p : Tree × List Token)
    → mark t ≡ marks.Prefix op → prefix_reader (readers d) op t ts ≡ Some p → Operand d zero p.0 (t ∷ ts) p.1
unfolding prefix_reader readers
prefixing-sound zero inner op t ts p m h = absurd cc
prefixing-sound (suc d) inner op t ts p m h =
    let a = bind-some ((readers (suc d)).prefixed ts) (λ (p : Tree × List Token). Some (unary op t p.0, p.1)) p h in
    let same : (unary op t a.0.0, a.0.1) ≡ p = cc (a.2) in
    subst (λ (r : Tree × List Token). Operand (suc d) zero r.0 (t ∷ ts) r.1) same (is_unary m (inner.1 ts a.0 a.1))

prefixed_by-sound : (d : ℕ) → IsSound d → (t : Token) (ts : List Token) (p : Tree × List Token) (m : Mark) → mark t ≡ m
    → prefixed_by (readers d) m t ts ≡ Some p → Operand d zero p.0 (t ∷ ts) p.1
prefixed_by-sound d inner t ts p (marks.Number n) m h =
    let same : (number n t, ts) ≡ p = cc in subst (λ (r : Tree × List Token). Operand d zero r.0 (t ∷ ts) r.1) same
    (is_number m)
prefixed_by-sound d inner t ts p marks.Name m h = named-sound d t ts p m h
prefixed_by-sound d inner t ts p (marks.Prefix op) m h = prefixing-sound d inner op t ts p m h
prefixed_by-sound d inner t ts p marks.Opening m h = opened-sound d inner t ts p m h
prefixed_by-sound d inner t ts p marks.Brace m h = concatenated-sound d inner t ts p m h
prefixed_by-sound d inner t ts p marks.Past m h = passed-sound d inner t ts p m h
prefixed_by-sound d inner t ts p (marks.Call g) m h = called-sound d inner g t ts p m h
prefixed_by-sound d inner t ts p marks.Other m h = absurd cc

prefixed-sound : (d : ℕ) → IsSound d → Reads (prefixed_with (readers d)) (λ e ts rest. Operand d zero e ts rest)
unfolding prefixed_with
prefixed-sound d inner [] p h = absurd cc
prefixed-sound d inner (t ∷ ts) p h = prefixed_by-sound d inner t ts p (mark t) refl h

links-sound : (d l : ℕ) (operand : Reader Tree) → Reads operand (λ e ts rest. Operand d l e ts rest)
    → Reads (links operand l) (λ xs ts rest. Follows d l (links_of xs) ts rest)
unfolding links link_reader
links-sound d l operand ok ts p h =
    each-sound (is_infix (suc l)) (link_reader operand) (λ xs us vs. Follows d l (links_of xs) us vs) (λ us. no_more)
    (λ t a xs us vs rest is_left read more.
    let o = bind-some (infix_of t) (λ (op : Infix). operand us >>= λ p. Some ((op, p.0), p.1)) (a, vs) read in
    let b = bind-some (operand us) (λ (p : Tree × List Token). Some ((o.0, p.0), p.1)) (a, vs) o.2 in
    let same : ((o.0, b.0.0), b.0.1) ≡ (a, vs) = cc (b.2) in
    subst (λ (x : (Infix × Tree) × List Token). Follows d l (links_of (x.0 ∷ xs)) (t ∷ us) rest) same
    (one_more o.1 (infix-level (suc l) t o.0 o.1 is_left) (ok us b.0 b.1)
    (subst (λ (x : (Infix × Tree) × List Token). Follows d l (links_of xs) x.1 rest) (sym same) more)))
    ts p h

follows-end : {d l : ℕ} {ts rest : List Token} → Follows d l end ts rest → ts ≡ rest
follows-end no_more = refl

joined-sound : (d l : ℕ) (first : Tree) (xs : List (Infix × Tree)) (ts us rest : List Token) → Operand d l first ts us
    → Follows d l (links_of xs) us rest → Operand d (suc l) (chain_of first xs) ts rest
joined-sound d l first [] ts us rest o f =
    subst (λ (vs : List Token). Operand d (suc l) first ts vs) (follows-end f) (is_tighter o)
joined-sound d l first (x ∷ xs) ts us rest o f = is_chain o f

level-sound : (d : ℕ) (b : Reader Tree) → Reads b (λ e ts rest. Operand d zero e ts rest) → (l : ℕ)
    → Reads (level b l) (λ e ts rest. Operand d l e ts rest)
level-sound d b ok zero ts p h = ok ts p (sym (level-zero b ts) ∙ h)
level-sound d b ok (suc l) ts p h =
    let a =
    bind-some (level b l ts) (λ (p : Tree × List Token). links (level b l) l p.1
    >>= λ q. Some (chain_of p.0 q.0, q.1)) p (sym (level-suc b l ts) ∙ h) in
    let c =
    bind-some (links (level b l) l a.0.1)
    (λ (q : List (Infix × Tree) × List Token). Some (chain_of a.0.0 q.0, q.1)) p a.2 in
    let same : (chain_of a.0.0 c.0.0, c.0.1) ≡ p = cc (c.2) in
    subst (λ (r : Tree × List Token). Operand d (suc l) r.0 ts r.1) same
    (joined-sound d l a.0.0 c.0.0 ts a.0.1 c.0.1 (level-sound d b ok l ts a.0 a.1)
    (links-sound d l (level b l) (level-sound d b ok l) a.0.1 c.0 c.1))

choice_by-sound : (d : ℕ) → IsSound d → (c : Tree) (ts us : List Token) (p : Tree × List Token) → Operand d 9 c ts us
    → (o : Option (Token × List Token)) → lead (has_precedence 10) us ≡ o → choice_by (readers d).expr o c us ≡ Some p
    → Spells d p.0 ts p.1
unfolding readers has_precedence
choice_by-sound d inner c ts us p o None l h =
    let same : (c, us) ≡ p = cc (h) in subst (λ (r : Tree × List Token). Spells d r.0 ts r.1) same (is_operand o)
choice_by-sound zero inner c ts us p o (Some q) l h = absurd cc
choice_by-sound (suc d) inner c ts us p o (Some q) l h =
    let r = (readers (suc d)).expr in
    bind-then (r q.1) (λ (a : Tree × List Token). expect Colon a.1 >>= λ v. r v.1 >>= λ b. Some (choice c a.0 b.0, b.1))
    p h
    (λ a a_is a_rest.
    bind-then (expect Colon a.1) (λ (v : Token × List Token). r v.1 >>= λ b. Some (choice c a.0 b.0, b.1)) p a_rest
    (λ k k_is k_rest.
    bind-then (r k.1) (λ (b : Tree × List Token). Some (choice c a.0 b.0, b.1)) p k_rest
    (λ b b_is b_rest.
    let same : (choice c a.0 b.0, b.1) ≡ p = cc (b_rest) in
    let x = lead-some (has_precedence 10) us q l in
    let z = expect-some Colon a.1 k k_is in
    subst (λ (r : Tree × List Token). Spells (suc d) r.0 ts r.1) same
    (is_choice (eqb-true (precedence q.0) 10 x.passes) z.marked
    (subst (λ (vs : List Token). Operand (suc d) 9 c ts vs) x.parts o)
    (subst (λ (vs : List Token). Spells d a.0 q.1 vs) z.parts (inner.0 q.1 a a_is)) (inner.0 k.1 b b_is)))))

pub spells-sound : (d : ℕ) → IsSound d
    → Reads (expr_with (readers d) (prefixed_with (readers d))) (λ e ts rest. Spells d e ts rest)
unfolding choice_with
spells-sound d inner ts p h =
    let a =
    bind-some (level (prefixed_with (readers d)) 9 ts)
    (λ (p : Tree × List Token). choice_with (readers d).expr p.0 p.1) p
    (sym (expr-is (readers d) (prefixed_with (readers d)) ts) ∙ h) in
    choice_by-sound d inner a.0.0 ts a.0.1 p
    (level-sound d (prefixed_with (readers d)) (prefixed-sound d inner) 9 ts a.0 a.1)
    (lead (has_precedence 10) a.0.1) refl a.2

pub is_sound : (d : ℕ) → IsSound d
unfolding readers
is_sound zero = tt
is_sound (suc d) = (spells-sound d (is_sound d), prefixed-sound d (is_sound d))
