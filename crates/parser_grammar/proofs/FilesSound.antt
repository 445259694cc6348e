-- What is read as a file is spelled by it.
use Rattle.std.proofs.Common.{◌≡◌, ℕ, Bool, true, false, cond, ◌&&◌, ◌||◌, List, [], ◌∷◌, Option, Some, None, refl, sym}
use Rattle.std.proofs.Common.{ap, ◌∙◌, subst, inl, inr}
use Rattle.std.specs.Str.{bytes_eq}
use Rattle.lexer.specs.declared.token.Token.{Token}
use Rattle.parser_grammar.specs.declared.bound.Bound.{Bound}
use Rattle.parser_grammar.specs.declared.terminal.Terminal.{Terminal}
use Rattle.parser_grammar.specs.declared.terminal.Terminal.TheVariants as word
use Rattle.parser_grammar.specs.declared.terminal.Terminal.TheVariants.{OpenRound, CloseRound, OpenSquare, CloseSquare}
use Rattle.parser_grammar.specs.declared.terminal.Terminal.TheVariants.{Comma}
use Rattle.parser_grammar.specs.declared.terminal.Terminal.TheVariants.{Semicolon, Colon, AtSign, Posedge, Disable, Iff}
use Rattle.parser_grammar.specs.declared.terminal.Terminal.TheVariants.{EndSequence, End}
use Rattle.parser_grammar.specs.Terminals.{terminal, is, is_name, is_word}
use Rattle.parser_grammar.specs.Bounds.{bound_within}
use Rattle.parser_grammar.specs.Trees.{Tree, SequenceForm, PropertyForm, ItemForm, counter, declaration, assertion}
use Rattle.parser_grammar.specs.Expressions.{IsPath, Spells}
use Rattle.parser_grammar.specs.Sequences.{IsSequence, IsProperty}
use Rattle.parser_grammar.specs.Files.{most_open, in_one, in_two, IsClear, no_clear, clear, IsClause, no_clause, clause}
use Rattle.parser_grammar.specs.Files.{is_counter, IsClosing, no_closing, closing, IsEnding, ending, with_semicolon}
use Rattle.parser_grammar.specs.Files.{is_declaration, is_verb, IsDisable, no_disable, disable, IsLabel, no_label}
use Rattle.parser_grammar.specs.Files.{label}
use Rattle.parser_grammar.specs.Files.{is_assertion, SpellsItem, a_counter, a_declaration, an_assertion, AreItems}
use Rattle.parser_grammar.specs.Files.{no_item}
use Rattle.parser_grammar.specs.Files.{one_item, HasAssertion, IsFile}
use Rattle.parser_grammar.specs.Readers.{◌>>=◌, lead, expect, pick, optional}
use Rattle.parser_grammar.specs.ReadExpressions.{name_of, path_words, expression}
use Rattle.parser_grammar.specs.ReadSequences.{whole, property}
use Rattle.parser_grammar.specs.ReadFiles.{one_operand, two_operands, counter_head, counter_form, counter_item}
use Rattle.parser_grammar.specs.ReadFiles.{again_of}
use Rattle.parser_grammar.specs.ReadFiles.{skip_by, skip, ending_of, declaration_item, is_verb_token, opening_words}
use Rattle.parser_grammar.specs.ReadFiles.{clock_words, disable_reader, property_end, assertion_form, assertion_item}
use Rattle.parser_grammar.specs.ReadFiles.{labelled_by, label_reader, declared_by, declaration_reader, counted_by}
use Rattle.parser_grammar.specs.ReadFiles.{item_by}
use Rattle.parser_grammar.specs.ReadFiles.{item, asserts, is_more, items}
use Rattle.parser_grammar.proofs.TerminalLaws.{is-true}
use Rattle.parser_grammar.proofs.ReaderLaws.{Reads, bind-then, lead-some, expect-some, pick-some, IsOptional, absent}
use Rattle.parser_grammar.proofs.ReaderLaws.{present}
use Rattle.parser_grammar.proofs.ReaderLaws.{optional-sound, each-sound}
use Rattle.parser_grammar.proofs.Sound.{path-sound, name-some}
use Rattle.parser_grammar.proofs.SequencesSound.{expression-sound}
use Rattle.parser_grammar.proofs.PropertyLaws.{whole-sound, property-sound}

-- "(" expr ")"
record One (d : ℕ) (e : Tree) (ts rest : List Token) : Type 0 where
  left : Token
  right : Token
  inside : List Token
  parts : ts ≡ left ∷ inside
  opens : terminal left ≡ OpenRound
  spelled : Spells d e inside (right ∷ rest)
  closes : terminal right ≡ CloseRound

one-sound : (d : ℕ) → Reads (one_operand d) (λ e ts rest. One d e ts rest)
unfolding one_operand
one-sound d ts p h =
    bind-then (expect OpenRound ts) (λ (o : Token × List Token). expression d o.1 >>= λ p. expect CloseRound p.1
    >>= λ r. Some (p.0, r.1)) p h
    (λ o o_is o_rest.
    bind-then (expression d o.1) (λ (p : Tree × List Token). expect CloseRound p.1 >>= λ r. Some (p.0, r.1)) p o_rest
    (λ a a_is a_rest.
    bind-then (expect CloseRound a.1) (λ (r : Token × List Token). Some (a.0, r.1)) p a_rest
    (λ c c_is c_rest.
    let same : (a.0, c.1) ≡ p = cc (c_rest) in
    let x = expect-some OpenRound ts o o_is in
    let z = expect-some CloseRound a.1 c c_is in
    subst (λ (r : Tree × List Token). One d r.0 ts r.1) same
    (record {
      left = o.0;
      right = c.0;
      inside = o.1;
      parts = x.parts;
      opens = x.marked;
      spelled = subst (λ (us : List Token). Spells d a.0 o.1 us) z.parts (expression-sound d o.1 a a_is);
      closes = z.marked;
    }))))

-- "(" expr "," expr ")"
record Two (v : Tree × Tree) (ts rest : List Token) : Type 0 where
  left : Token
  comma : Token
  right : Token
  inside : List Token
  middle : List Token
  parts : ts ≡ left ∷ inside
  opens : terminal left ≡ OpenRound
  first : Spells in_one v.0 inside (comma ∷ middle)
  divides : terminal comma ≡ Comma
  second : Spells in_one v.1 middle (right ∷ rest)
  closes : terminal right ≡ CloseRound

two-sound : Reads two_operands (λ v ts rest. Two v ts rest)
unfolding two_operands
two-sound ts p h =
    bind-then (expect OpenRound ts) (λ (o : Token × List Token). expression in_one o.1 >>= λ p. expect Comma p.1
    >>= λ m. expression in_one m.1 >>= λ q. expect CloseRound q.1 >>= λ r. Some ((p.0, q.0), r.1)) p h
    (λ o o_is o_rest.
    bind-then (expression in_one o.1) (λ (p : Tree × List Token). expect Comma p.1 >>= λ m. expression in_one m.1
    >>= λ q. expect CloseRound q.1 >>= λ r. Some ((p.0, q.0), r.1)) p o_rest
    (λ a a_is a_rest.
    bind-then (expect Comma a.1) (λ (m : Token × List Token). expression in_one m.1 >>= λ q. expect CloseRound q.1
    >>= λ r. Some ((a.0, q.0), r.1)) p a_rest
    (λ m m_is m_rest.
    bind-then (expression in_one m.1) (λ (q : Tree × List Token). expect CloseRound q.1 >>= λ r. Some ((a.0, q.0), r.1))
    p m_rest
    (λ b b_is b_rest.
    bind-then (expect CloseRound b.1) (λ (r : Token × List Token). Some ((a.0, b.0), r.1)) p b_rest
    (λ c c_is c_rest.
    let same : ((a.0, b.0), c.1) ≡ p = cc (c_rest) in
    let x = expect-some OpenRound ts o o_is in
    let y = expect-some Comma a.1 m m_is in
    let z = expect-some CloseRound b.1 c c_is in
    subst (λ (r : (Tree × Tree) × List Token). Two r.0 ts r.1) same (record {
      left = o.0;
      comma = m.0;
      right = c.0;
      inside = o.1;
      middle = m.1;
      parts = x.parts;
      opens = x.marked;
      first = subst (λ (us : List Token). Spells in_one a.0 o.1 us) y.parts (expression-sound in_one o.1 a a_is);
      divides = y.marked;
      second =
          subst (λ (us : List Token). Spells in_one b.0 m.1 us) z.parts (expression-sound in_one m.1 b b_is);
      closes = z.marked;
    }))))))

clear_at : (w : Token) (e : Tree) (ts us rest : List Token) → ts ≡ w ∷ us → terminal w ≡ word.Clear
    → One in_one e us rest → IsClear (Some e) ts rest
clear_at w e ts us rest p k o =
    subst (λ (xs : List Token). IsClear (Some e) xs rest) (sym (p ∙ ap (λ (xs : List Token). w ∷ xs) o.parts))
    (clear k o.opens o.spelled o.closes)

clear-sound : (ts : List Token) (o : Option Tree) (rest : List Token)
    → IsOptional word.Clear (one_operand in_one) ts o rest → IsClear o ts rest
clear-sound ts _ _ absent = no_clear
clear-sound ts _ rest (present {t = t} {us = us} {a = e} p k r) =
    clear_at t e ts us rest p k (one-sound in_one us (e, rest) r)

clause_at : (v : Terminal) (w : Token) (e : Tree × Tree) (ts us rest : List Token) → ts ≡ w ∷ us → terminal w ≡ v
    → Two e us rest → IsClause v (Some e) ts rest
clause_at v w e ts us rest p k o =
    subst (λ (xs : List Token). IsClause v (Some e) xs rest) (sym (p ∙ ap (λ (xs : List Token). w ∷ xs) o.parts))
    (clause k o.opens o.first o.divides o.second o.closes)

clause-sound : (v : Terminal) (ts : List Token) (o : Option (Tree × Tree)) (rest : List Token)
    → IsOptional v two_operands ts o rest → IsClause v o ts rest
clause-sound v ts _ _ absent = no_clause
clause-sound v ts _ rest (present {t = t} {us = us} {a = e} p k r) =
    clause_at v t e ts us rest p k (two-sound us (e, rest) r)

disable_at : (w i : Token) (e : Tree) (ts us vs rest : List Token) → ts ≡ w ∷ us → terminal w ≡ Disable → us ≡ i ∷ vs
    → terminal i ≡ Iff → One in_two e vs rest → IsDisable (Some e) ts rest
disable_at w i e ts us vs rest p k q l o =
    subst (λ (xs : List Token). IsDisable (Some e) xs rest)
    (sym (p ∙ ap (λ (xs : List Token). w ∷ xs) (q ∙ ap (λ (xs : List Token). i ∷ xs) o.parts)))
    (disable k l o.opens o.spelled o.closes)

disable-sound : (ts : List Token) (o : Option Tree) (rest : List Token) → IsOptional Disable disable_reader ts o rest
    → IsDisable o ts rest
unfolding disable_reader
disable-sound ts _ _ absent = no_disable
disable-sound ts _ rest (present {t = t} {us = us} {a = e} p k r) =
    bind-then (expect Iff us) (λ (i : Token × List Token). one_operand in_two i.1) (e, rest) r
    (λ i i_is i_rest.
    let x = expect-some Iff us i i_is in
    disable_at t i.0 e ts us i.1 rest p k x.parts x.marked (one-sound in_two i.1 (e, rest) i_rest))

-- counters
record CounterHead (name : Token) (width : Bound) (ts rest : List Token) : Type 0 where
  left : Token
  n : Token
  right : Token
  parts : ts ≡ name ∷ left ∷ n ∷ right ∷ rest
  named : is_name name ≡ true
  opens : terminal left ≡ OpenSquare
  wide : bound_within 1 128 n ≡ Some width
  closes : terminal right ≡ CloseSquare

head_at : (t name left n right : Token) (width : Bound) (ts us vs ws rest : List Token) → ts ≡ t ∷ us → is_name t ≡ true
    → t ≡ name → us ≡ left ∷ vs → terminal left ≡ OpenSquare → vs ≡ n ∷ ws → bound_within 1 128 n ≡ Some width
    → ws ≡ right ∷ rest → terminal right ≡ CloseSquare
    → CounterHead name width ts rest
head_at t name left n right width ts us vs ws rest a b c e f g h i j = record {
  left = left;
  n = n;
  right = right;
  parts =
      a ∙ ap (λ (x : Token). x ∷ us) c
      ∙ ap (λ (xs : List Token). name ∷ xs)
      (e ∙ ap (λ (xs : List Token). left ∷ xs) (g ∙ ap (λ (xs : List Token). n ∷ xs) i));
  named = subst (λ (x : Token). is_name x ≡ true) c b;
  opens = f;
  wide = h;
  closes = j;
}

head-sound : Reads counter_head (λ v ts rest. CounterHead v.0 v.1 ts rest)
unfolding counter_head
head-sound ts p h =
    bind-then (pick name_of ts) (λ (n : Token × List Token). expect OpenSquare n.1
    >>= λ o. pick (bound_within 1 128) o.1 >>= λ w. expect CloseSquare w.1 >>= λ r. Some ((n.0, w.0), r.1)) p h
    (λ a a_is a_rest.
    bind-then (expect OpenSquare a.1) (λ (o : Token × List Token). pick (bound_within 1 128) o.1
    >>= λ w. expect CloseSquare w.1 >>= λ r. Some ((a.0, w.0), r.1)) p a_rest
    (λ o o_is o_rest.
    bind-then (pick (bound_within 1 128) o.1) (λ (w : Bound × List Token). expect CloseSquare w.1
    >>= λ r. Some ((a.0, w.0), r.1)) p o_rest
    (λ w w_is w_rest.
    bind-then (expect CloseSquare w.1) (λ (r : Token × List Token). Some ((a.0, w.0), r.1)) p w_rest
    (λ c c_is c_rest.
    let same : ((a.0, w.0), c.1) ≡ p = cc (c_rest) in
    let x = pick-some name_of ts a a_is in
    let n = name-some x.token a.0 x.picked in
    let y = expect-some OpenSquare a.1 o o_is in
    let v = pick-some (bound_within 1 128) o.1 w w_is in
    let z = expect-some CloseSquare w.1 c c_is in
    subst (λ (r : (Token × Bound) × List Token). CounterHead r.0.0 r.0.1 ts r.1) same
    (head_at x.token a.0 o.0 v.token c.0 w.0 ts a.1 o.1 w.1 c.1 x.parts n.0 n.1 y.parts y.marked
    v.parts v.picked z.parts z.marked)))))

counter_at : (w name : Token) (width : Bound) (a : Option Tree) (b c e : Option (Tree × Tree)) (semicolon : Token)
    (ts us vs ws xs ys rest : List Token) → terminal w ≡ word.Counter → CounterHead name width ts us → IsClear a us vs
    → IsClause word.Load b vs ws → IsClause word.Add c ws xs
    → IsClause word.Sub e xs ys → ys ≡ semicolon ∷ rest → terminal semicolon ≡ Semicolon
    → SpellsItem (counter_form name width a b c e) (w ∷ ts) rest
counter_at w name width a b c e semicolon ts us vs ws xs ys rest k h x y z v p s =
    subst (λ (zs : List Token). SpellsItem (counter_form name width a b c e) (w ∷ zs) rest) (sym h.parts)
    (a_counter
    (is_counter k h.named h.opens h.wide h.closes x y z
    (subst (λ (zs : List Token). IsClause word.Sub e xs zs) p v) s))

counter-sound : (w : Token) (ts : List Token) (p : ItemForm × List Token) → terminal w ≡ word.Counter
    → counter_item ts ≡ Some p → SpellsItem p.0 (w ∷ ts) p.1
unfolding counter_item
counter-sound w ts p k h =
    bind-then (counter_head ts) (λ (h : (Token × Bound) × List Token). optional word.Clear (one_operand in_one) h.1
    >>= λ a. optional word.Load two_operands a.1 >>= λ b. optional word.Add two_operands b.1
    >>= λ c. optional word.Sub two_operands c.1 >>= λ d. expect Semicolon d.1
    >>= λ r. Some (counter_form h.0.0 h.0.1 a.0 b.0 c.0 d.0, r.1)) p h
    (λ n n_is n_rest.
    bind-then (optional word.Clear (one_operand in_one) n.1)
    (λ (a : Option Tree × List Token). optional word.Load two_operands a.1 >>= λ b. optional word.Add two_operands b.1
    >>= λ c. optional word.Sub two_operands c.1 >>= λ d. expect Semicolon d.1
    >>= λ r. Some (counter_form n.0.0 n.0.1 a.0 b.0 c.0 d.0, r.1)) p n_rest
    (λ a a_is a_rest.
    bind-then (optional word.Load two_operands a.1)
    (λ (b : Option (Tree × Tree) × List Token). optional word.Add two_operands b.1
    >>= λ c. optional word.Sub two_operands c.1 >>= λ d. expect Semicolon d.1
    >>= λ r. Some (counter_form n.0.0 n.0.1 a.0 b.0 c.0 d.0, r.1)) p a_rest
    (λ b b_is b_rest.
    bind-then (optional word.Add two_operands b.1)
    (λ (c : Option (Tree × Tree) × List Token). optional word.Sub two_operands c.1 >>= λ d. expect Semicolon d.1
    >>= λ r. Some (counter_form n.0.0 n.0.1 a.0 b.0 c.0 d.0, r.1)) p b_rest
    (λ c c_is c_rest.
    bind-then (optional word.Sub two_operands c.1) (λ (d : Option (Tree × Tree) × List Token). expect Semicolon d.1
    >>= λ r. Some (counter_form n.0.0 n.0.1 a.0 b.0 c.0 d.0, r.1)) p c_rest
    (λ e e_is e_rest.
    bind-then (expect Semicolon e.1) (λ (r : Token × List Token). Some (counter_form n.0.0 n.0.1 a.0 b.0 c.0 e.0, r.1))
    p e_rest
    (λ s s_is s_rest.
    let same : (counter_form n.0.0 n.0.1 a.0 b.0 c.0 e.0, s.1) ≡ p = cc (s_rest) in
    let z = expect-some Semicolon e.1 s s_is in
    subst (λ (r : ItemForm × List Token). SpellsItem r.0 (w ∷ ts) r.1) same
    (counter_at w n.0.0 n.0.1 a.0 b.0 c.0 e.0 s.0 ts n.1 a.1 b.1 c.1 e.1 s.1 k
    (head-sound ts n n_is)
    (clear-sound n.1 a.0 a.1 (optional-sound word.Clear (one_operand in_one) n.1 a a_is))
    (clause-sound word.Load a.1 b.0 b.1 (optional-sound word.Load two_operands a.1 b b_is))
    (clause-sound word.Add b.1 c.0 c.1 (optional-sound word.Add two_operands b.1 c c_is))
    (clause-sound word.Sub c.1 e.0 e.1 (optional-sound word.Sub two_operands c.1 e e_is)) z.parts z.marked)))))))

-- named sequences
again-some : (name t a : Token) → again_of name t ≡ Some a → (is_word t ≡ true)
    × (bytes_eq t.text.now name.text.now ≡ true)
unfolding again_of
again-some name t a h = by_tests (is_word t) (bytes_eq t.text.now name.text.now) h
  where
    by_tests : (x y : Bool) → cond (x && y) (Some t) None ≡ Some a → (x ≡ true) × (y ≡ true)
    by_tests true true k = (refl, refl)
    by_tests true false k = absurd cc
    by_tests false y k = absurd cc

closing_at : (name t again : Token) (ts us rest : List Token) → ts ≡ t ∷ us → terminal t ≡ Colon → us ≡ again ∷ rest
    → is_word again ≡ true → bytes_eq again.text.now name.text.now ≡ true → IsClosing name ts rest
closing_at name t again ts us rest p k q w e = rw (p, q) (closing k w e)

closing-sound : (name : Token) (ts : List Token) (o : Option Token) (rest : List Token)
    → IsOptional Colon (pick (again_of name)) ts o rest → IsClosing name ts rest
closing-sound name ts _ _ absent = no_closing
closing-sound name ts _ rest (present {t = t} {us = us} {a = a} p k r) =
    let x = pick-some (again_of name) us (a, rest) r in
    let w = again-some name x.token a x.picked in
    closing_at name t x.token ts us rest p k x.parts w.0 w.1

ending_at : (name e : Token) (us vs rest : List Token) → us ≡ e ∷ vs → terminal e ≡ EndSequence → IsClosing name vs rest
    → (ts : List Token) (o : Option (Token × List Token)) → expect Semicolon ts ≡ o → skip_by o ts ≡ us
    → IsEnding name ts rest
ending_at name e us vs rest p k c ts None l same =
    subst (λ (xs : List Token). IsEnding name xs rest) (sym (same ∙ p)) (ending k c)
ending_at name e us vs rest p k c ts (Some q) l same =
    let x = expect-some Semicolon ts q l in
    subst (λ (xs : List Token). IsEnding name xs rest) (sym (x.parts ∙ ap (λ (xs : List Token). q.0 ∷ xs) (same ∙ p)))
    (with_semicolon x.marked k c)

ending-sound : (name : Token) (ts rest : List Token) → ending_of name ts ≡ Some rest → IsEnding name ts rest
unfolding ending_of skip
ending-sound name ts rest h =
    bind-then (expect EndSequence (skip Semicolon ts))
    (λ (e : Token × List Token). optional Colon (pick (again_of name)) e.1 >>= λ q. Some q.1) rest h
    (λ e e_is e_rest.
    bind-then (optional Colon (pick (again_of name)) e.1) (λ (q : Option Token × List Token). Some q.1) rest e_rest
    (λ q q_is q_rest.
    let same : q.1 ≡ rest = cc (q_rest) in
    let x = expect-some EndSequence (skip Semicolon ts) e e_is in
    ending_at name e.0 (skip Semicolon ts) e.1 rest x.parts x.marked
    (subst (λ (xs : List Token). IsClosing name e.1 xs) same
    (closing-sound name e.1 q.0 q.1 (optional-sound Colon (pick (again_of name)) e.1 q q_is))) ts
    (expect Semicolon ts) refl refl))

declaration_at : (w t name semicolon : Token) (body : SequenceForm) (ts us vs ws rest : List Token)
    → terminal w ≡ word.Sequence → ts ≡ t ∷ us → is_name t ≡ true → t ≡ name → us ≡ semicolon ∷ vs
    → terminal semicolon ≡ Semicolon → IsSequence most_open body vs ws → IsEnding name ws rest
    → SpellsItem (declaration (record { name = name; body = body })) (w ∷ ts) rest
declaration_at w t name semicolon body ts us vs ws rest k a b c e s x y =
    subst (λ (xs : List Token). SpellsItem (declaration (record { name = name; body = body })) (w ∷ xs) rest)
    (sym (a ∙ ap (λ (n : Token). n ∷ us) c ∙ ap (λ (xs : List Token). name ∷ xs) e))
    (a_declaration (is_declaration k (subst (λ (n : Token). is_name n ≡ true) c b) s x y))

declaration-sound : (w : Token) (ts : List Token) (p : ItemForm × List Token) → terminal w ≡ word.Sequence
    → declaration_item ts ≡ Some p → SpellsItem p.0 (w ∷ ts) p.1
unfolding declaration_item
declaration-sound w ts p k h =
    bind-then (pick name_of ts) (λ (n : Token × List Token). expect Semicolon n.1 >>= λ o. whole most_open o.1
    >>= λ p. ending_of n.0 p.1 >>= λ rest. Some (declaration (record { name = n.0; body = p.0 }), rest)) p h
    (λ n n_is n_rest.
    bind-then (expect Semicolon n.1) (λ (o : Token × List Token). whole most_open o.1 >>= λ p. ending_of n.0 p.1
    >>= λ rest. Some (declaration (record { name = n.0; body = p.0 }), rest)) p n_rest
    (λ s s_is s_rest.
    bind-then (whole most_open s.1) (λ (p : SequenceForm × List Token). ending_of n.0 p.1
    >>= λ rest. Some (declaration (record { name = n.0; body = p.0 }), rest)) p s_rest
    (λ b b_is b_rest.
    bind-then (ending_of n.0 b.1) (λ (rest : List Token). Some (declaration (record { name = n.0; body = b.0 }), rest))
    p b_rest
    (λ e e_is e_rest.
    let i : ItemForm = declaration (record { name = n.0; body = b.0 }) in
    let same : (i, e) ≡ p = cc (e_rest) in
    let x = pick-some name_of ts n n_is in
    let v = name-some x.token n.0 x.picked in
    let y = expect-some Semicolon n.1 s s_is in
    subst (λ (r : ItemForm × List Token). SpellsItem r.0 (w ∷ ts) r.1) same
    (declaration_at w x.token n.0 s.0 b.0 ts n.1 s.1 b.1 e k x.parts v.0 v.1 y.parts y.marked
    (whole-sound most_open s.1 b b_is) (ending-sound n.0 b.1 e e_is))))))

-- assertions
verb-some : (t : Token) → is_verb_token t ≡ true → is_verb (terminal t)
unfolding is_verb_token
verb-some t h = by_tests (is word.Assert t) (is word.Assume t) refl refl h
  where
    by_tests : (x y : Bool) → is word.Assert t ≡ x → is word.Assume t ≡ y → (x || y) ≡ true → is_verb (terminal t)
    by_tests true y a b k = inl (is-true word.Assert t a)
    by_tests false true a b k = inr (is-true word.Assume t b)
    by_tests false false a b k = absurd cc

record Clock (clock : List Token) (ts rest : List Token) : Type 0 where
  at_sign : Token
  round : Token
  posedge : Token
  right : Token
  inside : List Token
  parts : ts ≡ at_sign ∷ round ∷ posedge ∷ inside
  is_at : terminal at_sign ≡ AtSign
  is_round : terminal round ≡ OpenRound
  is_posedge : terminal posedge ≡ Posedge
  spelled : IsPath clock inside (right ∷ rest)
  closes : terminal right ≡ CloseRound

clock-sound : Reads clock_words (λ c ts rest. Clock c ts rest)
unfolding clock_words
clock-sound ts p h =
    bind-then (expect AtSign ts) (λ (a : Token × List Token). expect OpenRound a.1 >>= λ b. expect Posedge b.1
    >>= λ c. path_words c.1 >>= λ p. expect CloseRound p.1 >>= λ r. Some (p.0, r.1)) p h
    (λ a a_is a_rest.
    bind-then (expect OpenRound a.1) (λ (b : Token × List Token). expect Posedge b.1 >>= λ c. path_words c.1
    >>= λ p. expect CloseRound p.1 >>= λ r. Some (p.0, r.1)) p a_rest
    (λ b b_is b_rest.
    bind-then (expect Posedge b.1) (λ (c : Token × List Token). path_words c.1 >>= λ p. expect CloseRound p.1
    >>= λ r. Some (p.0, r.1)) p b_rest
    (λ c c_is c_rest.
    bind-then (path_words c.1) (λ (p : List Token × List Token). expect CloseRound p.1 >>= λ r. Some (p.0, r.1)) p
    c_rest
    (λ e e_is e_rest.
    bind-then (expect CloseRound e.1) (λ (r : Token × List Token). Some (e.0, r.1)) p e_rest
    (λ f f_is f_rest.
    let same : (e.0, f.1) ≡ p = cc (f_rest) in
    let u = expect-some AtSign ts a a_is in
    let v = expect-some OpenRound a.1 b b_is in
    let w = expect-some Posedge b.1 c c_is in
    let z = expect-some CloseRound e.1 f f_is in
    subst (λ (r : List Token × List Token). Clock r.0 ts r.1) same (record {
      at_sign = a.0;
      round = b.0;
      posedge = c.0;
      right = f.0;
      inside = c.1;
      parts = u.parts ∙ ap (λ (xs : List Token). a.0 ∷ xs) (v.parts ∙ ap (λ (xs : List Token). b.0 ∷ xs) w.parts);
      is_at = u.marked;
      is_round = v.marked;
      is_posedge = w.marked;
      spelled = subst (λ (xs : List Token). IsPath e.0 c.1 xs) z.parts (path-sound c.1 e e_is);
      closes = z.marked;
    }))))))

record PropertyEnd (p : PropertyForm) (ts rest : List Token) : Type 0 where
  last : Token
  semicolon : Token
  spelled : IsProperty in_one p ts (last ∷ semicolon ∷ rest)
  closes : terminal last ≡ CloseRound
  ends : terminal semicolon ≡ Semicolon

property_end-sound : Reads property_end (λ p ts rest. PropertyEnd p ts rest)
unfolding property_end
property_end-sound ts p h =
    bind-then (property in_one ts) (λ (p : PropertyForm × List Token). expect CloseRound p.1
    >>= λ a. expect Semicolon a.1 >>= λ r. Some (p.0, r.1)) p h
    (λ a a_is a_rest.
    bind-then (expect CloseRound a.1) (λ (b : Token × List Token). expect Semicolon b.1 >>= λ r. Some (a.0, r.1)) p
    a_rest
    (λ b b_is b_rest.
    bind-then (expect Semicolon b.1) (λ (r : Token × List Token). Some (a.0, r.1)) p b_rest
    (λ c c_is c_rest.
    let same : (a.0, c.1) ≡ p = cc (c_rest) in
    let x = expect-some CloseRound a.1 b b_is in
    let y = expect-some Semicolon b.1 c c_is in
    subst (λ (r : PropertyForm × List Token). PropertyEnd r.0 ts r.1) same
    (record {
      last = b.0;
      semicolon = c.0;
      spelled = subst (λ (xs : List Token). IsProperty in_one a.0 ts xs)
          (x.parts ∙ ap (λ (xs : List Token). b.0 ∷ xs) y.parts) (property-sound in_one ts a a_is);
      closes =
          x.marked;
      ends = y.marked;
    }))))

record Opens (ts rest : List Token) : Type 0 where
  word_property : Token
  left : Token
  parts : ts ≡ word_property ∷ left ∷ rest
  is_property : terminal word_property ≡ word.Property
  is_left : terminal left ≡ OpenRound

opening-sound : (ts rest : List Token) → opening_words ts ≡ Some rest → Opens ts rest
unfolding opening_words
opening-sound ts rest h =
    bind-then (expect word.Property ts) (λ (a : Token × List Token). expect OpenRound a.1 >>= λ b. Some b.1) rest h
    (λ a a_is a_rest.
    bind-then (expect OpenRound a.1) (λ (b : Token × List Token). Some b.1) rest a_rest
    (λ b b_is b_rest.
    let same : b.1 ≡ rest = cc (b_rest) in
    let x = expect-some word.Property ts a a_is in
    let y = expect-some OpenRound a.1 b b_is in
    subst (λ (xs : List Token). Opens ts xs) same
    (record {
      word_property = a.0;
      left = b.0;
      parts = x.parts ∙ ap (λ (xs : List Token). a.0 ∷ xs) y.parts;
      is_property = x.marked;
      is_left = y.marked;
    })))

assertion_at : (l : Option Token) (verb : Token) (clock : List Token) (off : Option Tree) (p : PropertyForm)
    (start ts us vs ws xs rest : List Token) → IsLabel l start ts → ts ≡ verb ∷ us → is_verb (terminal verb)
    → Opens us vs → Clock clock vs ws → IsDisable off ws xs → PropertyEnd p xs rest
    → SpellsItem (assertion_form l verb clock off p) start rest
assertion_at l verb clock off p start ts us vs ws xs rest named e v o c i j =
    an_assertion
    (is_assertion
    (subst (λ (ys : List Token). IsLabel l start ys)
    (e ∙ ap (λ (ys : List Token). verb ∷ ys)
    (o.parts ∙ ap (λ (ys : List Token). o.word_property ∷ o.left ∷ ys) c.parts)) named) v o.is_property o.is_left
    c.is_at c.is_round c.is_posedge c.spelled c.closes i j.spelled j.closes j.ends)

assertion-sound : (l : Option Token) (start ts : List Token) (p : ItemForm × List Token) → IsLabel l start ts
    → assertion_item l ts ≡ Some p → SpellsItem p.0 start p.1
unfolding assertion_item
assertion-sound l start ts p named h =
    bind-then (lead is_verb_token ts) (λ (v : Token × List Token). opening_words v.1 >>= λ us. clock_words us
    >>= λ c. optional Disable disable_reader c.1 >>= λ d. property_end d.1
    >>= λ p. Some (assertion_form l v.0 c.0 d.0 p.0, p.1)) p h
    (λ v v_is v_rest.
    bind-then (opening_words v.1) (λ (us : List Token). clock_words us >>= λ c. optional Disable disable_reader c.1
    >>= λ d. property_end d.1 >>= λ p. Some (assertion_form l v.0 c.0 d.0 p.0, p.1)) p v_rest
    (λ o o_is o_rest.
    bind-then (clock_words o) (λ (c : List Token × List Token). optional Disable disable_reader c.1
    >>= λ d. property_end d.1 >>= λ p. Some (assertion_form l v.0 c.0 d.0 p.0, p.1)) p o_rest
    (λ c c_is c_rest.
    bind-then (optional Disable disable_reader c.1) (λ (d : Option Tree × List Token). property_end d.1
    >>= λ p. Some (assertion_form l v.0 c.0 d.0 p.0, p.1)) p c_rest
    (λ e e_is e_rest.
    bind-then (property_end e.1) (λ (p : PropertyForm × List Token). Some (assertion_form l v.0 c.0 e.0 p.0, p.1)) p
    e_rest
    (λ q q_is q_rest.
    let same : (assertion_form l v.0 c.0 e.0 q.0, q.1) ≡ p = cc (q_rest) in
    let x = lead-some is_verb_token ts v v_is in
    subst (λ (r : ItemForm × List Token). SpellsItem r.0 start r.1) same
    (assertion_at l v.0 c.0 e.0 q.0 start ts v.1 o c.1 e.1 q.1 named x.parts
    (verb-some v.0 x.passes) (opening-sound v.1 o o_is) (clock-sound o c c_is)
    (disable-sound c.1 e.0 e.1 (optional-sound Disable disable_reader c.1 e e_is))
    (property_end-sound e.1 q q_is)))))))

label_at : (name colon : Token) (ts us vs : List Token) → ts ≡ name ∷ us → is_name name ≡ true → us ≡ colon ∷ vs
    → terminal colon ≡ Colon → IsLabel (Some name) ts vs
label_at name colon ts us vs a b c e = rw (a, c) (label b e)

labelled_by-sound : (ts : List Token) (p : ItemForm × List Token) (o : Option (Token × List Token))
    → lead is_name ts ≡ o → labelled_by o ts ≡ Some p → SpellsItem p.0 ts p.1
labelled_by-sound ts p None l h = assertion-sound None ts ts p no_label h
labelled_by-sound ts p (Some q) l h =
    bind-then (expect Colon q.1) (λ (r : Token × List Token). assertion_item (Some q.0) r.1) p h
    (λ c c_is c_rest.
    let x = lead-some is_name ts q l in
    let y = expect-some Colon q.1 c c_is in
    assertion-sound (Some q.0) ts c.1 p (label_at q.0 c.0 ts q.1 c.1 x.parts x.passes y.parts y.marked) c_rest)

labelled-sound : (ts : List Token) (p : ItemForm × List Token) → label_reader ts ≡ Some p → SpellsItem p.0 ts p.1
unfolding label_reader
labelled-sound ts p h = labelled_by-sound ts p (lead is_name ts) refl h

declared_by-sound : (ts : List Token) (p : ItemForm × List Token) (o : Option (Token × List Token))
    → expect word.Sequence ts ≡ o → declared_by o ts ≡ Some p → SpellsItem p.0 ts p.1
declared_by-sound ts p None l h = labelled-sound ts p h
declared_by-sound ts p (Some q) l h =
    let x = expect-some word.Sequence ts q l in subst (λ (xs : List Token). SpellsItem p.0 xs p.1) (sym x.parts)
    (declaration-sound q.0 q.1 p x.marked h)

declared-sound : (ts : List Token) (p : ItemForm × List Token) → declaration_reader ts ≡ Some p → SpellsItem p.0 ts p.1
unfolding declaration_reader
declared-sound ts p h = declared_by-sound ts p (expect word.Sequence ts) refl h

counted_by-sound : (w : Token) (ts us : List Token) (p : ItemForm × List Token) → ts ≡ w ∷ us
    → terminal w ≡ word.Counter → (o : Option (Token × List Token)) → counted_by o us ts ≡ Some p
    → SpellsItem p.0 ts p.1
counted_by-sound w ts us p e k (Some c) h = declared-sound ts p h
counted_by-sound w ts us p e k None h =
    subst (λ (xs : List Token). SpellsItem p.0 xs p.1) (sym e) (counter-sound w us p k h)

item_by-sound : (ts : List Token) (p : ItemForm × List Token) (o : Option (Token × List Token)) → expect word.Counter ts
    ≡ o → item_by o ts ≡ Some p → SpellsItem p.0 ts p.1
item_by-sound ts p None l h = declared-sound ts p h
item_by-sound ts p (Some q) l h =
    let x = expect-some word.Counter ts q l in counted_by-sound q.0 ts q.1 p x.parts x.marked (expect Colon q.1) h

item-sound : Reads item (λ i ts rest. SpellsItem i ts rest)
unfolding item
item-sound ts p h = item_by-sound ts p (expect word.Counter ts) refl h

-- files
items-sound : Reads items (λ xs ts rest. AreItems xs ts rest)
unfolding items
items-sound ts p h =
    each-sound is_more (λ t us. item (t ∷ us)) (λ xs us vs. AreItems xs us vs) (λ us. no_item)
    (λ t a xs us vs rest test read more. one_item (item-sound (t ∷ us) (a, vs) read) more) ts p h

asserts-has : (xs : List ItemForm) → asserts xs ≡ true → HasAssertion xs
asserts-has [] h = absurd cc
asserts-has (counter c ∷ more) h = asserts-has more h
asserts-has (declaration s ∷ more) h = asserts-has more h
asserts-has (assertion a ∷ more) h = tt

pub file-found : (xs : List ItemForm) (tokens : List Token) (last : Token) → items tokens ≡ Some (xs, last ∷ [])
    → terminal last ≡ End → asserts xs ≡ true → IsFile xs tokens
file-found xs tokens last h e a =
    record { last = last; ends = e; spelled = items-sound tokens (xs, last ∷ []) h; asserts = asserts-has xs a }
