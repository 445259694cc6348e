-- Reading, in the steps of the code: what each step that was taken says, and each that failed. The rules are those of
-- the grammar's functions.
use Rattle.std.proofs.Common.{◌≡◌, ℕ, zero, suc, ◌+◌, ◌-◌, Bool, true, false, List, [], ◌∷◌, Option, Some, None}
use Rattle.std.proofs.Common.{option_map, Result, refl, sym, ap, subst, ◌∙◌, arith}
use Rattle.std.proofs.lemmas.Bool.{eq-eqb, ne_eqb}
use Rattle.lexer.specs.declared.token.Number.{Number}
use Rattle.lexer.specs.declared.token.Token.{Token}
use Rattle.parser_grammar.specs.declared.bound.Bound.{Bound}
use Rattle.parser_grammar.specs.declared.bound.Index.{Index}
use Rattle.parser_grammar.specs.declared.bound.Select.{Select}
use Rattle.parser_grammar.specs.declared.mark.Function.{Function}
use Rattle.parser_grammar.specs.declared.operator.Infix.{Infix}
use Rattle.parser_grammar.specs.declared.operator.Prefix.{Prefix}
use Rattle.parser_grammar.specs.declared.mark.Mark.TheVariants as marks
use Rattle.parser_grammar.specs.declared.terminal.Terminal.{Terminal}
use Rattle.parser_grammar.specs.declared.terminal.Terminal.TheVariants.{OpenRound, CloseRound, CloseBrace, OpenSquare}
use Rattle.parser_grammar.specs.declared.terminal.Terminal.TheVariants.{CloseSquare, Comma, Colon}
use Rattle.parser_grammar.specs.Terminals.{is, is_word}
use Rattle.parser_grammar.specs.Bounds.{index, bound_within}
use Rattle.parser_grammar.specs.Operators.{infix_of, infix_level, is_of_level, is_infix}
use Rattle.parser_grammar.specs.Marks.{mark, precedence, has_precedence}
use Rattle.parser_grammar.specs.Trees.{Tree, number, path, concatenation, past, call, unary, choice}
use Rattle.parser_grammar.specs.Readers.{◌>>=◌, Reader, refuse, lead, expect, pick, optional, each}
use Rattle.parser_grammar.specs.ReadExpressions.{word_of, members, select, parts_of, name_reader, bracket_reader}
use Rattle.parser_grammar.specs.ReadExpressions.{concatenation_reader, past_reader, call_reader, prefix_reader}
use Rattle.parser_grammar.specs.ReadExpressions.{prefixed_with}
use Rattle.parser_grammar.specs.ReadExpressions.{unary_reader, links, chain_of, climb, level, choice_with, readers}
use Rattle.parser_grammar.specs.ReadExpressions.{operand}
use Rattle.parser_grammar.specs.ReadExpressions.{finish, expression}
use Rattle.parser.specs.declared.stop.Stop.{Stop}
use Rattle.parser.specs.declared.stop.Stop.TheVariants as stops
use Rattle.parser.specs.Views.{Fails, Gives, IsLed}

pub failing : {A B : Type 0} (e : Stop) (o : Option A) (p : Option B) → (o ≡ None → p ≡ None) → Fails e o → Fails e p
failing stops.Memory o p f h = tt
failing (stops.Expected what at) o p f h = f h
failing (stops.TooDeep at) o p f h = f h
failing (stops.BadBound at) o p f h = f h

pub none-fails : {A : Type 0} (e : Stop) (o : Option A) → o ≡ None → Fails e o
none-fails stops.Memory o h = tt
none-fails (stops.Expected what at) o h = h
none-fails (stops.TooDeep at) o h = h
none-fails (stops.BadBound at) o h = h

-- what is read, by another name
pub gives-as : {X Y : Type 0} (view : X → Y) (r : Result X Stop) (o p : Option Y) → p ≡ o → Gives view r o
    → Gives view r p
gives-as {Y = Y} view r o p e h = subst (λ (q : Option Y). Gives view r q) (sym e) h

-- one deeper
pub below : (d : ℕ) → (d ≡ 0 → ⊥) → d ≡ d - 1 + 1
below d h = omega arith

expr-at : (d k : ℕ) → d ≡ k + 1 → (readers d).expr ≡ expression k
unfolding readers expression
expr-at d k h = let e : d ≡ suc k = omega arith in rw e refl

expr-zero : (d : ℕ) → d ≡ 0 → (readers d).expr ≡ refuse
unfolding readers
expr-zero d h = rw h refl

prefixed-at : (d k : ℕ) → d ≡ k + 1 → (readers d).prefixed ≡ unary_reader k
unfolding readers unary_reader
prefixed-at d k h = let e : d ≡ suc k = omega arith in rw e refl

prefixed-zero : (d : ℕ) → d ≡ 0 → (readers d).prefixed ≡ refuse
unfolding readers
prefixed-zero d h = rw h refl

select-at : (d k : ℕ) → d ≡ k + 1 → (readers d).select ≡ select
unfolding readers
select-at d k h = let e : d ≡ suc k = omega arith in rw e refl

select-zero : (d : ℕ) → d ≡ 0 → (readers d).select ≡ refuse
unfolding readers
select-zero d h = rw h refl

pub select-fail1 : (ts : List Token) (x : Stop) → Fails x (pick index ts) → Fails x (select ts)
unfolding select
select-fail1 ts x f = failing x _ _ (λ none. rw (none) refl) f

pub select-fail2 : (ts : List Token) (i : Index) (us : List Token) (x : Stop) → pick index ts ≡ Some (i, us)
    → Fails x (optional Colon (pick index) us) → Fails x (select ts)
unfolding select
select-fail2 ts i us x h1 f = failing x _ _ (λ none. rw (h1, none) refl) f

pub select-fail3 : (ts : List Token) (i : Index) (us : List Token) (j : Option Index) (vs : List Token) (x : Stop)
    → pick index ts ≡ Some (i, us) → optional Colon (pick index) us ≡ Some (j, vs) → Fails x (expect CloseSquare vs)
    → Fails x (select ts)
unfolding select
select-fail3 ts i us j vs x h1 h2 f = failing x _ _ (λ none. rw (h1, h2, none) refl) f

pub select-ok : (ts : List Token) (i : Index) (us : List Token) (j : Option Index) (vs : List Token) (c : Token)
    (ws : List Token) → pick index ts ≡ Some (i, us) → optional Colon (pick index) us ≡ Some (j, vs)
    → expect CloseSquare vs ≡ Some (c, ws) → select ts ≡ Some (record { high = i; low = j }, ws)
unfolding select
select-ok ts i us j vs c ws h1 h2 h3 = rw (h1, h2, h3) refl

pub named-fail1 : (d : ℕ) (t : Token) (ts : List Token) (x : Stop) → Fails x (members ts)
    → Fails x (name_reader (readers d) t ts)
unfolding name_reader
named-fail1 d t ts x f = failing x _ _ (λ none. rw (none) refl) f

pub named-fail2 : (d : ℕ) (t : Token) (ts : List Token) (xs : List Token) (us : List Token) (x : Stop)
    → members ts ≡ Some (xs, us) → Fails x (optional OpenSquare (readers d).select us)
    → Fails x (name_reader (readers d) t ts)
unfolding name_reader
named-fail2 d t ts xs us x h1 f = failing x _ _ (λ none. rw (h1, none) refl) f

pub named-ok : (d : ℕ) (t : Token) (ts : List Token) (xs : List Token) (us : List Token) (s : Option Select)
    (vs : List Token) → members ts ≡ Some (xs, us) → optional OpenSquare (readers d).select us ≡ Some (s, vs)
    → name_reader (readers d) t ts ≡ Some (path (t ∷ xs) s, vs)
unfolding name_reader
named-ok d t ts xs us s vs h1 h2 = rw (h1, h2) refl

pub bracketed-deep : (d : ℕ) (ts : List Token) (x : Stop) → d ≡ 0 → Fails x (bracket_reader (readers d) ts)
unfolding bracket_reader
bracketed-deep d ts x h = none-fails x _ (rw (expr-zero d h) refl)

pub bracketed-fail2 : (d : ℕ) (ts : List Token) (k : ℕ) (x : Stop) → d ≡ k + 1 → Fails x (expression k ts)
    → Fails x (bracket_reader (readers d) ts)
unfolding bracket_reader
bracketed-fail2 d ts k x depth f = failing x _ _ (λ none. rw (expr-at d k depth, none) refl) f

pub bracketed-fail3 : (d : ℕ) (ts : List Token) (k : ℕ) (e : Tree) (us : List Token) (x : Stop) → d ≡ k + 1
    → expression k ts ≡ Some (e, us) → Fails x (expect CloseRound us) → Fails x (bracket_reader (readers d) ts)
unfolding bracket_reader
bracketed-fail3 d ts k e us x depth h2 f = failing x _ _ (λ none. rw (expr-at d k depth, h2, none) refl) f

pub bracketed-ok : (d : ℕ) (ts : List Token) (k : ℕ) (e : Tree) (us : List Token) (c : Token) (vs : List Token)
    → d ≡ k + 1 → expression k ts ≡ Some (e, us) → expect CloseRound us ≡ Some (c, vs) → bracket_reader (readers d) ts
    ≡ Some (e, vs)
unfolding bracket_reader
bracketed-ok d ts k e us c vs depth h2 h3 = rw (expr-at d k depth, h2, h3) refl

pub concatenated-deep : (d : ℕ) (t : Token) (ts : List Token) (x : Stop) → d ≡ 0
    → Fails x (concatenation_reader (readers d) t ts)
unfolding concatenation_reader
concatenated-deep d t ts x h = none-fails x _ (rw (expr-zero d h) refl)

pub concatenated-fail2 : (d : ℕ) (t : Token) (ts : List Token) (k : ℕ) (x : Stop) → d ≡ k + 1
    → Fails x (expression k ts) → Fails x (concatenation_reader (readers d) t ts)
unfolding concatenation_reader
concatenated-fail2 d t ts k x depth f = failing x _ _ (λ none. rw (expr-at d k depth, none) refl) f

pub concatenated-fail3 : (d : ℕ) (t : Token) (ts : List Token) (k : ℕ) (e : Tree) (us : List Token) (x : Stop)
    → d ≡ k + 1 → expression k ts ≡ Some (e, us) → Fails x (each (is Comma) (λ comma. expression k) us)
    → Fails x (concatenation_reader (readers d) t ts)
unfolding concatenation_reader
concatenated-fail3 d t ts k e us x depth h2 f = failing x _ _ (λ none. rw (expr-at d k depth, h2, none) refl) f

pub concatenated-fail4 : (d : ℕ) (t : Token) (ts : List Token) (k : ℕ) (e : Tree) (us : List Token) (xs : List Tree)
    (vs : List Token) (x : Stop) → d ≡ k + 1 → expression k ts ≡ Some (e, us)
    → each (is Comma) (λ comma. expression k) us ≡ Some (xs, vs) → Fails x (expect CloseBrace vs)
    → Fails x (concatenation_reader (readers d) t ts)
unfolding concatenation_reader
concatenated-fail4 d t ts k e us xs vs x depth h2 h3 f =
    failing x _ _ (λ none. rw (expr-at d k depth, h2, h3, none) refl) f

pub concatenated-ok : (d : ℕ) (t : Token) (ts : List Token) (k : ℕ) (e : Tree) (us : List Token) (xs : List Tree)
    (vs : List Token) (c : Token) (ws : List Token) → d ≡ k + 1 → expression k ts ≡ Some (e, us)
    → each (is Comma) (λ comma. expression k) us ≡ Some (xs, vs) → expect CloseBrace vs ≡ Some (c, ws)
    → concatenation_reader (readers d) t ts ≡ Some (concatenation t e (parts_of xs), ws)
unfolding concatenation_reader
concatenated-ok d t ts k e us xs vs c ws depth h2 h3 h4 = rw (expr-at d k depth, h2, h3, h4) refl

pub passed-fail1 : (d : ℕ) (t : Token) (ts : List Token) (x : Stop) → Fails x (expect OpenRound ts)
    → Fails x (past_reader (readers d) t ts)
unfolding past_reader
passed-fail1 d t ts x f = failing x _ _ (λ none. rw (none) refl) f

pub passed-deep : (d : ℕ) (t : Token) (ts : List Token) (o : Token) (qs : List Token) (x : Stop) → expect OpenRound ts
    ≡ Some (o, qs) → d ≡ 0 → Fails x (past_reader (readers d) t ts)
unfolding past_reader
passed-deep d t ts o qs x h1 h = none-fails x _ (rw (h1, expr-zero d h) refl)

pub passed-fail3 : (d : ℕ) (t : Token) (ts : List Token) (o : Token) (qs : List Token) (k : ℕ) (x : Stop)
    → expect OpenRound ts ≡ Some (o, qs) → d ≡ k + 1 → Fails x (expression k qs)
    → Fails x (past_reader (readers d) t ts)
unfolding past_reader
passed-fail3 d t ts o qs k x h1 depth f = failing x _ _ (λ none. rw (h1, expr-at d k depth, none) refl) f

pub passed-fail4 : (d : ℕ) (t : Token) (ts : List Token) (o : Token) (qs : List Token) (k : ℕ) (e : Tree)
    (us : List Token) (x : Stop) → expect OpenRound ts ≡ Some (o, qs) → d ≡ k + 1 → expression k qs ≡ Some (e, us)
    → Fails x (optional Comma (pick (bound_within 1 64)) us) → Fails x (past_reader (readers d) t ts)
unfolding past_reader
passed-fail4 d t ts o qs k e us x h1 depth h3 f = failing x _ _ (λ none. rw (h1, expr-at d k depth, h3, none) refl) f

pub passed-fail5 : (d : ℕ) (t : Token) (ts : List Token) (o : Token) (qs : List Token) (k : ℕ) (e : Tree)
    (us : List Token) (n : Option Bound) (vs : List Token) (x : Stop) → expect OpenRound ts ≡ Some (o, qs) → d ≡ k + 1
    → expression k qs ≡ Some (e, us) → optional Comma (pick (bound_within 1 64)) us ≡ Some (n, vs)
    → Fails x (expect CloseRound vs) → Fails x (past_reader (readers d) t ts)
unfolding past_reader
passed-fail5 d t ts o qs k e us n vs x h1 depth h3 h4 f =
    failing x _ _ (λ none. rw (h1, expr-at d k depth, h3, h4, none) refl) f

pub passed-ok : (d : ℕ) (t : Token) (ts : List Token) (o : Token) (qs : List Token) (k : ℕ) (e : Tree) (us : List Token)
    (n : Option Bound) (vs : List Token) (c : Token) (ws : List Token) → expect OpenRound ts ≡ Some (o, qs)
    → d ≡ k + 1 → expression k qs ≡ Some (e, us) → optional Comma (pick (bound_within 1 64)) us ≡ Some (n, vs)
    → expect CloseRound vs ≡ Some (c, ws) → past_reader (readers d) t ts ≡ Some (past t e n, ws)
unfolding past_reader
passed-ok d t ts o qs k e us n vs c ws h1 depth h3 h4 h5 = rw (h1, expr-at d k depth, h3, h4, h5) refl

pub called-fail1 : (d : ℕ) (g : Function) (t : Token) (ts : List Token) (x : Stop) → Fails x (expect OpenRound ts)
    → Fails x (call_reader (readers d) g t ts)
unfolding call_reader
called-fail1 d g t ts x f = failing x _ _ (λ none. rw (none) refl) f

pub called-fail2 : (d : ℕ) (g : Function) (t : Token) (ts : List Token) (o : Token) (qs : List Token) (x : Stop)
    → expect OpenRound ts ≡ Some (o, qs) → Fails x (bracket_reader (readers d) qs)
    → Fails x (call_reader (readers d) g t ts)
unfolding call_reader
called-fail2 d g t ts o qs x h1 f = failing x _ _ (λ none. rw (h1, none) refl) f

pub called-ok : (d : ℕ) (g : Function) (t : Token) (ts : List Token) (o : Token) (qs : List Token) (e : Tree)
    (us : List Token) → expect OpenRound ts ≡ Some (o, qs) → bracket_reader (readers d) qs ≡ Some (e, us)
    → call_reader (readers d) g t ts ≡ Some (call g t e, us)
unfolding call_reader
called-ok d g t ts o qs e us h1 h2 = rw (h1, h2) refl

pub prefixing-deep : (d : ℕ) (op : Prefix) (t : Token) (ts : List Token) (x : Stop) → d ≡ 0
    → Fails x (prefix_reader (readers d) op t ts)
unfolding prefix_reader
prefixing-deep d op t ts x h = none-fails x _ (rw (prefixed-zero d h) refl)

pub prefixing-fail2 : (d : ℕ) (op : Prefix) (t : Token) (ts : List Token) (k : ℕ) (x : Stop) → d ≡ k + 1
    → Fails x (unary_reader k ts) → Fails x (prefix_reader (readers d) op t ts)
unfolding prefix_reader
prefixing-fail2 d op t ts k x depth f = failing x _ _ (λ none. rw (prefixed-at d k depth, none) refl) f

pub prefixing-ok : (d : ℕ) (op : Prefix) (t : Token) (ts : List Token) (k : ℕ) (e : Tree) (us : List Token) → d ≡ k + 1
    → unary_reader k ts ≡ Some (e, us) → prefix_reader (readers d) op t ts ≡ Some (unary op t e, us)
unfolding prefix_reader
prefixing-ok d op t ts k e us depth h2 = rw (prefixed-at d k depth, h2) refl

pub operand-fail1 : (d l : ℕ) (ts : List Token) (x : Stop) → Fails x (unary_reader d ts) → Fails x (operand d l ts)
unfolding operand level unary_reader
operand-fail1 d l ts x f = failing x _ _ (λ none. rw (none) refl) f

pub expression-fail1 : (d : ℕ) (ts : List Token) (x : Stop) → Fails x (unary_reader d ts) → Fails x (expression d ts)
unfolding expression finish unary_reader
expression-fail1 d ts x f = failing x _ _ (λ none. rw (none) refl) f

pub choice-fail1 : (d : ℕ) (first : Tree) (ts : List Token) (x : Stop)
    → Fails x (climb (prefixed_with (readers d)) 9 first ts) → Fails x (finish d first ts)
unfolding finish choice_with
choice-fail1 d first ts x f = failing x _ _ (λ none. rw (none) refl) f

pub choice-deep : (d : ℕ) (first : Tree) (ts : List Token) (c : Tree) (us : List Token) (t : Token) (vs : List Token)
    (x : Stop) → climb (prefixed_with (readers d)) 9 first ts ≡ Some (c, us) → lead (has_precedence 10) us
    ≡ Some (t, vs) → d ≡ 0 → Fails x (finish d first ts)
unfolding finish choice_with
choice-deep d first ts c us t vs x h1 h2 h = none-fails x _ (rw (h1, h2, expr-zero d h) refl)

pub choice-fail4 : (d : ℕ) (first : Tree) (ts : List Token) (c : Tree) (us : List Token) (t : Token) (vs : List Token)
    (k : ℕ) (x : Stop) → climb (prefixed_with (readers d)) 9 first ts ≡ Some (c, us) → lead (has_precedence 10) us
    ≡ Some (t, vs) → d ≡ k + 1 → Fails x (expression k vs) → Fails x (finish d first ts)
unfolding finish choice_with
choice-fail4 d first ts c us t vs k x h1 h2 depth f =
    failing x _ _ (λ none. rw (h1, h2, expr-at d k depth, none) refl) f

pub choice-fail5 : (d : ℕ) (first : Tree) (ts : List Token) (c : Tree) (us : List Token) (t : Token) (vs : List Token)
    (k : ℕ) (a : Tree) (ws : List Token) (x : Stop) → climb (prefixed_with (readers d)) 9 first ts ≡ Some (c, us)
    → lead (has_precedence 10) us ≡ Some (t, vs) → d ≡ k + 1 → expression k vs ≡ Some (a, ws)
    → Fails x (expect Colon ws) → Fails x (finish d first ts)
unfolding finish choice_with
choice-fail5 d first ts c us t vs k a ws x h1 h2 depth h4 f =
    failing x _ _ (λ none. rw (h1, h2, expr-at d k depth, h4, none) refl) f

pub choice-fail6 : (d : ℕ) (first : Tree) (ts : List Token) (c : Tree) (us : List Token) (t : Token) (vs : List Token)
    (k : ℕ) (a : Tree) (ws : List Token) (q : Token) (xs : List Token) (x : Stop)
    → climb (prefixed_with (readers d)) 9 first ts ≡ Some (c, us) → lead (has_precedence 10) us ≡ Some (t, vs)
    → d ≡ k + 1 → expression k vs ≡ Some (a, ws) → expect Colon ws ≡ Some (q, xs) → Fails x (expression k xs)
    → Fails x (finish d first ts)
unfolding finish choice_with
choice-fail6 d first ts c us t vs k a ws q xs x h1 h2 depth h4 h5 f =
    failing x _ _ (λ none. rw (h1, h2, expr-at d k depth, h4, h5, none) refl) f

pub choice-ok : (d : ℕ) (first : Tree) (ts : List Token) (c : Tree) (us : List Token) (t : Token) (vs : List Token)
    (k : ℕ) (a : Tree) (ws : List Token) (q : Token) (xs : List Token) (b : Tree) (ys : List Token)
    → climb (prefixed_with (readers d)) 9 first ts ≡ Some (c, us) → lead (has_precedence 10) us ≡ Some (t, vs)
    → d ≡ k + 1 → expression k vs ≡ Some (a, ws) → expect Colon ws ≡ Some (q, xs) → expression k xs ≡ Some (b, ys)
    → finish d first ts ≡ Some (choice c a b, ys)
unfolding finish choice_with
choice-ok d first ts c us t vs k a ws q xs b ys h1 h2 depth h4 h5 h6 = rw (h1, h2, expr-at d k depth, h4, h5, h6) refl

pub lead-nil : (test : Token → Bool) (ts : List Token) → ts ≡ [] → lead test ts ≡ None
unfolding lead
lead-nil test ts e = rw e refl

pub lead-no : (test : Token → Bool) (ts : List Token) (t : Token) (us : List Token) → ts ≡ t ∷ us → false ≡ test t
    → lead test ts ≡ None
unfolding lead
lead-no test ts t us e h = rw (e, ← h) refl

pub lead-yes : (test : Token → Bool) (ts : List Token) (t : Token) (us : List Token) → ts ≡ t ∷ us → true ≡ test t
    → lead test ts ≡ Some (t, us)
unfolding lead
lead-yes test ts t us e h = rw (e, ← h) refl

pub expect-nil : (w : Terminal) (ts : List Token) → ts ≡ [] → expect w ts ≡ None
unfolding expect
expect-nil w ts e = lead-nil (is w) ts e

pub expect-no : (w : Terminal) (ts : List Token) (t : Token) (us : List Token) → ts ≡ t ∷ us → false ≡ is w t
    → expect w ts ≡ None
unfolding expect
expect-no w ts t us e h = lead-no (is w) ts t us e h

pub expect-yes : (w : Terminal) (ts : List Token) (t : Token) (us : List Token) → ts ≡ t ∷ us → true ≡ is w t
    → expect w ts ≡ Some (t, us)
unfolding expect
expect-yes w ts t us e h = lead-yes (is w) ts t us e h

pub operator-no : (k : ℕ) (ts : List Token) (t : Token) (us : List Token) → ts ≡ t ∷ us → (precedence t ≡ k → ⊥)
    → lead (has_precedence k) ts ≡ None
unfolding has_precedence
operator-no k ts t us e h = lead-no (has_precedence k) ts t us e (sym (ne_eqb (precedence t) k h))

pub operator-yes : (k : ℕ) (ts : List Token) (t : Token) (us : List Token) → ts ≡ t ∷ us → precedence t ≡ k
    → lead (has_precedence k) ts ≡ Some (t, us)
unfolding has_precedence
operator-yes k ts t us e h = lead-yes (has_precedence k) ts t us e (sym (eq-eqb (precedence t) k h))

pub infix-none : (l : ℕ) (ts : List Token) (t : Token) (us : List Token) → ts ≡ t ∷ us → None ≡ infix_of t
    → lead (is_infix l) ts ≡ None
unfolding is_infix
infix-none l ts t us e h = lead-no (is_infix l) ts t us e (ap (is_of_level l) h)

pub infix-other : (l : ℕ) (ts : List Token) (t : Token) (us : List Token) (op : Infix) → ts ≡ t ∷ us
    → Some op ≡ infix_of t → (infix_level op ≡ l → ⊥) → lead (is_infix l) ts ≡ None
unfolding is_infix
infix-other l ts t us op e h k =
    lead-no (is_infix l) ts t us e (sym (ne_eqb (infix_level op) l k) ∙ ap (is_of_level l) h)

pub infix-led : (l : ℕ) (ts : List Token) (t : Token) (us : List Token) (op : Infix) → ts ≡ t ∷ us
    → Some op ≡ infix_of t → infix_level op ≡ l → IsLed l ts op us
unfolding is_infix
infix-led l ts t us op e h k =
    record {
      token = t;
      led = lead-yes (is_infix l) ts t us e (sym (eq-eqb (infix_level op) l k) ∙ ap (is_of_level l) h);
      operator = sym h;
    }

pub word-nil : (ts : List Token) → ts ≡ [] → pick word_of ts ≡ None
unfolding pick
word-nil ts e = rw e refl

pub word-no : (ts : List Token) (t : Token) (us : List Token) → ts ≡ t ∷ us → false ≡ is_word t → pick word_of ts ≡ None
unfolding pick word_of
word-no ts t us e h = rw (e, ← h) refl

pub word-yes : (ts : List Token) (t : Token) (us : List Token) → ts ≡ t ∷ us → true ≡ is_word t
    → pick word_of ts ≡ Some (t, us)
unfolding pick word_of
word-yes ts t us e h = rw (e, ← h) refl

pub index-nil : (ts : List Token) → ts ≡ [] → pick index ts ≡ None
unfolding pick
index-nil ts e = rw e refl

pub index-no : (ts : List Token) (t : Token) (us : List Token) → ts ≡ t ∷ us → None ≡ index t → pick index ts ≡ None
unfolding pick
index-no ts t us e h = ap (pick index) e ∙ ap (λ (o : Option Index). option_map (λ a. (a, us)) o) (sym h)

pub index-yes : (ts : List Token) (t : Token) (us : List Token) (i : Index) → ts ≡ t ∷ us → Some i ≡ index t
    → pick index ts ≡ Some (i, us)
unfolding pick
index-yes ts t us i e h = ap (pick index) e ∙ ap (λ (o : Option Index). option_map (λ a. (a, us)) o) (sym h)

pub bound-nil : (a b : ℕ) (ts : List Token) → ts ≡ [] → pick (bound_within a b) ts ≡ None
unfolding pick
bound-nil a b ts e = rw e refl

pub bound-no : (a b : ℕ) (ts : List Token) (t : Token) (us : List Token) → ts ≡ t ∷ us → None ≡ bound_within a b t
    → pick (bound_within a b) ts ≡ None
unfolding pick
bound-no a b ts t us e h =
    ap (pick (bound_within a b)) e ∙ ap (λ (o : Option Bound). option_map (λ x. (x, us)) o) (sym h)

pub bound-yes : (a b : ℕ) (ts : List Token) (t : Token) (us : List Token) (n : Bound) → ts ≡ t ∷ us
    → Some n ≡ bound_within a b t → pick (bound_within a b) ts ≡ Some (n, us)
unfolding pick
bound-yes a b ts t us n e h =
    ap (pick (bound_within a b)) e ∙ ap (λ (o : Option Bound). option_map (λ x. (x, us)) o) (sym h)

pub optional-absent : {A : Type 0} (w : Terminal) (r : Reader A) (ts : List Token) → expect w ts ≡ None
    → optional w r ts ≡ Some (None, ts)
unfolding optional
optional-absent w r ts h = rw h refl

pub optional-present : {A : Type 0} (w : Terminal) (r : Reader A) (ts : List Token) (t : Token) (us : List Token)
    (a : A) (vs : List Token) → expect w ts ≡ Some (t, us) → r us ≡ Some (a, vs) → optional w r ts ≡ Some (Some a, vs)
unfolding optional
optional-present w r ts t us a vs h k = rw (h, k) refl

pub optional-fails : {A : Type 0} (w : Terminal) (r : Reader A) (ts : List Token) (t : Token) (us : List Token)
    (x : Stop) → expect w ts ≡ Some (t, us) → Fails x (r us) → Fails x (optional w r ts)
unfolding optional
optional-fails w r ts t us x h f = failing x _ _ (λ none. rw (h, none) refl) f

pub selected-deep : (d : ℕ) (ts : List Token) (t : Token) (us : List Token) → expect OpenSquare ts ≡ Some (t, us)
    → d ≡ 0 → optional OpenSquare (readers d).select ts ≡ None
unfolding optional
selected-deep d ts t us h z = rw (h, select-zero d z) refl

pub selected-fails : (d : ℕ) (ts : List Token) (t : Token) (us : List Token) (x : Stop) → expect OpenSquare ts
    ≡ Some (t, us) → (d ≡ 0 → ⊥) → Fails x (select us) → Fails x (optional OpenSquare (readers d).select ts)
unfolding optional
selected-fails d ts t us x h e f = failing x _ _ (λ none. rw (h, select-at d (d - 1) (below d e), none) refl) f

pub selected-read : (d : ℕ) (ts : List Token) (t : Token) (us : List Token) (s : Select) (vs : List Token)
    → expect OpenSquare ts ≡ Some (t, us) → (d ≡ 0 → ⊥) → select us ≡ Some (s, vs)
    → optional OpenSquare (readers d).select ts ≡ Some (Some s, vs)
unfolding optional
selected-read d ts t us s vs h e f = rw (h, select-at d (d - 1) (below d e), f) refl

pub prefixed-nil : (d : ℕ) (ts : List Token) → ts ≡ [] → unary_reader d ts ≡ None
unfolding unary_reader prefixed_with
prefixed-nil d ts e = rw e refl

pub prefixed-number : (d : ℕ) (ts : List Token) (t : Token) (us : List Token) (n : Number) → ts ≡ t ∷ us
    → marks.Number n ≡ mark t → unary_reader d ts ≡ Some (number n t, us)
unfolding unary_reader prefixed_with
prefixed-number d ts t us n e h = rw (e, ← h) refl

pub prefixed-named : (d : ℕ) (ts : List Token) (t : Token) (us : List Token) → ts ≡ t ∷ us → marks.Name ≡ mark t
    → unary_reader d ts ≡ name_reader (readers d) t us
unfolding unary_reader prefixed_with
prefixed-named d ts t us e h = rw (e, ← h) refl

pub prefixed-unary : (d : ℕ) (ts : List Token) (t : Token) (us : List Token) (op : Prefix) → ts ≡ t ∷ us
    → marks.Prefix op ≡ mark t → unary_reader d ts ≡ prefix_reader (readers d) op t us
unfolding unary_reader prefixed_with
prefixed-unary d ts t us op e h = rw (e, ← h) refl

pub prefixed-opening : (d : ℕ) (ts : List Token) (t : Token) (us : List Token) → ts ≡ t ∷ us → marks.Opening ≡ mark t
    → unary_reader d ts ≡ bracket_reader (readers d) us
unfolding unary_reader prefixed_with
prefixed-opening d ts t us e h = rw (e, ← h) refl

pub prefixed-brace : (d : ℕ) (ts : List Token) (t : Token) (us : List Token) → ts ≡ t ∷ us → marks.Brace ≡ mark t
    → unary_reader d ts ≡ concatenation_reader (readers d) t us
unfolding unary_reader prefixed_with
prefixed-brace d ts t us e h = rw (e, ← h) refl

pub prefixed-past : (d : ℕ) (ts : List Token) (t : Token) (us : List Token) → ts ≡ t ∷ us → marks.Past ≡ mark t
    → unary_reader d ts ≡ past_reader (readers d) t us
unfolding unary_reader prefixed_with
prefixed-past d ts t us e h = rw (e, ← h) refl

pub prefixed-other : (d : ℕ) (ts : List Token) (t : Token) (us : List Token) → ts ≡ t ∷ us → marks.Other ≡ mark t
    → unary_reader d ts ≡ None
unfolding unary_reader prefixed_with
prefixed-other d ts t us e h = rw (e, ← h) refl

pub prefixed-call : (d : ℕ) (ts : List Token) (t : Token) (us : List Token) (g : Function) → ts ≡ t ∷ us
    → marks.Call g ≡ mark t → unary_reader d ts ≡ call_reader (readers d) g t us
unfolding unary_reader prefixed_with
prefixed-call d ts t us g e h = rw (e, ← h) refl

pub climb-zero : (d l : ℕ) (first : Tree) (ts : List Token) → l ≡ 0 → climb (prefixed_with (readers d)) l first ts
    ≡ Some (first, ts)
unfolding climb
climb-zero d l first ts e = rw e refl

climb-suc : (d l : ℕ) (first : Tree) (ts : List Token) → (l ≡ 0 → ⊥) → climb (prefixed_with (readers d)) l first ts
    ≡ (climb (prefixed_with (readers d)) (l - 1) first ts >>= λ p. links (operand d (l - 1)) (l - 1) p.1
    >>= λ q. Some (chain_of p.0 q.0, q.1))
unfolding climb operand level
climb-suc d zero first ts h = absurd (h refl)
climb-suc d (suc l) first ts h =
    let e : l ≡ suc l - 1 = omega arith in
    ap (λ (n : ℕ). climb (prefixed_with (readers d)) n first ts >>= λ p. links (operand d n) n p.1
    >>= λ q. Some (chain_of p.0 q.0, q.1)) e

pub climb-fails : (d l : ℕ) (first : Tree) (ts : List Token) (x : Stop) → (l ≡ 0 → ⊥)
    → Fails x (climb (prefixed_with (readers d)) (l - 1) first ts)
    → Fails x (climb (prefixed_with (readers d)) l first ts)
climb-fails d l first ts x some f = failing x _ _ (λ none. climb-suc d l first ts some ∙ rw none refl) f

pub links-fails : (d l : ℕ) (first : Tree) (ts : List Token) (e : Tree) (us : List Token) (x : Stop) → (l ≡ 0 → ⊥)
    → climb (prefixed_with (readers d)) (l - 1) first ts ≡ Some (e, us)
    → Fails x (links (operand d (l - 1)) (l - 1) us) → Fails x (climb (prefixed_with (readers d)) l first ts)
links-fails d l first ts e us x some h f = failing x _ _ (λ none. climb-suc d l first ts some ∙ rw (h, none) refl) f

pub climb-read : (d l : ℕ) (first : Tree) (ts : List Token) (e : Tree) (us : List Token) (xs : List (Infix × Tree))
    (vs : List Token) → (l ≡ 0 → ⊥) → climb (prefixed_with (readers d)) (l - 1) first ts ≡ Some (e, us)
    → links (operand d (l - 1)) (l - 1) us ≡ Some (xs, vs) → climb (prefixed_with (readers d)) l first ts
    ≡ Some (chain_of e xs, vs)
climb-read d l first ts e us xs vs some h k = climb-suc d l first ts some ∙ rw (h, k) refl

pub finish-stop : (d : ℕ) (first : Tree) (ts : List Token) (c : Tree) (us : List Token)
    → climb (prefixed_with (readers d)) 9 first ts ≡ Some (c, us) → lead (has_precedence 10) us ≡ None
    → finish d first ts ≡ Some (c, us)
unfolding finish choice_with
finish-stop d first ts c us h k = rw (h, k) refl

pub operand-tail : (d l : ℕ) (ts : List Token) (e : Tree) (us : List Token) → unary_reader d ts ≡ Some (e, us)
    → operand d l ts ≡ climb (prefixed_with (readers d)) l e us
unfolding operand level unary_reader
operand-tail d l ts e us h = rw h refl

pub expression-tail : (d : ℕ) (ts : List Token) (e : Tree) (us : List Token) → unary_reader d ts ≡ Some (e, us)
    → expression d ts ≡ finish d e us
unfolding expression finish unary_reader
expression-tail d ts e us h = rw h refl

pub ruleset for_accept = (expect-nil, expect-no, expect-yes)

pub ruleset for_operator = (lead-nil, operator-no, operator-yes)

pub ruleset for_left_operator = (lead-nil, infix-none, infix-other, infix-led)

pub ruleset for_word = (word-nil, word-no, word-yes)

pub ruleset for_index = (index-nil, index-no, index-yes)

pub ruleset for_bound = (bound-nil, bound-no, bound-yes)

pub ruleset for_optional = (optional-absent, optional-present, optional-fails)

pub ruleset for_selected = (optional-absent, selected-deep, selected-fails, selected-read)
