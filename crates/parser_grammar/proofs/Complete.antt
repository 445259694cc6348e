-- What a tree spells is read as that tree.
use Rattle.std.proofs.Common.{◌≡◌, ℕ, zero, suc, ◌<◌, ◌≤◌, true, false, List, [], ◌∷◌, length, Option, Some, None, refl}
use Rattle.std.proofs.Common.{sym, ap, ◌∙◌, arith}
use Rattle.std.proofs.lemmas.Bool.{eqb-true, eq-eqb, ne_eqb}
use Rattle.lexer.specs.declared.token.Number.{Number}
use Rattle.lexer.specs.declared.token.Token.{Token}
use Rattle.lexer.specs.declared.token.Kind.{Kind}
use Rattle.parser_grammar.specs.declared.bound.Bound.{Bound}
use Rattle.parser_grammar.specs.declared.bound.Select.{Select}
use Rattle.parser_grammar.specs.declared.mark.Function.{Function}
use Rattle.parser_grammar.specs.declared.mark.Mark.TheVariants as marks
use Rattle.parser_grammar.specs.declared.operator.Infix.{Infix}
use Rattle.parser_grammar.specs.declared.operator.Prefix.{Prefix}
use Rattle.parser_grammar.specs.declared.terminal.Terminal.{Terminal}
use Rattle.parser_grammar.specs.declared.terminal.Terminal.TheVariants as words
use Rattle.parser_grammar.specs.declared.terminal.Terminal.TheVariants.{OpenRound, CloseRound, CloseBrace, OpenSquare}
use Rattle.parser_grammar.specs.declared.terminal.Terminal.TheVariants.{CloseSquare, Comma, Colon, Dot}
use Rattle.parser_grammar.specs.Terminals.{terminal, names, is, is_name}
use Rattle.parser_grammar.specs.Bounds.{index, bound_within}
use Rattle.parser_grammar.specs.Operators.{infix_of_terminal, infix_of, infix_level, is_of_level, is_infix}
use Rattle.parser_grammar.specs.Marks.{mark, mark_of_terminal, precedence, precedence_by, precedence_of_terminal}
use Rattle.parser_grammar.specs.Marks.{next_precedence, has_precedence}
use Rattle.parser_grammar.specs.Trees.{Tree, number, path, concatenation, past, call, unary, chain, choice, Links, end}
use Rattle.parser_grammar.specs.Trees.{link}
use Rattle.parser_grammar.specs.Trees.{Parts, no_part, part}
use Rattle.parser_grammar.specs.Expressions.{AreMembers, no_member, member, IsPath, name, IsSelected, whole, bit, bits}
use Rattle.parser_grammar.specs.Expressions.{IsTicks, one_tick, some_ticks, Operand, is_number, is_path}
use Rattle.parser_grammar.specs.Expressions.{is_concatenation}
use Rattle.parser_grammar.specs.Expressions.{in_brackets, is_past, is_call, is_unary, is_tighter, is_chain, Follows}
use Rattle.parser_grammar.specs.Expressions.{no_more}
use Rattle.parser_grammar.specs.Expressions.{one_more, AreParts, no_parts, one_part, Spells, is_operand, is_choice}
use Rattle.parser_grammar.specs.Readers.{◌>>=◌, Reader, lead, expect, pick, optional, many, each}
use Rattle.parser_grammar.specs.ReadExpressions.{name_of, word_of, members, path_words, select, Inner, links_of}
use Rattle.parser_grammar.specs.ReadExpressions.{parts_of}
use Rattle.parser_grammar.specs.ReadExpressions.{name_reader, bracket_reader, concatenation_reader, past_reader}
use Rattle.parser_grammar.specs.ReadExpressions.{call_reader}
use Rattle.parser_grammar.specs.ReadExpressions.{prefix_reader, prefixed_with, link_reader, links, chain_of, climb}
use Rattle.parser_grammar.specs.ReadExpressions.{level}
use Rattle.parser_grammar.specs.ReadExpressions.{choice_with, expr_with, readers}
use Rattle.parser_grammar.proofs.TerminalLaws.{true-is}
use Rattle.parser_grammar.proofs.ReaderLaws.{bind-assoc, lead-true, lead-false, lead-nil, expect-is, expect-not}
use Rattle.parser_grammar.proofs.ReaderLaws.{expect-precedence, pick-is, optional-none, optional-is, many-none}
use Rattle.parser_grammar.proofs.ReaderLaws.{many-more}
use Rattle.parser_grammar.proofs.ReaderLaws.{precedence-Dot, precedence-OpenSquare, precedence-Comma, precedence-Colon}
use Rattle.parser_grammar.proofs.ReaderLaws.{precedence-CloseRound, precedence-CloseBrace}

abbrev pub base : ℕ → Reader Tree
base d = prefixed_with (readers d)

abbrev pub expr : ℕ → Reader Tree
expr d = expr_with (readers d) (prefixed_with (readers d))

-- levels
bind-some_self : (o : Option (Tree × List Token)) → (o >>= λ p. Some (p.0, p.1)) ≡ o
bind-some_self None = refl
bind-some_self (Some p) = refl

pub level-zero : (b : Reader Tree) (ts : List Token) → level b zero ts ≡ b ts
unfolding level climb
level-zero b ts = bind-some_self (b ts)

pub level-suc : (b : Reader Tree) (l : ℕ) (ts : List Token) → level b (suc l) ts
    ≡ (level b l ts >>= λ p. links (level b l) l p.1 >>= λ q. Some (chain_of p.0 q.0, q.1))
unfolding level climb
level-suc b l ts =
    sym (bind-assoc (b ts) (λ (p : Tree × List Token). climb b l p.0 p.1)
    (λ (p : Tree × List Token). links (level b l) l p.1 >>= λ q. Some (chain_of p.0 q.0, q.1)))

level-on : (b : Reader Tree) (l : ℕ) (e : Tree) (more : List (Infix × Tree)) (ts us rest : List Token)
    → level b l ts ≡ Some (e, us) → links (level b l) l us ≡ Some (more, rest) → level b (suc l) ts
    ≡ Some (chain_of e more, rest)
level-on b l e more ts us rest a k = level-suc b l ts ∙ rw (a, k) refl

-- an expression is the loosest operand, and what makes a choice of it
pub expr-is : (inner : Inner) (b : Reader Tree) (ts : List Token) → expr_with inner b ts
    ≡ (level b 9 ts >>= λ p. choice_with inner.expr p.0 p.1)
unfolding level
expr-is inner b ts =
    sym (bind-assoc (b ts) (λ (p : Tree × List Token). climb b 9 p.0 p.1)
    (λ (p : Tree × List Token). choice_with inner.expr p.0 p.1))

-- operators
lead-precedence : (k : ℕ) (ts : List Token) → (next_precedence ts ≡ k → ⊥) → lead (has_precedence k) ts ≡ None
unfolding has_precedence
lead-precedence k [] h = lead-nil (has_precedence k)
lead-precedence k (t ∷ ts) h = lead-false (has_precedence k) t ts (ne_eqb (precedence t) k h)

-- left operators
infix-loose : (w : Terminal) (k : Kind) (op : Infix) → infix_of_terminal w k ≡ Some op → precedence_of_terminal w k
    ≡ infix_level op
infix-loose words.Operator k op h = ap (λ (o : Option Infix). precedence_by o k) h
infix-loose _ k op h = absurd cc

infix-precedence : (t : Token) (op : Infix) → infix_of t ≡ Some op → precedence t ≡ infix_level op
unfolding infix_of precedence
infix-precedence t op h = infix-loose (terminal t) t.kind op h

infix-is : (l : ℕ) (t : Token) (op : Infix) → infix_of t ≡ Some op → infix_level op ≡ l → is_infix l t ≡ true
unfolding is_infix
infix-is l t op h k = ap (is_of_level l) h ∙ eq-eqb (infix_level op) l k

pub infix-level : (l : ℕ) (t : Token) (op : Infix) → infix_of t ≡ Some op → is_infix l t ≡ true → infix_level op ≡ l
unfolding is_infix
infix-level l t op h k = eqb-true (infix_level op) l (sym (ap (is_of_level l) h) ∙ k)

infix-not : (l : ℕ) (t : Token) (o : Option Infix) → infix_of t ≡ o → (precedence t ≡ l → ⊥) → is_of_level l o ≡ false
infix-not l t None e h = refl
infix-not l t (Some op) e h = ne_eqb (infix_level op) l (λ k. h (infix-precedence t op e ∙ k))

lead-infix : (l : ℕ) (ts : List Token) → (next_precedence ts ≡ l → ⊥) → lead (is_infix l) ts ≡ None
unfolding is_infix
lead-infix l [] h = lead-nil (is_infix l)
lead-infix l (t ∷ ts) h = lead-false (is_infix l) t ts (infix-not l t (infix_of t) refl h)

link-read : (operand : Reader Tree) (t : Token) (op : Infix) (e : Tree) (ts us : List Token) → infix_of t ≡ Some op
    → operand ts ≡ Some (e, us) → link_reader operand t ts ≡ Some ((op, e), us)
unfolding link_reader
link-read operand t op e ts us h k = rw (h, k) refl

choice-none : (inner : Reader Tree) (c : Tree) (ts : List Token) → 10 < next_precedence ts → choice_with inner c ts
    ≡ Some (c, ts)
unfolding choice_with
choice-none inner c ts h = rw (lead-precedence 10 ts (λ e. omega arith)) refl

choice-some : (inner : Reader Tree) (t u : Token) (c a b : Tree) (us vs rest : List Token) → precedence t ≡ 10
    → terminal u ≡ Colon → inner us ≡ Some (a, u ∷ vs) → inner vs ≡ Some (b, rest) → choice_with inner c (t ∷ us)
    ≡ Some (choice c a b, rest)
unfolding choice_with has_precedence
choice-some inner t u c a b us vs rest h k p q =
    rw (lead-true (has_precedence 10) t us (eq-eqb (precedence t) 10 h), p, expect-is Colon u vs k, q) refl

-- ghost lists as lists
pub list_of : Links → List (Infix × Tree)
list_of end = []
list_of (link op e more) = (op, e) ∷ list_of more

links_of-list : (more : Links) → links_of (list_of more) ≡ more
unfolding list_of
links_of-list end = refl
links_of-list (link op e more) = ap (link op e) (links_of-list more)

joined-list : (first : Tree) (op : Infix) (e : Tree) (more : Links) → chain_of first (list_of (link op e more))
    ≡ chain first (link op e more)
unfolding list_of
joined-list first op e more = ap (λ (l : Links). chain first (link op e l)) (links_of-list more)

joined-none : (first : Tree) → chain_of first (list_of end) ≡ first
unfolding list_of
joined-none first = refl

pub list_of_parts : Parts → List Tree
list_of_parts no_part = []
list_of_parts (part e more) = e ∷ list_of_parts more

parts_of-list : (more : Parts) → parts_of (list_of_parts more) ≡ more
unfolding list_of_parts
parts_of-list no_part = refl
parts_of-list (part e more) = ap (part e) (parts_of-list more)

-- names and paths
name-mark_terminal : (w : Terminal) (k : Kind) → names w ≡ true → mark_of_terminal w k ≡ marks.Name
name-mark_terminal words.Counter k h = refl
name-mark_terminal words.Clear k h = refl
name-mark_terminal words.Load k h = refl
name-mark_terminal words.Add k h = refl
name-mark_terminal words.Sub k h = refl
name-mark_terminal words.Name k h = refl
name-mark_terminal _ k h = absurd cc

pub name-mark : (t : Token) → is_name t ≡ true → mark t ≡ marks.Name
unfolding is_name mark
name-mark t h = name-mark_terminal (terminal t) t.kind h

members-many : {more ts rest : List Token} → AreMembers more ts rest → (n : ℕ) → length ts ≤ n → expect Dot rest ≡ None
    → many (is Dot) (λ dot. pick word_of) n ts ≡ Some (more, rest)
unfolding expect word_of
members-many (no_member {ts = ts}) n le h = many-none (is Dot) (λ dot. pick word_of) n ts h
members-many (member k w m) zero le h = absurd (omega arith)
members-many (member {dot = dot} {t = t} {more = more} {ts = ts} {rest = rest} k w m) (suc n) le h =
    many-more (is Dot) (λ dot. pick word_of) n dot (t ∷ ts) t ts more rest (true-is Dot dot k)
    (pick-is word_of t t ts (rw w refl)) (members-many m n (omega arith) h)

pub members-read : {more ts rest : List Token} → AreMembers more ts rest → expect Dot rest ≡ None
    → members ts ≡ Some (more, rest)
unfolding members each
members-read {ts = ts} m h = members-many m (length ts) (omega arith) h

no_dot : (ts : List Token) → 0 < next_precedence ts → expect Dot ts ≡ None
no_dot ts h = expect-precedence Dot 0 precedence-Dot ts (λ e. omega arith)

pub path-read : {words ts rest : List Token} → IsPath words ts rest → 0 < next_precedence rest
    → path_words ts ≡ Some (words, rest)
unfolding path_words name_of
path-read (name {t = t} {more = more} {ts = ts} {rest = rest} n m) le =
    rw (pick-is name_of t t ts (rw n refl), members-read m (no_dot rest le)) refl

selected-no_dot : {d : ℕ} {s : Option Select} {ts rest : List Token} → IsSelected d s ts rest → 0 < next_precedence rest
    → expect Dot ts ≡ None
selected-no_dot (whole {ts = ts}) le = no_dot ts le
selected-no_dot (bit {left = left} {n = n} {right = right} {rest = rest} o i c) le =
    expect-not Dot left (n ∷ right ∷ rest) (λ e. absurd cc)
selected-no_dot (bits {left = left} {n = n} {colon = colon} {m = m} {right = right} {rest = rest} o i k j c) le =
    expect-not Dot left (n ∷ colon ∷ m ∷ right ∷ rest) (λ e. absurd cc)

selected-read : {d : ℕ} {s : Option Select} {ts rest : List Token} → IsSelected d s ts rest → 0 < next_precedence rest
    → optional OpenSquare (readers d).select ts ≡ Some (s, rest)
unfolding readers select
selected-read (whole {d = d} {ts = ts}) le =
    optional-none OpenSquare (readers d).select ts
    (expect-precedence OpenSquare 0 precedence-OpenSquare ts (λ e. omega arith))
selected-read (bit {left = left} {n = n} {right = right} {i = i} {rest = rest} o k c) le =
    optional-is OpenSquare select left (n ∷ right ∷ rest) _ rest o
    (rw (
      pick-is index i n (right ∷ rest) k,
      optional-none Colon (pick index) (right ∷ rest) (expect-not Colon right rest (λ e. absurd cc)),
      expect-is CloseSquare right rest c,
    ) refl)
selected-read (bits {left = left} {n = n} {colon = colon} {m = m} {right = right} {i = i} {j = j} {rest = rest} o k l h
    c) le =
    optional-is OpenSquare select left (n ∷ colon ∷ m ∷ right ∷ rest) _ rest o
    (rw (
      pick-is index i n (colon ∷ m ∷ right ∷ rest) k,
      optional-is Colon (pick index) colon (m ∷ right ∷ rest) j (right ∷ rest) l
          (pick-is index j m (right ∷ rest) h),
      expect-is CloseSquare right rest c,
    ) refl)

named-read : (d : ℕ) (t : Token) (more : List Token) (s : Option Select) (ts us rest : List Token) → is_name t ≡ true
    → AreMembers more ts us → IsSelected d s us rest → 0 < next_precedence rest
    → base d (t ∷ ts) ≡ Some (path (t ∷ more) s, rest)
unfolding prefixed_with name_reader
named-read d t more s ts us rest n m sel le =
    rw (name-mark t n, members-read m (selected-no_dot sel le), selected-read sel le) refl

-- what stands inside, one deeper
bracketed-read : (d : ℕ) (e : Tree) (right : Token) (ts rest : List Token) → expr d ts ≡ Some (e, right ∷ rest)
    → terminal right ≡ CloseRound → bracket_reader (readers (suc d)) ts ≡ Some (e, rest)
unfolding bracket_reader readers
bracketed-read d e right ts rest h c = rw (h, expect-is CloseRound right rest c) refl

brackets-read : (d : ℕ) (left right : Token) (e : Tree) (ts rest : List Token) → mark left ≡ marks.Opening
    → expr d ts ≡ Some (e, right ∷ rest) → terminal right ≡ CloseRound → base (suc d) (left ∷ ts) ≡ Some (e, rest)
unfolding prefixed_with
brackets-read d left right e ts rest m h c = rw m (bracketed-read d e right ts rest h c)

concatenation-read : (d : ℕ) (left right : Token) (e : Tree) (xs : List Tree) (ts us rest : List Token)
    → mark left ≡ marks.Brace → expr d ts ≡ Some (e, us) → each (is Comma) (λ comma. expr d) us
    ≡ Some (xs, right ∷ rest) → terminal right ≡ CloseBrace
    → base (suc d) (left ∷ ts) ≡ Some (concatenation left e (parts_of xs), rest)
unfolding prefixed_with concatenation_reader readers
concatenation-read d left right e xs ts us rest m h k c = rw (m, h, k, expect-is CloseBrace right rest c) refl

ticks-read : {ticks : Option Bound} {ts : List Token} {right : Token} {rest : List Token}
    → IsTicks ticks ts (right ∷ rest) → terminal right ≡ CloseRound → optional Comma (pick (bound_within 1 64)) ts
    ≡ Some (ticks, right ∷ rest)
ticks-read {right = right} {rest = rest} one_tick c =
    optional-none Comma (pick (bound_within 1 64)) (right ∷ rest) (expect-not Comma right rest (λ e. absurd cc))
ticks-read {right = right} {rest = rest} (some_ticks {comma = comma} {n = n} {b = b} k h) c =
    optional-is Comma (pick (bound_within 1 64)) comma (n ∷ right ∷ rest) b (right ∷ rest) k
    (pick-is (bound_within 1 64) b n (right ∷ rest) h)

ticks-next : {ticks : Option Bound} {ts : List Token} {right : Token} {rest : List Token}
    → IsTicks ticks ts (right ∷ rest) → terminal right ≡ CloseRound → next_precedence ts ≡ 100
ticks-next {right = right} one_tick c = precedence-CloseRound right c
ticks-next (some_ticks {comma = comma} k h) c = precedence-Comma comma k

past-read : (d : ℕ) (f left right : Token) (e : Tree) (ticks : Option Bound) (ts us rest : List Token)
    → mark f ≡ marks.Past → terminal left ≡ OpenRound → expr d ts ≡ Some (e, us)
    → optional Comma (pick (bound_within 1 64)) us ≡ Some (ticks, right ∷ rest) → terminal right ≡ CloseRound
    → base (suc d) (f ∷ left ∷ ts) ≡ Some (past f e ticks, rest)
unfolding prefixed_with past_reader readers
past-read d f left right e ticks ts us rest m o h k c =
    rw (m, expect-is OpenRound left ts o, h, k, expect-is CloseRound right rest c) refl

call-read : (d : ℕ) (g : Function) (f left right : Token) (e : Tree) (ts rest : List Token) → mark f ≡ marks.Call g
    → terminal left ≡ OpenRound → expr d ts ≡ Some (e, right ∷ rest) → terminal right ≡ CloseRound
    → base (suc d) (f ∷ left ∷ ts) ≡ Some (call g f e, rest)
unfolding prefixed_with call_reader
call-read d g f left right e ts rest m o h c =
    rw (m, expect-is OpenRound left ts o, bracketed-read d e right ts rest h c) refl

unary-read : (d : ℕ) (op : Prefix) (t : Token) (e : Tree) (ts rest : List Token) → mark t ≡ marks.Prefix op
    → base d ts ≡ Some (e, rest) → base (suc d) (t ∷ ts) ≡ Some (unary op t e, rest)
unfolding prefixed_with prefix_reader readers
unary-read d op t e ts rest m h = rw (m, h) refl

-- lengths
members-shorter : {more ts rest : List Token} → AreMembers more ts rest → length rest ≤ length ts
members-shorter no_member = omega arith
members-shorter (member k w m) = omega (arith, members-shorter m)

pub path-shorter : {words ts rest : List Token} → IsPath words ts rest → length rest < length ts
path-shorter (name n m) = omega (arith, members-shorter m)

selected-shorter : {d : ℕ} {s : Option Select} {ts rest : List Token} → IsSelected d s ts rest → length rest ≤ length ts
selected-shorter whole = omega arith
selected-shorter (bit o i c) = omega arith
selected-shorter (bits o i k j c) = omega arith

ticks-shorter : {ticks : Option Bound} {ts rest : List Token} → IsTicks ticks ts rest → length rest ≤ length ts
ticks-shorter one_tick = omega arith
ticks-shorter (some_ticks k h) = omega arith

mutual
  pub operand-shorter : {d l : ℕ} {e : Tree} {ts rest : List Token} → Operand d l e ts rest → length rest < length ts
  operand-shorter (is_number h) = omega arith
  operand-shorter (is_path p s) = omega (arith, path-shorter p, selected-shorter s)
  operand-shorter (is_concatenation m s p c) = omega (arith, spells-shorter s, parts-shorter p)
  operand-shorter (in_brackets m s c) = omega (arith, spells-shorter s)
  operand-shorter (is_past m o s t c) = omega (arith, spells-shorter s, ticks-shorter t)
  operand-shorter (is_call m o s c) = omega (arith, spells-shorter s)
  operand-shorter (is_unary h o) = omega (arith, operand-shorter o)
  operand-shorter (is_tighter o) = operand-shorter o
  operand-shorter (is_chain o f) = omega (arith, operand-shorter o, follows-shorter f)

  pub follows-shorter : {d l : ℕ} {more : Links} {ts rest : List Token} → Follows d l more ts rest
      → length rest ≤ length ts
  follows-shorter no_more = omega arith
  follows-shorter (one_more h k o f) = omega (arith, operand-shorter o, follows-shorter f)

  pub parts-shorter : {d : ℕ} {more : Parts} {ts rest : List Token} → AreParts d more ts rest → length rest ≤ length ts
  parts-shorter no_parts = omega arith
  parts-shorter (one_part k s p) = omega (arith, spells-shorter s, parts-shorter p)

  pub spells-shorter : {d : ℕ} {e : Tree} {ts rest : List Token} → Spells d e ts rest → length rest < length ts
  spells-shorter (is_operand o) = operand-shorter o
  spells-shorter (is_choice h k o s v) = omega (arith, operand-shorter o, spells-shorter s, spells-shorter v)

follows-precedence : {d l : ℕ} {op : Infix} {e : Tree} {more : Links} {ts rest : List Token}
    → Follows d l (link op e more) ts rest → next_precedence ts ≡ suc l
follows-precedence (one_more {op = op} {t = t} h k o f) = infix-precedence t op h ∙ k

follows-next : {d l : ℕ} {more : Links} {ts rest : List Token} → Follows d l more ts rest → suc l < next_precedence rest
    → l < next_precedence ts
follows-next no_more le = omega arith
follows-next (one_more {op = op} {t = t} h k o f) le = omega (arith, infix-precedence t op h)

parts-next : {d : ℕ} {more : Parts} {ts rest : List Token} → AreParts d more ts rest → 10 < next_precedence rest
    → 10 < next_precedence ts
parts-next no_parts le = le
parts-next (one_part {comma = comma} k s p) le = omega (arith, precedence-Comma comma k)

pub links-none : (operand : Reader Tree) (l : ℕ) (ts : List Token) → suc l < next_precedence ts → links operand l ts
    ≡ Some ([], ts)
unfolding links each
links-none operand l ts h =
    many-none (is_infix (suc l)) (link_reader operand) (length ts) ts (lead-infix (suc l) ts (λ e. omega arith))

number-read : (d : ℕ) (n : Number) (t : Token) (rest : List Token) → mark t ≡ marks.Number n
    → base d (t ∷ rest) ≡ Some (number n t, rest)
unfolding prefixed_with
number-read d n t rest h = rw h refl

mutual
  unfolding list_of list_of_parts links each expect readers

  pub operand-read : {d l : ℕ} {e : Tree} {ts rest : List Token} → Operand d l e ts rest → l < next_precedence rest
      → level (base d) l ts ≡ Some (e, rest)
  operand-read (is_number {d = d} {n = n} {t = t} {rest = rest} h) le =
      level-zero (base d) (t ∷ rest) ∙ number-read d n t rest h
  operand-read (is_path {d = d} {us = us} {rest = rest} (name {t = t} {more = more} {ts = ts} n m) s) le =
      level-zero (base d) (t ∷ ts) ∙ named-read d t more _ ts us rest n m s le
  operand-read (is_concatenation {d = d} {left = left} {right = right} {e = e} {more = more} {ts = ts} {us = us}
      {rest = rest} m s p c) le =
      level-zero (base (suc d)) (left ∷ ts)
      ∙ concatenation-read d left right e (list_of_parts more) ts us rest m
      (spells-read s (parts-next p (omega (arith, precedence-CloseBrace right c))))
      (parts-many p (length us) (omega arith) (omega (arith, precedence-CloseBrace right c))
      (expect-not Comma right rest (λ h. absurd cc))) c
      ∙ ap (λ (x : Parts). Some (concatenation left e x, rest)) (parts_of-list more)
  operand-read (in_brackets {d = d} {left = left} {right = right} {e = e} {ts = ts} {rest = rest} m s c) le =
      level-zero (base (suc d)) (left ∷ ts)
      ∙ brackets-read d left right e ts rest m (spells-read s (omega (arith, precedence-CloseRound right c))) c
  operand-read (is_past {d = d} {f = f} {left = left} {right = right} {e = e} {ticks = ticks} {ts = ts} {us = us}
      {rest = rest} m o s t c) le =
      level-zero (base (suc d)) (f ∷ left ∷ ts)
      ∙ past-read d f left right e ticks ts us rest m o (spells-read s (omega (arith, ticks-next t c)))
      (ticks-read t c) c
  operand-read (is_call {d = d} {g = g} {f = f} {left = left} {right = right} {e = e} {ts = ts} {rest = rest} m o s c)
      le =
      level-zero (base (suc d)) (f ∷ left ∷ ts)
      ∙ call-read d g f left right e ts rest m o (spells-read s (omega (arith, precedence-CloseRound right c))) c
  operand-read (is_unary {d = d} {op = op} {t = t} {e = e} {ts = ts} {rest = rest} h o) le =
      level-zero (base (suc d)) (t ∷ ts)
      ∙ unary-read d op t e ts rest h (sym (level-zero (base d) ts) ∙ operand-read o le)
  operand-read (is_tighter {d = d} {l = l} {e = e} {ts = ts} {rest = rest} o) le =
      level-on (base d) l e (list_of end) ts rest rest (operand-read o (omega arith))
      (links-none (level (base d) l) l rest le) ∙ ap (λ (x : Tree). Some (x, rest)) (joined-none e)
  operand-read (is_chain {d = d} {l = l} {op = op} {first = first} {e = e} {more = more} {ts = ts} {us = us}
      {rest = rest} o f) le =
      level-on (base d) l first (list_of (link op e more)) ts us rest
      (operand-read o (omega (arith, follows-precedence f))) (follows-many f (length us) (omega arith) le)
      ∙ ap (λ (x : Tree). Some (x, rest)) (joined-list first op e more)

  follows-many : {d l : ℕ} {more : Links} {ts rest : List Token} → Follows d l more ts rest → (n : ℕ) → length ts ≤ n
      → suc l < next_precedence rest
      → many (is_infix (suc l)) (link_reader (level (base d) l)) n ts ≡ Some (list_of more, rest)
  follows-many (no_more {d = d} {l = l} {ts = ts}) n len le =
      many-none (is_infix (suc l)) (link_reader (level (base d) l)) n ts (lead-infix (suc l) ts (λ e. omega arith))
  follows-many (one_more h k o f) zero len le = absurd (omega arith)
  follows-many (one_more {d = d} {l = l} {op = op} {t = t} {e = e} {more = more} {ts = ts} {us = us} {rest = rest} h k o
      f) (suc n) len le =
      many-more (is_infix (suc l)) (link_reader (level (base d) l)) n t ts (op, e) us (list_of more) rest
      (infix-is (suc l) t op h k)
      (link-read (level (base d) l) t op e ts us h (operand-read o (follows-next f le)))
      (follows-many f n (omega (arith, operand-shorter o)) le)

  parts-many : {d : ℕ} {more : Parts} {ts rest : List Token} → AreParts d more ts rest → (n : ℕ) → length ts ≤ n
      → 10 < next_precedence rest → expect Comma rest ≡ None → many (is Comma) (λ comma. expr d) n ts
      ≡ Some (list_of_parts more, rest)
  parts-many (no_parts {d = d} {ts = ts}) n len le h = many-none (is Comma) (λ comma. expr d) n ts h
  parts-many (one_part k s p) zero len le h = absurd (omega arith)
  parts-many (one_part {d = d} {comma = comma} {e = e} {more = more} {ts = ts} {us = us} {rest = rest} k s p) (suc n)
      len le h =
      many-more (is Comma) (λ comma. expr d) n comma ts e us (list_of_parts more) rest (true-is Comma comma k)
      (spells-read s (parts-next p le)) (parts-many p n (omega (arith, spells-shorter s)) le h)

  pub spells-read : {d : ℕ} {e : Tree} {ts rest : List Token} → Spells d e ts rest → 10 < next_precedence rest
      → expr d ts ≡ Some (e, rest)
  spells-read (is_operand {d = d} {e = e} {ts = ts} {rest = rest} o) le =
      expr-is (readers d) (base d) ts ∙ rw (operand-read o (omega arith)) (choice-none (readers d).expr e rest le)
  spells-read (is_choice {d = d} {t = t} {colon = colon} {c = c} {a = a} {b = b} {ts = ts} {us = us} {vs = vs}
      {rest = rest} h k o s v) le =
      expr-is (readers (suc d)) (base (suc d)) ts
      ∙ rw (operand-read o (omega arith))
      (choice-some (readers (suc d)).expr t colon c a b us vs rest h k
      (spells-read s (omega (arith, precedence-Colon colon k))) (spells-read v le))
