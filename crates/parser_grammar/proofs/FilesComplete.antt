-- What a file spells is read as it.
use Rattle.std.proofs.Common.{◌≡◌, ℕ, zero, suc, ◌<◌, ◌≤◌, true, false, List, [], ◌∷◌, length, Option, Some, None, refl}
use Rattle.std.proofs.Common.{sym, ap, ◌∙◌, arith, inl, inr}
use Rattle.lexer.specs.declared.token.Token.{Token}
use Rattle.parser_grammar.specs.declared.bound.Bound.{Bound}
use Rattle.parser_grammar.specs.declared.terminal.Terminal.{Terminal}
use Rattle.parser_grammar.specs.declared.terminal.Terminal.TheVariants as word
use Rattle.parser_grammar.specs.declared.terminal.Terminal.TheVariants.{OpenRound, CloseRound, OpenSquare, CloseSquare}
use Rattle.parser_grammar.specs.declared.terminal.Terminal.TheVariants.{Comma}
use Rattle.parser_grammar.specs.declared.terminal.Terminal.TheVariants.{Semicolon, Colon, AtSign, Posedge, Disable, Iff}
use Rattle.parser_grammar.specs.declared.terminal.Terminal.TheVariants.{EndSequence, End, Delay}
use Rattle.parser_grammar.specs.Terminals.{terminal, names, is_name}
use Rattle.parser_grammar.specs.Bounds.{bound_within}
use Rattle.parser_grammar.specs.Marks.{mark, next_precedence}
use Rattle.parser_grammar.specs.Trees.{Tree, PropertyForm, CounterForm, DeclarationForm, AssertionForm, ItemForm}
use Rattle.parser_grammar.specs.Trees.{counter}
use Rattle.parser_grammar.specs.Trees.{declaration, assertion}
use Rattle.parser_grammar.specs.Expressions.{IsPath, Spells}
use Rattle.parser_grammar.specs.Sequences.{IsProperty, is_plain, is_implication, is_first, bracketed}
use Rattle.parser_grammar.specs.Files.{in_one, in_two, IsClear, no_clear, clear, IsClause, no_clause, clause}
use Rattle.parser_grammar.specs.Files.{SpellsCounter}
use Rattle.parser_grammar.specs.Files.{is_counter, IsClosing, no_closing, closing, IsEnding, ending, with_semicolon}
use Rattle.parser_grammar.specs.Files.{SpellsDeclaration, is_declaration, is_verb, IsDisable, no_disable, disable}
use Rattle.parser_grammar.specs.Files.{IsLabel}
use Rattle.parser_grammar.specs.Files.{no_label, label, SpellsAssertion, is_assertion, SpellsItem, a_counter}
use Rattle.parser_grammar.specs.Files.{a_declaration}
use Rattle.parser_grammar.specs.Files.{an_assertion, AreItems, no_item, one_item, HasAssertion, IsFile}
use Rattle.parser_grammar.specs.Readers.{lead, expect, pick, optional, many, each}
use Rattle.parser_grammar.specs.ReadExpressions.{name_of, expression, prefixed_with}
use Rattle.parser_grammar.specs.ReadSequences.{body_with, during_with, whole_with, whole, property_with, property}
use Rattle.parser_grammar.specs.ReadFiles.{one_operand, two_operands, counter_head, counter_item, again_of, skip}
use Rattle.parser_grammar.specs.ReadFiles.{ending_of}
use Rattle.parser_grammar.specs.ReadFiles.{declaration_item, is_verb_token, opening_words, clock_words, disable_reader}
use Rattle.parser_grammar.specs.ReadFiles.{property_end, assertion_item, label_reader, declaration_reader, item}
use Rattle.parser_grammar.specs.ReadFiles.{asserts}
use Rattle.parser_grammar.specs.ReadFiles.{is_more, items, ReadsFile}
use Rattle.parser_grammar.proofs.TerminalLaws.{true-is, false-is}
use Rattle.parser_grammar.proofs.ReaderLaws.{lead-true, lead-false, expect-is, expect-not, expect-some, pick-is}
use Rattle.parser_grammar.proofs.ReaderLaws.{optional-none}
use Rattle.parser_grammar.proofs.ReaderLaws.{optional-is, many-none, many-more, precedence-Comma, precedence-CloseRound}
use Rattle.parser_grammar.proofs.ReaderLaws.{precedence-Semicolon, precedence-EndSequence}
use Rattle.parser_grammar.proofs.Complete.{path-read, path-shorter, spells-read, spells-shorter}
use Rattle.parser_grammar.proofs.SequencesComplete.{sequence-shorter}
use Rattle.parser_grammar.proofs.PropertyLaws.{whole-read, property-read, unled-other}

expression-read : {d : ℕ} {e : Tree} {ts rest : List Token} → Spells d e ts rest → 10 < next_precedence rest
    → expression d ts ≡ Some (e, rest)
unfolding expression
expression-read s le = spells-read s le

-- names are no other terminals
name-not : (t : Token) (w : Terminal) → is_name t ≡ true → names w ≡ false → terminal t ≡ w → ⊥
unfolding is_name
name-not t w h k e = let same : names (terminal t) ≡ names w = ap names e in cc

no_name : (t : Token) (w : Terminal) → names w ≡ false → terminal t ≡ w → is_name t ≡ false
unfolding is_name
no_name t w k e = ap names e ∙ k

-- clauses of counters
clause-not : {v : Terminal} {o : Option (Tree × Tree)} {ts us : List Token} → IsClause v o ts us → (w : Terminal)
    → (v ≡ w → ⊥) → expect w us ≡ None → expect w ts ≡ None
clause-not no_clause w ne h = h
clause-not (clause {w = x} {left = left} {ts = ts} k o a m b c) w ne h =
    expect-not w x (left ∷ ts) (λ e. ne (sym k ∙ e))

clear-not : {o : Option Tree} {ts us : List Token} → IsClear o ts us → (w : Terminal) → (word.Clear ≡ w → ⊥)
    → expect w us ≡ None → expect w ts ≡ None
clear-not no_clear w ne h = h
clear-not (clear {w = x} {left = left} {ts = ts} k o a c) w ne h = expect-not w x (left ∷ ts) (λ e. ne (sym k ∙ e))

one-read : (d : ℕ) (left right : Token) (e : Tree) (ts rest : List Token) → terminal left ≡ OpenRound
    → Spells d e ts (right ∷ rest) → terminal right ≡ CloseRound → one_operand d (left ∷ ts) ≡ Some (e, rest)
unfolding one_operand
one-read d left right e ts rest o s c =
    rw (
      expect-is OpenRound left ts o,
      expression-read s (omega (arith, precedence-CloseRound right c)),
      expect-is CloseRound right rest c,
    ) refl

two-read : (left comma right : Token) (a b : Tree) (ts us rest : List Token) → terminal left ≡ OpenRound
    → Spells in_one a ts (comma ∷ us) → terminal comma ≡ Comma → Spells in_one b us (right ∷ rest)
    → terminal right ≡ CloseRound → two_operands (left ∷ ts) ≡ Some ((a, b), rest)
unfolding two_operands
two-read left comma right a b ts us rest o s m v c =
    rw (
      expect-is OpenRound left ts o,
      expression-read s (omega (arith, precedence-Comma comma m)),
      expect-is Comma comma us m,
      expression-read v (omega (arith, precedence-CloseRound right c)),
      expect-is CloseRound right rest c,
    ) refl

clear-read : {o : Option Tree} {ts us : List Token} → IsClear o ts us → expect word.Clear us ≡ None
    → optional word.Clear (one_operand in_one) ts ≡ Some (o, us)
clear-read (no_clear {ts = ts}) h = optional-none word.Clear (one_operand in_one) ts h
clear-read (clear {w = w} {left = left} {right = right} {e = e} {ts = ts} {rest = rest} k o s c) h =
    optional-is word.Clear (one_operand in_one) w (left ∷ ts) e rest k (one-read in_one left right e ts rest o s c)

clause-read : {w : Terminal} {o : Option (Tree × Tree)} {ts us : List Token} → IsClause w o ts us → expect w us ≡ None
    → optional w two_operands ts ≡ Some (o, us)
clause-read (no_clause {which = w} {ts = ts}) h = optional-none w two_operands ts h
clause-read (clause {which = v} {w = w} {left = left} {comma = comma} {right = right} {a = a} {b = b} {ts = ts}
    {us = us} {rest = rest} k o s m x c) h =
    optional-is v two_operands w (left ∷ ts) (a, b) rest k (two-read left comma right a b ts us rest o s m x c)

item-counter : (w name : Token) (ts : List Token) → terminal w ≡ word.Counter → is_name name ≡ true
    → item (w ∷ name ∷ ts) ≡ counter_item (name ∷ ts)
unfolding item
item-counter w name ts h n =
    rw (expect-is word.Counter w (name ∷ ts) h, expect-not Colon name ts (name-not name Colon n refl)) refl

head-read : (name left n right : Token) (width : Bound) (rest : List Token) → is_name name ≡ true
    → terminal left ≡ OpenSquare → bound_within 1 128 n ≡ Some width → terminal right ≡ CloseSquare
    → counter_head (name ∷ left ∷ n ∷ right ∷ rest) ≡ Some ((name, width), rest)
unfolding counter_head name_of
head-read name left n right width rest a b c e =
    rw (
      pick-is name_of name name (left ∷ n ∷ right ∷ rest) (rw a refl),
      expect-is OpenSquare left (n ∷ right ∷ rest) b,
      pick-is (bound_within 1 128) width n (right ∷ rest) c,
      expect-is CloseSquare right rest e,
    ) refl

counter-read : {c : CounterForm} {ts rest : List Token} → SpellsCounter c ts rest → item ts ≡ Some (counter c, rest)
unfolding counter_item
counter-read (is_counter {w = w} {name = name} {left = left} {n = n} {right = right} {semicolon = semicolon}
    {width = width} {ts = ts} {rest = rest} k m o b c x y z v s) =
    let after_sub : (t : Terminal) → (Semicolon ≡ t → ⊥) → expect t (semicolon ∷ rest) ≡ None =
    λ t ne. expect-not t semicolon rest (λ e. ne (sym s ∙ e)) in
    let after_add =
    λ (t : Terminal) (ne : Semicolon ≡ t → ⊥) (ns : word.Sub ≡ t → ⊥). clause-not v t ns (after_sub t ne) in
    let after_load =
    λ (t : Terminal) (ne : Semicolon ≡ t → ⊥) (ns : word.Sub ≡ t → ⊥) (na : word.Add ≡ t → ⊥). clause-not z t na
    (after_add t ne ns) in
    item-counter w name (left ∷ n ∷ right ∷ ts) k m
    ∙ rw (
      head-read name left n right width ts m o b c,
      clear-read x (clause-not y word.Clear (λ e. cc) (after_load word.Clear (λ e. cc) (λ e. cc) (λ e. cc))),
      clause-read y (after_load word.Load (λ e. cc) (λ e. cc) (λ e. cc)),
      clause-read z (after_add word.Add (λ e. cc) (λ e. cc)),
      clause-read v (after_sub word.Sub (λ e. cc)),
      expect-is Semicolon semicolon rest s,
    ) refl

-- named sequences
closing-read : {name : Token} {ts rest : List Token} → IsClosing name ts rest → expect Colon rest ≡ None
    → (c : Option Token) × (optional Colon (pick (again_of name)) ts ≡ Some (c, rest))
unfolding again_of
closing-read (no_closing {name = name} {ts = ts}) h = (None, optional-none Colon (pick (again_of name)) ts h)
closing-read (closing {name = name} {colon = colon} {again = again} {rest = rest} k w e) h = (
  Some again,
  optional-is Colon (pick (again_of name)) colon (again ∷ rest) again rest k
      (pick-is (again_of name) again again rest (rw (w, e) refl)),
)

end-read : (name e : Token) (ts rest : List Token) → terminal e ≡ EndSequence → IsClosing name ts rest
    → expect Colon rest ≡ None → (us : List Token) → skip Semicolon us ≡ e ∷ ts → ending_of name us ≡ Some rest
unfolding ending_of
end-read name e ts rest k c h us same = let x = closing-read c h in rw (same, expect-is EndSequence e ts k, x.1) refl

ending-read : {name : Token} {ts rest : List Token} → IsEnding name ts rest → expect Colon rest ≡ None
    → ending_of name ts ≡ Some rest
unfolding skip
ending-read (ending {name = name} {e = e} {ts = ts} {rest = rest} k c) h =
    end-read name e ts rest k c h (e ∷ ts) (rw (expect-not Semicolon e ts (λ x. absurd cc)) refl)
ending-read (with_semicolon {name = name} {semicolon = semicolon} {e = e} {ts = ts} {rest = rest} s k c) h =
    end-read name e ts rest k c h (semicolon ∷ e ∷ ts) (rw (expect-is Semicolon semicolon (e ∷ ts) s) refl)

ending-next : {name : Token} {ts rest : List Token} → IsEnding name ts rest → next_precedence ts ≡ 100
ending-next (ending {e = e} k c) = precedence-EndSequence e k
ending-next (with_semicolon {semicolon = semicolon} s k c) = precedence-Semicolon semicolon s

item-sequence : (w : Token) (ts : List Token) → terminal w ≡ word.Sequence → item (w ∷ ts) ≡ declaration_item ts
unfolding item declaration_reader
item-sequence w ts h = rw (expect-not word.Counter w ts (λ e. absurd cc), expect-is word.Sequence w ts h) refl

declaration-read : {s : DeclarationForm} {ts rest : List Token} → SpellsDeclaration s ts rest → expect Colon rest ≡ None
    → item ts ≡ Some (declaration s, rest)
unfolding declaration_item name_of
declaration-read (is_declaration {w = w} {name = name} {semicolon = semicolon} {body = body} {ts = ts} {us = us}
    {rest = rest} k n s b e) h =
    item-sequence w (name ∷ semicolon ∷ ts) k
    ∙ rw (
      pick-is name_of name name (semicolon ∷ ts) (rw n refl),
      expect-is Semicolon semicolon ts s,
      whole-read b (omega (arith, ending-next e)),
      ending-read e h,
    ) refl

-- assertions
disable-none : (d : ℕ) (t : Token) (ts : List Token) → terminal t ≡ Disable → property d (t ∷ ts) ≡ None
unfolding property property_with whole whole_with during_with body_with expression prefixed_with mark
disable-none d t ts h =
    rw (
      unled-other t ts (λ e. absurd cc),
      expect-not OpenRound t ts (λ e. absurd cc),
      expect-not Delay t ts (λ e. absurd cc),
      expect-not OpenRound t ts (λ e. absurd cc),
      h,
    ) refl

no_disable_by : (d : ℕ) (ts : List Token) (p : PropertyForm × List Token) → property d ts ≡ Some p
    → (o : Option (Token × List Token)) → expect Disable ts ≡ o → expect Disable ts ≡ None
no_disable_by d ts p h None e = e
no_disable_by d ts p h (Some q) e =
    let x = expect-some Disable ts q e in
    let none : property d ts ≡ None = ap (property d) x.parts ∙ disable-none d q.0 q.1 x.marked in
    absurd cc

disable-read : {o : Option Tree} {ts us : List Token} → IsDisable o ts us → expect Disable us ≡ None
    → optional Disable disable_reader ts ≡ Some (o, us)
unfolding disable_reader
disable-read (no_disable {ts = ts}) h = optional-none Disable disable_reader ts h
disable-read (disable {w = w} {iff = iff} {left = left} {right = right} {e = e} {ts = ts} {rest = rest} k i o s c) h =
    optional-is Disable disable_reader w (iff ∷ left ∷ ts) e rest k
    (rw (expect-is Iff iff (left ∷ ts) i) (one-read in_two left right e ts rest o s c))

verb-token : (t : Token) → is_verb (terminal t) → is_verb_token t ≡ true
unfolding is_verb_token
verb-token t (inl h) = rw (true-is word.Assert t h) refl
verb-token t (inr h) = rw (false-is word.Assert t (λ e. absurd cc), true-is word.Assume t h) refl

assertion-read : (l : Option Token) (verb prop open_round at_sign round posedge right last semicolon : Token)
    (clock : List Token) (off : Option Tree) (p : PropertyForm) (us vs ws rest : List Token)
    → is_verb (terminal verb) → terminal prop ≡ word.Property → terminal open_round ≡ OpenRound
    → terminal at_sign ≡ AtSign → terminal round ≡ OpenRound → terminal posedge ≡ Posedge
    → IsPath clock us (right ∷ vs) → terminal right ≡ CloseRound
    → IsDisable off vs ws → IsProperty in_one p ws (last ∷ semicolon ∷ rest) → terminal last ≡ CloseRound
    → terminal semicolon ≡ Semicolon
    → assertion_item l (verb ∷ prop ∷ open_round ∷ at_sign ∷ round ∷ posedge ∷ us)
    ≡ Some (assertion (record { label = l; verb = verb; clock = clock; disable = off; property = p }), rest)
unfolding assertion_item opening_words clock_words property_end
assertion-read l verb prop open_round at_sign round posedge right last semicolon clock off p us vs ws rest v a b c e f g
    h i j k m =
    let read = property-read j (omega (arith, precedence-CloseRound last k)) in
    rw (
      lead-true is_verb_token verb (prop ∷ open_round ∷ at_sign ∷ round ∷ posedge ∷ us) (verb-token verb v),
      expect-is word.Property prop (open_round ∷ at_sign ∷ round ∷ posedge ∷ us) a,
      expect-is OpenRound open_round (at_sign ∷ round ∷ posedge ∷ us) b,
      expect-is AtSign at_sign (round ∷ posedge ∷ us) c,
      expect-is OpenRound round (posedge ∷ us) e,
      expect-is Posedge posedge us f,
      path-read g (omega (arith, precedence-CloseRound right h)),
      expect-is CloseRound right vs h,
      disable-read i (no_disable_by in_one ws (p, last ∷ semicolon ∷ rest) read (expect Disable ws) refl),
      read,
      expect-is CloseRound last (semicolon ∷ rest) k,
      expect-is Semicolon semicolon rest m,
    ) refl

verb-not : (t : Token) (w : Terminal) → is_verb (terminal t) → (word.Assert ≡ w → ⊥) → (word.Assume ≡ w → ⊥)
    → terminal t ≡ w → ⊥
verb-not t w (inl h) a b e = a (sym h ∙ e)
verb-not t w (inr h) a b e = b (sym h ∙ e)

verb-no_name : (t : Token) → is_verb (terminal t) → is_name t ≡ false
verb-no_name t (inl h) = no_name t word.Assert refl h
verb-no_name t (inr h) = no_name t word.Assume refl h

item-verb : (t : Token) (ts : List Token) → is_verb (terminal t) → item (t ∷ ts) ≡ assertion_item None (t ∷ ts)
unfolding item declaration_reader label_reader
item-verb t ts v =
    rw (
      expect-not word.Counter t ts (verb-not t word.Counter v (λ e. cc) (λ e. cc)),
      expect-not word.Sequence t ts (verb-not t word.Sequence v (λ e. cc) (λ e. cc)),
      lead-false is_name t ts
          (verb-no_name t v),
    ) refl

declared-label : (name colon : Token) (ts : List Token) → is_name name ≡ true → terminal colon ≡ Colon
    → declaration_reader (name ∷ colon ∷ ts) ≡ assertion_item (Some name) ts
unfolding declaration_reader label_reader
declared-label name colon ts n k =
    rw (
      expect-not word.Sequence name (colon ∷ ts) (name-not name word.Sequence n refl),
      lead-true is_name name (colon ∷ ts) n,
      expect-is Colon colon ts k,
    ) refl

item-label_by : (name colon : Token) (ts : List Token) → terminal colon ≡ Colon → (o : Option (Token × List Token))
    → expect word.Counter (name ∷ colon ∷ ts) ≡ o → item (name ∷ colon ∷ ts) ≡ declaration_reader (name ∷ colon ∷ ts)
unfolding item
item-label_by name colon ts k None h = rw h refl
item-label_by name colon ts k (Some q) h =
    let x = expect-some word.Counter (name ∷ colon ∷ ts) q h in
    let same : q.1 ≡ colon ∷ ts = cc (x.parts) in
    rw (h, same, expect-is Colon colon ts k) refl

item-label : (name colon : Token) (ts : List Token) → is_name name ≡ true → terminal colon ≡ Colon
    → item (name ∷ colon ∷ ts) ≡ assertion_item (Some name) ts
item-label name colon ts n k =
    item-label_by name colon ts k (expect word.Counter (name ∷ colon ∷ ts)) refl ∙ declared-label name colon ts n k

assertion_item-read : {a : AssertionForm} {ts rest : List Token} → SpellsAssertion a ts rest
    → item ts ≡ Some (assertion a, rest)
assertion_item-read (is_assertion {verb = verb} {property = prop} {left = left} {at_sign = at_sign} {round = round}
    {posedge = posedge} {right = right} {last = last} {semicolon = semicolon} {clock = clock} {disable = off} {p = p}
    {us = us} {vs = vs} {ws = ws} {rest = rest} no_label v a b c e f g h i j k m) =
    item-verb verb (prop ∷ left ∷ at_sign ∷ round ∷ posedge ∷ us) v
    ∙ assertion-read None verb prop left at_sign round posedge right last semicolon clock off p us vs ws rest v a
    b c e f g h i j k m
assertion_item-read (is_assertion {verb = verb} {property = prop} {left = left} {at_sign = at_sign} {round = round}
    {posedge = posedge} {right = right} {last = last} {semicolon = semicolon} {clock = clock} {disable = off} {p = p}
    {us = us} {vs = vs} {ws = ws} {rest = rest} (label {name = name} {colon = colon} n l) v a b c e f g h i j k m) =
    item-label name colon (verb ∷ prop ∷ left ∷ at_sign ∷ round ∷ posedge ∷ us) n l
    ∙ assertion-read (Some name) verb prop left at_sign round posedge right last semicolon clock off p us vs ws
    rest v a b c e f g h i j k m

-- items
item-read : {i : ItemForm} {ts rest : List Token} → SpellsItem i ts rest → expect Colon rest ≡ None
    → item ts ≡ Some (i, rest)
item-read (a_counter c) h = counter-read c
item-read (a_declaration s) h = declaration-read s h
item-read (an_assertion a) h = assertion_item-read a

-- the first token of an item
pub record Begins (ts : List Token) : Type 0 where
  first : Token
  more : List Token
  parts : ts ≡ first ∷ more
  no_colon : terminal first ≡ Colon → ⊥
  no_end : terminal first ≡ End → ⊥

item-begins : {i : ItemForm} {ts rest : List Token} → SpellsItem i ts rest → Begins ts
item-begins
    (a_counter (is_counter {w = w} {name = name} {left = left} {n = n} {right = right} {ts = ts} k m o b c x y z v
    s)) = record {
      first = w;
      more = name ∷ left ∷ n ∷ right ∷ ts;
      parts = refl;
      no_colon = λ e. absurd cc;
      no_end = λ e. absurd cc;
    }
item-begins (a_declaration (is_declaration {w = w} {name = name} {semicolon = semicolon} {ts = ts} k n s b e)) =
    record
    { first = w; more = name ∷ semicolon ∷ ts; parts = refl; no_colon = λ e. absurd cc; no_end = λ e. absurd cc }
item-begins
    (an_assertion (is_assertion {verb = verb} {property = prop} {left = left} {at_sign = at_sign} {round = round}
    {posedge = posedge} {us = us} no_label v a b c e f g h i j k m)) =
    record {
      first = verb;
      more = prop ∷ left ∷ at_sign ∷ round ∷ posedge ∷ us;
      parts = refl;
      no_colon = verb-not verb Colon v (λ e. cc) (λ e. cc);
      no_end = verb-not verb End v (λ e. cc) (λ e. cc);
    }
item-begins
    (an_assertion (is_assertion {verb = verb} {property = prop} {left = left} {at_sign = at_sign} {round = round}
    {posedge = posedge} {us = us} (label {name = name} {colon = colon} n l) v a b c e f g h i j k m)) =
    record {
      first = name;
      more = colon ∷ verb ∷ prop ∷ left ∷ at_sign ∷ round ∷ posedge ∷ us;
      parts = refl;
      no_colon = name-not name Colon n refl;
      no_end = name-not name End n refl;
    }

items-no_colon : {xs : List ItemForm} {ts rest : List Token} → AreItems xs ts rest → expect Colon rest ≡ None
    → expect Colon ts ≡ None
items-no_colon no_item h = h
items-no_colon (one_item i more) h =
    let b = item-begins i in ap (expect Colon) b.parts ∙ expect-not Colon b.first b.more b.no_colon

-- lengths
clear-shorter : {o : Option Tree} {ts us : List Token} → IsClear o ts us → length us ≤ length ts
clear-shorter no_clear = omega arith
clear-shorter (clear k o s c) = omega (arith, spells-shorter s)

clause-shorter : {w : Terminal} {o : Option (Tree × Tree)} {ts us : List Token} → IsClause w o ts us
    → length us ≤ length ts
clause-shorter no_clause = omega arith
clause-shorter (clause k o s m x c) = omega (arith, spells-shorter s, spells-shorter x)

closing-shorter : {name : Token} {ts rest : List Token} → IsClosing name ts rest → length rest ≤ length ts
closing-shorter no_closing = omega arith
closing-shorter (closing k w e) = omega arith

ending-shorter : {name : Token} {ts rest : List Token} → IsEnding name ts rest → length rest < length ts
ending-shorter (ending k c) = omega (arith, closing-shorter c)
ending-shorter (with_semicolon s k c) = omega (arith, closing-shorter c)

disable-shorter : {o : Option Tree} {ts us : List Token} → IsDisable o ts us → length us ≤ length ts
disable-shorter no_disable = omega arith
disable-shorter (disable k i o s c) = omega (arith, spells-shorter s)

label-shorter : {o : Option Token} {ts us : List Token} → IsLabel o ts us → length us ≤ length ts
label-shorter no_label = omega arith
label-shorter (label n k) = omega arith

property-shorter : {d : ℕ} {p : PropertyForm} {ts rest : List Token} → IsProperty d p ts rest → length rest < length ts
property-shorter (is_plain w) = sequence-shorter w
property-shorter (is_implication k v w) = omega (arith, sequence-shorter v, sequence-shorter w)
property-shorter (is_first is o v r k w) = omega (arith, sequence-shorter v, sequence-shorter w)
property-shorter (bracketed o c w) = omega (arith, property-shorter w)

item-shorter : {i : ItemForm} {ts rest : List Token} → SpellsItem i ts rest → length rest < length ts
item-shorter (a_counter (is_counter k m o b c x y z v s)) =
    omega (arith, clear-shorter x, clause-shorter y, clause-shorter z, clause-shorter v)
item-shorter (a_declaration (is_declaration k n s b e)) = omega (arith, sequence-shorter b, ending-shorter e)
item-shorter (an_assertion (is_assertion l v a b c e f g h i j k m)) =
    omega (arith, label-shorter l, path-shorter g, disable-shorter i, property-shorter j)

more-token : (t : Token) → (terminal t ≡ End → ⊥) → is_more t ≡ true
unfolding is_more
more-token t h = rw (false-is End t h) refl

items-many : {xs : List ItemForm} {ts rest : List Token} → AreItems xs ts rest → (n : ℕ) → length ts ≤ n
    → lead is_more rest ≡ None → expect Colon rest ≡ None → many is_more (λ t us. item (t ∷ us)) n ts
    ≡ Some (xs, rest)
items-many (no_item {ts = ts}) n le h k = many-none is_more (λ t us. item (t ∷ us)) n ts h
items-many (one_item i more) zero le h k = absurd (omega (arith, item-shorter i))
items-many (one_item {i = i} {more = xs} {ts = ts} {us = us} {rest = rest} x more) (suc n) le h k =
    let b = item-begins x in
    let read : item (b.first ∷ b.more) ≡ Some (i, us) = ap item (sym b.parts) ∙ item-read x (items-no_colon more k) in
    ap (many is_more (λ t us. item (t ∷ us)) (suc n)) b.parts
    ∙ many-more is_more (λ t us. item (t ∷ us)) n b.first b.more i us xs rest (more-token b.first b.no_end) read
    (items-many more n (omega (arith, item-shorter x)) h k)

no-more : (last : Token) → terminal last ≡ End → lead is_more (last ∷ []) ≡ None
unfolding is_more
no-more last h = lead-false is_more last [] (rw (true-is End last h) refl)

asserts-true : (xs : List ItemForm) → HasAssertion xs → asserts xs ≡ true
asserts-true [] h = absurd h
asserts-true (counter c ∷ more) h = asserts-true more h
asserts-true (declaration s ∷ more) h = asserts-true more h
asserts-true (assertion a ∷ more) h = refl

pub file-read : (xs : List ItemForm) (tokens : List Token) → IsFile xs tokens → ReadsFile xs tokens
unfolding items each
file-read xs tokens f = record {
  last = f.last;
  ends = f.ends;
  read =
      items-many f.spelled (length tokens) (omega arith) (no-more f.last f.ends)
      (expect-not Colon f.last [] (λ e. absurd (let k = f.ends in cc)));
  asserted = asserts-true xs f.asserts;
}
