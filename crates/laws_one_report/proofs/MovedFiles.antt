-- Moved tokens spell the moved file.
use Rattle.std.proofs.Common.{ℕ, List, [], ◌∷◌, map, Option}
use Rattle.lexer.specs.declared.token.Token.{Token}
use Rattle.parser_grammar.specs.declared.bound.Bound.{Bound}
use Rattle.parser_grammar.specs.declared.bound.Range.{Range}
use Rattle.parser_grammar.specs.declared.bound.Select.{Select}
use Rattle.parser_grammar.specs.declared.terminal.Terminal.{Terminal}
use Rattle.parser_grammar.specs.Terminals.{is_name, is_word, is, is_first_match_word}
use Rattle.parser_grammar.specs.Bounds.{index, bound_within}
use Rattle.parser_grammar.specs.Operators.{infix_of, implication_of}
use Rattle.parser_grammar.specs.Marks.{mark, precedence}
use Rattle.parser_grammar.specs.Trees.{Tree, Links, Parts, SequenceForm, boolean, repeated, late, delayed, throughout}
use Rattle.parser_grammar.specs.Trees.{joined}
use Rattle.parser_grammar.specs.Trees.{Steps, Others, PropertyForm, CounterForm, DeclarationForm, AssertionForm}
use Rattle.parser_grammar.specs.Trees.{ItemForm}
use Rattle.parser_grammar.specs.Trees.{counter, declaration, assertion}
use Rattle.parser_grammar.specs.Expressions.{AreMembers, no_member, member, IsPath, name, IsSelected, whole, bit, bits}
use Rattle.parser_grammar.specs.Expressions.{IsTicks, one_tick, some_ticks, Operand, is_number, is_path}
use Rattle.parser_grammar.specs.Expressions.{is_concatenation}
use Rattle.parser_grammar.specs.Expressions.{in_brackets, is_past, is_call, is_unary, is_tighter, is_chain, Follows}
use Rattle.parser_grammar.specs.Expressions.{no_more}
use Rattle.parser_grammar.specs.Expressions.{one_more, AreParts, no_parts, one_part, Spells, is_operand, is_choice}
use Rattle.parser_grammar.specs.Sequences as sequences
use Rattle.parser_grammar.specs.Sequences.{IsNoExpression, IsTimes, times, times_to, IsDelay, after, between, IsBody}
use Rattle.parser_grammar.specs.Sequences.{is_boolean, IsRepetition, is_once, is_repeated, IsHead, is_prompt, is_late}
use Rattle.parser_grammar.specs.Sequences.{AreSteps, no_steps, one_step, IsDelayed, is_head, is_delayed, IsDuring}
use Rattle.parser_grammar.specs.Sequences.{is_cat}
use Rattle.parser_grammar.specs.Sequences.{AreMeets, no_meet, one_meet, IsIntersection, is_meet, is_intersection}
use Rattle.parser_grammar.specs.Sequences.{is_throughout, AreConjuncts, no_conjunct, one_conjunct, IsConjunction}
use Rattle.parser_grammar.specs.Sequences.{is_during}
use Rattle.parser_grammar.specs.Sequences.{is_all, AreAlternatives, no_alternative, one_alternative, IsSequence}
use Rattle.parser_grammar.specs.Sequences.{is_conjunction, is_either, IsProperty, is_plain, is_implication, is_first}
use Rattle.parser_grammar.specs.Sequences.{bracketed}
use Rattle.parser_grammar.specs.Files.{IsClear, no_clear, clear, IsClause, no_clause, clause, SpellsCounter, is_counter}
use Rattle.parser_grammar.specs.Files.{IsClosing, no_closing, closing, IsEnding, ending, with_semicolon}
use Rattle.parser_grammar.specs.Files.{SpellsDeclaration}
use Rattle.parser_grammar.specs.Files.{is_declaration, IsDisable, no_disable, disable, IsLabel, no_label, label}
use Rattle.parser_grammar.specs.Files.{SpellsAssertion, is_assertion, SpellsItem, a_counter, a_declaration}
use Rattle.parser_grammar.specs.Files.{an_assertion}
use Rattle.parser_grammar.specs.Files.{AreItems, no_item, one_item, HasAssertion, IsFile}
use Rattle.laws_one_report.proofs.MovedTrees.{moved, moved_option, moved_tree, moved_links, moved_parts, moved_sequence}
use Rattle.laws_one_report.proofs.MovedTrees.{moved_steps, moved_others, moved_property, moved_condition, moved_rule}
use Rattle.laws_one_report.proofs.MovedTrees.{moved_counter, moved_declaration, moved_assertion, moved_item}

abbrev Tokens : Type 0
Tokens = List Token

module _ (lies : ℕ → ℕ × ℕ) where
  abbrev moved_all : Tokens → Tokens
  moved_all ts = map (moved lies) ts

  members-moved : {ws ts rest : Tokens} → AreMembers ws ts rest
      → AreMembers (moved_all ws) (moved_all ts) (moved_all rest)
  unfolding is_word
  members-moved no_member = no_member
  members-moved (member a b m) = member a b (members-moved m)

  path-moved : {ws ts rest : Tokens} → IsPath ws ts rest → IsPath (moved_all ws) (moved_all ts) (moved_all rest)
  unfolding is_name
  path-moved (name a m) = name a (members-moved m)

  selected-moved : {d : ℕ} {o : Option Select} {ts rest : Tokens} → IsSelected d o ts rest
      → IsSelected d o (moved_all ts) (moved_all rest)
  unfolding index
  selected-moved whole = whole
  selected-moved (bit a b c) = bit a b c
  selected-moved (bits a b c e f) = bits a b c e f

  ticks-moved : {o : Option Bound} {ts rest : Tokens} → IsTicks o ts rest → IsTicks o (moved_all ts) (moved_all rest)
  unfolding bound_within
  ticks-moved one_tick = one_tick
  ticks-moved (some_ticks a b) = some_ticks a b

  mutual
    unfolding moved_tree infix_of mark precedence

    operand-moved : {d l : ℕ} {e : Tree} {ts rest : Tokens} → Operand d l e ts rest
        → Operand d l (moved_tree lies e) (moved_all ts) (moved_all rest)
    operand-moved (is_number m) = is_number m
    operand-moved (is_path p s) = is_path (path-moved p) (selected-moved s)
    operand-moved (is_concatenation m s p c) = is_concatenation m (spells-moved s) (parts-moved p) c
    operand-moved (in_brackets m s c) = in_brackets m (spells-moved s) c
    operand-moved (is_past m o s t c) = is_past m o (spells-moved s) (ticks-moved t) c
    operand-moved (is_call m o s c) = is_call m o (spells-moved s) c
    operand-moved (is_unary m o) = is_unary m (operand-moved o)
    operand-moved (is_tighter o) = is_tighter (operand-moved o)
    operand-moved (is_chain o f) = is_chain (operand-moved o) (follows-moved f)

    follows-moved : {d l : ℕ} {more : Links} {ts rest : Tokens} → Follows d l more ts rest
        → Follows d l (moved_links lies more) (moved_all ts) (moved_all rest)
    follows-moved no_more = no_more
    follows-moved (one_more h k o f) = one_more h k (operand-moved o) (follows-moved f)

    parts-moved : {d : ℕ} {more : Parts} {ts rest : Tokens} → AreParts d more ts rest
        → AreParts d (moved_parts lies more) (moved_all ts) (moved_all rest)
    parts-moved no_parts = no_parts
    parts-moved (one_part c s p) = one_part c (spells-moved s) (parts-moved p)

    spells-moved : {d : ℕ} {e : Tree} {ts rest : Tokens} → Spells d e ts rest
        → Spells d (moved_tree lies e) (moved_all ts) (moved_all rest)
    spells-moved (is_operand o) = is_operand (operand-moved o)
    spells-moved (is_choice h c o s t) = is_choice h c (operand-moved o) (spells-moved s) (spells-moved t)

  times-moved : {n : Range} {ts rest : Tokens} → IsTimes n ts rest → IsTimes n (moved_all ts) (moved_all rest)
  unfolding bound_within
  times-moved (times a b c) = times a b c
  times-moved (times_to a b c e f) = times_to a b c e f

  delay-moved : {d : ℕ} {n : Range} {ts rest : Tokens} → IsDelay d n ts rest
      → IsDelay d n (moved_all ts) (moved_all rest)
  unfolding bound_within
  delay-moved (after a b) = after a b
  delay-moved (between a b c e f g) = between a b c e f g

  no_expression-moved : (q : SequenceForm) → IsNoExpression q → IsNoExpression (moved_sequence lies q)
  unfolding moved_sequence
  no_expression-moved (boolean e) h = h
  no_expression-moved (repeated q n) h = h
  no_expression-moved (late t n q) h = h
  no_expression-moved (delayed q steps) h = h
  no_expression-moved (throughout e q) h = h
  no_expression-moved (joined j q more) h = h

  mutual
    unfolding moved_sequence

    body-moved : {d : ℕ} {q : SequenceForm} {ts rest : Tokens} → IsBody d q ts rest
        → IsBody d (moved_sequence lies q) (moved_all ts) (moved_all rest)
    body-moved (is_boolean s) = is_boolean (spells-moved s)
    body-moved (sequences.in_brackets {s = q} a b n s) =
        sequences.in_brackets a b (no_expression-moved q n) (sequence-moved s)

    repetition-moved : {d : ℕ} {q : SequenceForm} {ts rest : Tokens} → IsRepetition d q ts rest
        → IsRepetition d (moved_sequence lies q) (moved_all ts) (moved_all rest)
    repetition-moved (is_once b) = is_once (body-moved b)
    repetition-moved (is_repeated b t) = is_repeated (body-moved b) (times-moved t)

    head-moved : {d : ℕ} {q : SequenceForm} {ts rest : Tokens} → IsHead d q ts rest
        → IsHead d (moved_sequence lies q) (moved_all ts) (moved_all rest)
    head-moved (is_prompt r) = is_prompt (repetition-moved r)
    head-moved (is_late h r) = is_late (delay-moved h) (repetition-moved r)

    steps-moved : {d : ℕ} {more : Steps} {ts rest : Tokens} → AreSteps d more ts rest
        → AreSteps d (moved_steps lies more) (moved_all ts) (moved_all rest)
    steps-moved no_steps = no_steps
    steps-moved (one_step h r s) = one_step (delay-moved h) (repetition-moved r) (steps-moved s)

    delayed-moved : {d : ℕ} {q : SequenceForm} {ts rest : Tokens} → IsDelayed d q ts rest
        → IsDelayed d (moved_sequence lies q) (moved_all ts) (moved_all rest)
    delayed-moved (is_head h) = is_head (head-moved h)
    delayed-moved (is_delayed h s) = is_delayed (head-moved h) (steps-moved s)

    during-moved : {d : ℕ} {q : SequenceForm} {ts rest : Tokens} → IsDuring d q ts rest
        → IsDuring d (moved_sequence lies q) (moved_all ts) (moved_all rest)
    during-moved (is_cat h) = is_cat (delayed-moved h)
    during-moved (is_throughout t s h) = is_throughout t (spells-moved s) (during-moved h)

    meets-moved : {d : ℕ} {more : Others} {ts rest : Tokens} → AreMeets d more ts rest
        → AreMeets d (moved_others lies more) (moved_all ts) (moved_all rest)
    meets-moved no_meet = no_meet
    meets-moved (one_meet t h s) = one_meet t (during-moved h) (meets-moved s)

    intersection-moved : {d : ℕ} {q : SequenceForm} {ts rest : Tokens} → IsIntersection d q ts rest
        → IsIntersection d (moved_sequence lies q) (moved_all ts) (moved_all rest)
    intersection-moved (is_during h) = is_during (during-moved h)
    intersection-moved (is_meet h s) = is_meet (during-moved h) (meets-moved s)

    conjuncts-moved : {d : ℕ} {more : Others} {ts rest : Tokens} → AreConjuncts d more ts rest
        → AreConjuncts d (moved_others lies more) (moved_all ts) (moved_all rest)
    conjuncts-moved no_conjunct = no_conjunct
    conjuncts-moved (one_conjunct t h s) = one_conjunct t (intersection-moved h) (conjuncts-moved s)

    conjunction-moved : {d : ℕ} {q : SequenceForm} {ts rest : Tokens} → IsConjunction d q ts rest
        → IsConjunction d (moved_sequence lies q) (moved_all ts) (moved_all rest)
    conjunction-moved (is_intersection h) = is_intersection (intersection-moved h)
    conjunction-moved (is_all h s) = is_all (intersection-moved h) (conjuncts-moved s)

    alternatives-moved : {d : ℕ} {more : Others} {ts rest : Tokens} → AreAlternatives d more ts rest
        → AreAlternatives d (moved_others lies more) (moved_all ts) (moved_all rest)
    alternatives-moved no_alternative = no_alternative
    alternatives-moved (one_alternative t h s) = one_alternative t (conjunction-moved h) (alternatives-moved s)

    sequence-moved : {d : ℕ} {q : SequenceForm} {ts rest : Tokens} → IsSequence d q ts rest
        → IsSequence d (moved_sequence lies q) (moved_all ts) (moved_all rest)
    sequence-moved (is_conjunction h) = is_conjunction (conjunction-moved h)
    sequence-moved (is_either h s) = is_either (conjunction-moved h) (alternatives-moved s)

  property-moved : {d : ℕ} {p : PropertyForm} {ts rest : Tokens} → IsProperty d p ts rest
      → IsProperty d (moved_property lies p) (moved_all ts) (moved_all rest)
  unfolding implication_of is is_first_match_word
  property-moved (is_plain s) = is_plain (sequence-moved s)
  property-moved (is_implication h a c) = is_implication h (sequence-moved a) (sequence-moved c)
  property-moved (is_first w o a r h c) = is_first w o (sequence-moved a) r h (sequence-moved c)
  property-moved (bracketed a b p) = bracketed a b (property-moved p)

  clear-moved : {o : Option Tree} {ts rest : Tokens} → IsClear o ts rest
      → IsClear (moved_condition lies o) (moved_all ts) (moved_all rest)
  clear-moved no_clear = no_clear
  clear-moved (clear a b s c) = clear a b (spells-moved s) c

  clause-moved : {w : Terminal} {o : Option (Tree × Tree)} {ts rest : Tokens} → IsClause w o ts rest
      → IsClause w (moved_rule lies o) (moved_all ts) (moved_all rest)
  clause-moved no_clause = no_clause
  clause-moved (clause a b s c t e) = clause a b (spells-moved s) c (spells-moved t) e

  counter-moved : {c : CounterForm} {ts rest : Tokens} → SpellsCounter c ts rest
      → SpellsCounter (moved_counter lies c) (moved_all ts) (moved_all rest)
  unfolding is_name bound_within
  counter-moved (is_counter a b c e f g h k l m) =
      is_counter a b c e f (clear-moved g) (clause-moved h) (clause-moved k) (clause-moved l) m

  closing-moved : {n : Token} {ts rest : Tokens} → IsClosing n ts rest
      → IsClosing (moved lies n) (moved_all ts) (moved_all rest)
  unfolding is_word
  closing-moved no_closing = no_closing
  closing-moved (closing a b c) = closing a b c

  ending-moved : {n : Token} {ts rest : Tokens} → IsEnding n ts rest
      → IsEnding (moved lies n) (moved_all ts) (moved_all rest)
  ending-moved (ending a c) = ending a (closing-moved c)
  ending-moved (with_semicolon a b c) = with_semicolon a b (closing-moved c)

  declaration-moved : {d : DeclarationForm} {ts rest : Tokens} → SpellsDeclaration d ts rest
      → SpellsDeclaration (moved_declaration lies d) (moved_all ts) (moved_all rest)
  unfolding is_name
  declaration-moved (is_declaration a b c s e) = is_declaration a b c (sequence-moved s) (ending-moved e)

  disable-moved : {o : Option Tree} {ts rest : Tokens} → IsDisable o ts rest
      → IsDisable (moved_condition lies o) (moved_all ts) (moved_all rest)
  disable-moved no_disable = no_disable
  disable-moved (disable a b c s e) = disable a b c (spells-moved s) e

  label-moved : {o : Option Token} {ts rest : Tokens} → IsLabel o ts rest
      → IsLabel (moved_option lies o) (moved_all ts) (moved_all rest)
  unfolding is_name
  label-moved no_label = no_label
  label-moved (label a b) = label a b

  assertion-moved : {a : AssertionForm} {ts rest : Tokens} → SpellsAssertion a ts rest
      → SpellsAssertion (moved_assertion lies a) (moved_all ts) (moved_all rest)
  assertion-moved (is_assertion l v a b c e f p g o q h k) =
      is_assertion (label-moved l) v a b c e f (path-moved p) g (disable-moved o) (property-moved q) h k

  item-moved : {i : ItemForm} {ts rest : Tokens} → SpellsItem i ts rest
      → SpellsItem (moved_item lies i) (moved_all ts) (moved_all rest)
  item-moved (a_counter c) = a_counter (counter-moved c)
  item-moved (a_declaration d) = a_declaration (declaration-moved d)
  item-moved (an_assertion a) = an_assertion (assertion-moved a)

  items-moved : {xs : List ItemForm} {ts rest : Tokens} → AreItems xs ts rest
      → AreItems (map (moved_item lies) xs) (moved_all ts) (moved_all rest)
  items-moved no_item = no_item
  items-moved (one_item i more) = one_item (item-moved i) (items-moved more)

  asserts-moved : (xs : List ItemForm) → HasAssertion xs → HasAssertion (map (moved_item lies) xs)
  asserts-moved [] h = h
  asserts-moved (counter c ∷ xs) h = asserts-moved xs h
  asserts-moved (declaration d ∷ xs) h = asserts-moved xs h
  asserts-moved (assertion a ∷ xs) h = h

  pub file-moved : (xs : List ItemForm) (ts : List Token) → IsFile xs ts
      → IsFile (map (moved_item lies) xs) (map (moved lies) ts)
  file-moved xs ts h =
      record {
        last = moved lies h.last;
        ends = h.ends;
        spelled = items-moved h.spelled;
        asserts = asserts-moved xs h.asserts;
      }
