-- The paths of a text's expressions, its clock's and its labels are spelled by words.
use Rattle.std.proofs.Common.{ℕ, List, [], ◌∷◌, ◌++◌, Option, Some, None, IsTrue}
use Rattle.std.specs.List.{AllByRecursion}
use Rattle.lexer.specs.declared.token.Token.{Token}
use Rattle.parser_grammar.specs.declared.bound.Bound.{Bound}
use Rattle.parser_grammar.specs.declared.bound.Range.{Range}
use Rattle.parser_grammar.specs.declared.bound.Select.{Select}
use Rattle.parser_grammar.specs.declared.terminal.Terminal.{Terminal}
use Rattle.parser_grammar.specs.Trees.{Tree, Links, Parts, SequenceForm, Steps, Others, PropertyForm}
use Rattle.parser_grammar.specs.Trees.{CounterForm, DeclarationForm, AssertionForm, ItemForm}
use Rattle.parser_grammar.specs.Trees.{counter, declaration, assertion}
use Rattle.parser_grammar.specs.Expressions.{AreMembers, no_member, member, IsPath, name}
use Rattle.parser_grammar.specs.Expressions.{IsSelected, whole, bit, bits, IsTicks, one_tick, some_ticks}
use Rattle.parser_grammar.specs.Expressions.{Operand, is_number, is_path, is_concatenation, in_brackets}
use Rattle.parser_grammar.specs.Expressions.{is_past, is_call, is_unary, is_tighter, is_chain}
use Rattle.parser_grammar.specs.Expressions.{Follows, no_more, one_more, AreParts, no_parts, one_part}
use Rattle.parser_grammar.specs.Expressions.{Spells, is_operand, is_choice}
use Rattle.parser_grammar.specs.Sequences as sequences
use Rattle.parser_grammar.specs.Sequences.{IsTimes, times, times_to, IsDelay, after, between}
use Rattle.parser_grammar.specs.Sequences.{IsBody, is_boolean, IsRepetition, is_once, is_repeated}
use Rattle.parser_grammar.specs.Sequences.{IsHead, is_prompt, is_late, AreSteps, no_steps, one_step}
use Rattle.parser_grammar.specs.Sequences.{IsDelayed, is_head, is_delayed, IsDuring, is_cat, is_throughout}
use Rattle.parser_grammar.specs.Sequences.{AreMeets, no_meet, one_meet, IsIntersection, is_meet, is_intersection}
use Rattle.parser_grammar.specs.Sequences.{AreConjuncts, no_conjunct, one_conjunct, IsConjunction}
use Rattle.parser_grammar.specs.Sequences.{is_during, is_all, AreAlternatives, no_alternative}
use Rattle.parser_grammar.specs.Sequences.{one_alternative, IsSequence, is_conjunction, is_either}
use Rattle.parser_grammar.specs.Sequences.{IsProperty, is_plain, is_implication, is_first, bracketed}
use Rattle.parser_grammar.specs.Files.{IsClear, no_clear, clear, IsClause, no_clause, clause}
use Rattle.parser_grammar.specs.Files.{SpellsCounter, is_counter, IsClosing, no_closing, closing}
use Rattle.parser_grammar.specs.Files.{IsEnding, ending, with_semicolon, SpellsDeclaration, is_declaration}
use Rattle.parser_grammar.specs.Files.{IsDisable, no_disable, disable, IsLabel, no_label, label}
use Rattle.parser_grammar.specs.Files.{SpellsAssertion, is_assertion, SpellsItem, a_counter, a_declaration}
use Rattle.parser_grammar.specs.Files.{an_assertion, AreItems, no_item, one_item, IsFile}
use Rattle.bytecode_programs.specs.Texts as texts
use Rattle.types_names.specs.declared.own.Meaning.{Meaning}
use Rattle.types_names.specs.declared.own.Meaning.TheVariants.{Signal, Own as Declared}
use Rattle.types_names.specs.Scopes.{Scope, path_text, meaning}
use Rattle.types_names.specs.Columns.{path_signals, signals, link_signals, part_signals}
use Rattle.types_names.specs.Columns.{sequence_signals, step_signals, other_signals}
use Rattle.types_names.specs.Columns.{property_signals, optional_signals, clause_signals}
use Rattle.types_names.specs.Columns.{counter_signals, assertion_signals}
use Rattle.types_names.specs.Columns.{file_signals}
use Rattle.types.specs.Texts.{assertions_of}
use Rattle.compiler_laws.proofs.WordLaws.{AreWorded, AreWords, name_word, words_path}

abbrev Tokens : Type 0
Tokens = List Token

abbrev pub IsPathText : List ℕ → Type 0
IsPathText p = IsTrue (texts.is_path p)

abbrev pub ArePaths : List (List ℕ) → Type 0
ArePaths ps = AllByRecursion IsPathText ps

pub both : (ps qs : List (List ℕ)) → ArePaths ps → ArePaths qs → ArePaths (ps ++ qs)
both [] qs h g = g
both (p ∷ ps) qs h g = (h.0, both ps qs h.1 g)

-- what a rule spells, and what is left after it
members_words : {ws ts rest : Tokens} → AreMembers ws ts rest → AreWorded ts →
    AreWords ws × AreWorded rest
members_words no_member h = (tt, h)
members_words (member a b m) h =
    let k = members_words m h.1.1 in
    ((h.1.0 b, k.0), k.1)

path_words : {ws ts rest : Tokens} → IsPath ws ts rest → AreWorded ts →
    IsPathText (path_text ws) × AreWorded rest
path_words (name {t = t} {more = more} a m) h =
    let k = members_words m h.1 in
    (words_path t more (h.0 (name_word t a)) k.0, k.1)

selected_rest : {d : ℕ} {o : Option Select} {ts rest : Tokens} → IsSelected d o ts rest →
    AreWorded ts → AreWorded rest
selected_rest whole h = h
selected_rest (bit a b c) h = h.1.1.1
selected_rest (bits a b c e f) h = h.1.1.1.1.1

ticks_rest : {o : Option Bound} {ts rest : Tokens} → IsTicks o ts rest → AreWorded ts →
    AreWorded rest
ticks_rest one_tick h = h
ticks_rest (some_ticks a b) h = h.1.1

times_rest : {n : Range} {ts rest : Tokens} → IsTimes n ts rest → AreWorded ts → AreWorded rest
times_rest (times a b c) h = h.1.1.1
times_rest (times_to a b c e f) h = h.1.1.1.1.1

delay_rest : {d : ℕ} {n : Range} {ts rest : Tokens} → IsDelay d n ts rest → AreWorded ts →
    AreWorded rest
delay_rest (after a b) h = h.1.1
delay_rest (between a b c e f g) h = h.1.1.1.1.1.1

closing_rest : {t : Token} {ts rest : Tokens} → IsClosing t ts rest → AreWorded ts → AreWorded rest
closing_rest no_closing h = h
closing_rest (closing a b c) h = h.1.1

ending_rest : {t : Token} {ts rest : Tokens} → IsEnding t ts rest → AreWorded ts → AreWorded rest
ending_rest (ending a c) h = closing_rest c h.1
ending_rest (with_semicolon a b c) h = closing_rest c h.1.1

-- a label is a word, and a clock's path is one
abbrev pub IsLabelWord : Option Token → Type 0
IsLabelWord None = Unit {0}
IsLabelWord (Some t) = IsTrue (texts.is_word t.text.now)

label_word : {o : Option Token} {ts rest : Tokens} → IsLabel o ts rest → AreWorded ts →
    IsLabelWord o × AreWorded rest
label_word no_label h = (tt, h)
label_word (label {name = t} a b) h = (h.0 (name_word t a), h.1.1)

pub record IsSpoken (a : AssertionForm) : Type 0 where
  pub label : IsLabelWord a.label
  pub clock : IsPathText (path_text a.clock)

module _ (s : Scope) where
  path_signal : (p : List ℕ) (o : Option Meaning) → IsPathText p → ArePaths (path_signals p o)
  path_signal p None h = tt
  path_signal p (Some (Signal width)) h = (h, tt)
  path_signal p (Some (Declared own)) h = tt

  mutual
    unfolding signals

    operand_paths : {d l : ℕ} {e : Tree} {ts rest : Tokens} → Operand d l e ts rest →
        AreWorded ts → ArePaths (signals s e) × AreWorded rest
    operand_paths (is_number m) h = (tt, h.1)
    operand_paths (is_path {words = words} p x) h =
        let a = path_words p h in
        (path_signal (path_text words) (meaning s words) a.0, selected_rest x a.1)
    operand_paths (is_concatenation {e = e} {more = more} m x p c) h =
        let a = spells_paths x h.1 in
        let b = parts_paths p a.1 in
        (both (signals s e) (part_signals s more) a.0 b.0, b.1.1)
    operand_paths (in_brackets m x c) h =
        let a = spells_paths x h.1 in
        (a.0, a.1.1)
    operand_paths (is_past m o x t c) h =
        let a = spells_paths x h.1.1 in
        let b = ticks_rest t a.1 in
        (a.0, b.1)
    operand_paths (is_call m o x c) h =
        let a = spells_paths x h.1.1 in
        (a.0, a.1.1)
    operand_paths (is_unary m o) h = operand_paths o h.1
    operand_paths (is_tighter o) h = operand_paths o h
    operand_paths (is_chain {op = op} {first = e} {e = x} {more = more} o f) h =
        let a = operand_paths o h in
        let b = follows_paths f a.1 in
        (both (signals s e) (signals s x ++ link_signals s more) a.0 b.0, b.1)

    follows_paths : {d l : ℕ} {more : Links} {ts rest : Tokens} → Follows d l more ts rest →
        AreWorded ts → ArePaths (link_signals s more) × AreWorded rest
    follows_paths no_more h = (tt, h)
    follows_paths (one_more {e = e} {more = more} m l o f) h =
        let a = operand_paths o h.1 in
        let b = follows_paths f a.1 in
        (both (signals s e) (link_signals s more) a.0 b.0, b.1)

    parts_paths : {d : ℕ} {more : Parts} {ts rest : Tokens} → AreParts d more ts rest →
        AreWorded ts → ArePaths (part_signals s more) × AreWorded rest
    parts_paths no_parts h = (tt, h)
    parts_paths (one_part {e = e} {more = more} c x p) h =
        let a = spells_paths x h.1 in
        let b = parts_paths p a.1 in
        (both (signals s e) (part_signals s more) a.0 b.0, b.1)

    spells_paths : {d : ℕ} {e : Tree} {ts rest : Tokens} → Spells d e ts rest → AreWorded ts →
        ArePaths (signals s e) × AreWorded rest
    spells_paths (is_operand o) h = operand_paths o h
    spells_paths (is_choice {c = c} {a = a} {b = b} m n o x y) h =
        let i = operand_paths o h in
        let j = spells_paths x i.1.1 in
        let k = spells_paths y j.1.1 in (
          both (signals s c) (signals s a ++ signals s b) i.0
              (both (signals s a) (signals s b) j.0 k.0),
          k.1,
        )

  mutual
    unfolding sequence_signals

    body_paths : {d : ℕ} {q : SequenceForm} {ts rest : Tokens} → IsBody d q ts rest →
        AreWorded ts → ArePaths (sequence_signals s q) × AreWorded rest
    body_paths (is_boolean x) h = spells_paths x h
    body_paths (sequences.in_brackets a b n x) h =
        let r = sequence_paths x h.1 in
        (r.0, r.1.1)

    repetition_paths : {d : ℕ} {q : SequenceForm} {ts rest : Tokens} → IsRepetition d q ts rest →
        AreWorded ts → ArePaths (sequence_signals s q) × AreWorded rest
    repetition_paths (is_once b) h = body_paths b h
    repetition_paths (is_repeated b t) h =
        let r = body_paths b h in
        (r.0, times_rest t r.1)

    head_paths : {d : ℕ} {q : SequenceForm} {ts rest : Tokens} → IsHead d q ts rest →
        AreWorded ts → ArePaths (sequence_signals s q) × AreWorded rest
    head_paths (is_prompt r) h = repetition_paths r h
    head_paths (is_late x r) h = repetition_paths r (delay_rest x h)

    steps_paths : {d : ℕ} {more : Steps} {ts rest : Tokens} → AreSteps d more ts rest →
        AreWorded ts → ArePaths (step_signals s more) × AreWorded rest
    steps_paths no_steps h = (tt, h)
    steps_paths (one_step {s = q} {more = more} x r m) h =
        let a = repetition_paths r (delay_rest x h) in
        let b = steps_paths m a.1 in
        (both (sequence_signals s q) (step_signals s more) a.0 b.0, b.1)

    delayed_paths : {d : ℕ} {q : SequenceForm} {ts rest : Tokens} → IsDelayed d q ts rest →
        AreWorded ts → ArePaths (sequence_signals s q) × AreWorded rest
    delayed_paths (is_head x) h = head_paths x h
    delayed_paths (is_delayed {s = q} {v = v} {more = more} x m) h =
        let a = head_paths x h in
        let b = steps_paths m a.1 in
        (both (sequence_signals s q) (sequence_signals s v ++ step_signals s more) a.0 b.0, b.1)

    during_paths : {d : ℕ} {q : SequenceForm} {ts rest : Tokens} → IsDuring d q ts rest →
        AreWorded ts → ArePaths (sequence_signals s q) × AreWorded rest
    during_paths (is_cat x) h = delayed_paths x h
    during_paths (is_throughout {e = e} {s = q} t x y) h =
        let a = spells_paths x h in
        let b = during_paths y a.1.1 in
        (both (signals s e) (sequence_signals s q) a.0 b.0, b.1)

    meets_paths : {d : ℕ} {more : Others} {ts rest : Tokens} → AreMeets d more ts rest →
        AreWorded ts → ArePaths (other_signals s more) × AreWorded rest
    meets_paths no_meet h = (tt, h)
    meets_paths (one_meet {s = q} {more = more} t x m) h =
        let a = during_paths x h.1 in
        let b = meets_paths m a.1 in
        (both (sequence_signals s q) (other_signals s more) a.0 b.0, b.1)

    intersection_paths : {d : ℕ} {q : SequenceForm} {ts rest : Tokens} → IsIntersection d q ts rest →
        AreWorded ts → ArePaths (sequence_signals s q) × AreWorded rest
    intersection_paths (is_during x) h = during_paths x h
    intersection_paths (is_meet {s = q} {v = v} {more = more} x m) h =
        let a = during_paths x h in
        let b = meets_paths m a.1 in
        (both (sequence_signals s q) (sequence_signals s v ++ other_signals s more) a.0 b.0, b.1)

    conjuncts_paths : {d : ℕ} {more : Others} {ts rest : Tokens} → AreConjuncts d more ts rest →
        AreWorded ts → ArePaths (other_signals s more) × AreWorded rest
    conjuncts_paths no_conjunct h = (tt, h)
    conjuncts_paths (one_conjunct {s = q} {more = more} t x m) h =
        let a = intersection_paths x h.1 in
        let b = conjuncts_paths m a.1 in
        (both (sequence_signals s q) (other_signals s more) a.0 b.0, b.1)

    conjunction_paths : {d : ℕ} {q : SequenceForm} {ts rest : Tokens} → IsConjunction d q ts rest →
        AreWorded ts → ArePaths (sequence_signals s q) × AreWorded rest
    conjunction_paths (is_intersection x) h = intersection_paths x h
    conjunction_paths (is_all {s = q} {v = v} {more = more} x m) h =
        let a = intersection_paths x h in
        let b = conjuncts_paths m a.1 in
        (both (sequence_signals s q) (sequence_signals s v ++ other_signals s more) a.0 b.0, b.1)

    alternatives_paths : {d : ℕ} {more : Others} {ts rest : Tokens} →
        AreAlternatives d more ts rest → AreWorded ts →
        ArePaths (other_signals s more) × AreWorded rest
    alternatives_paths no_alternative h = (tt, h)
    alternatives_paths (one_alternative {s = q} {more = more} t x m) h =
        let a = conjunction_paths x h.1 in
        let b = alternatives_paths m a.1 in
        (both (sequence_signals s q) (other_signals s more) a.0 b.0, b.1)

    sequence_paths : {d : ℕ} {q : SequenceForm} {ts rest : Tokens} → IsSequence d q ts rest →
        AreWorded ts → ArePaths (sequence_signals s q) × AreWorded rest
    sequence_paths (is_conjunction x) h = conjunction_paths x h
    sequence_paths (is_either {s = q} {v = v} {more = more} x m) h =
        let a = conjunction_paths x h in
        let b = alternatives_paths m a.1 in
        (both (sequence_signals s q) (sequence_signals s v ++ other_signals s more) a.0 b.0, b.1)

  property_paths : {d : ℕ} {p : PropertyForm} {ts rest : Tokens} → IsProperty d p ts rest →
      AreWorded ts → ArePaths (property_signals s p) × AreWorded rest
  property_paths (is_plain x) h = sequence_paths x h
  property_paths (is_implication {a = a} {c = c} m x y) h =
      let i = sequence_paths x h in
      let j = sequence_paths y i.1.1 in
      (both (sequence_signals s a) (sequence_signals s c) i.0 j.0, j.1)
  property_paths (is_first {a = a} {c = c} w o x r m y) h =
      let i = sequence_paths x h.1.1 in
      let j = sequence_paths y i.1.1.1 in
      (both (sequence_signals s a) (sequence_signals s c) i.0 j.0, j.1)
  property_paths (bracketed a b p) h =
      let r = property_paths p h.1 in
      (r.0, r.1.1)

  clear_paths : {o : Option Tree} {ts rest : Tokens} → IsClear o ts rest → AreWorded ts →
      ArePaths (optional_signals s o) × AreWorded rest
  clear_paths no_clear h = (tt, h)
  clear_paths (clear a b x c) h =
      let r = spells_paths x h.1.1 in
      (r.0, r.1.1)

  clause_paths : {which : Terminal} {o : Option (Tree × Tree)} {ts rest : Tokens} →
      IsClause which o ts rest → AreWorded ts → ArePaths (clause_signals s o) × AreWorded rest
  clause_paths no_clause h = (tt, h)
  clause_paths (clause {a = a} {b = b} m n x c y e) h =
      let i = spells_paths x h.1.1 in
      let j = spells_paths y i.1.1 in
      (both (signals s a) (signals s b) i.0 j.0, j.1.1)

  counter_paths : {c : CounterForm} {ts rest : Tokens} → SpellsCounter c ts rest → AreWorded ts →
      ArePaths (counter_signals s c) × AreWorded rest
  counter_paths
      (is_counter {clear = cleared} {load = load} {add = add} {sub = sub} a b c e f x i j k g) h =
      let m = clear_paths x h.1.1.1.1.1 in
      let n = clause_paths i m.1 in
      let o = clause_paths j n.1 in
      let p = clause_paths k o.1 in
      let two = both (clause_signals s add) (clause_signals s sub) o.0 p.0 in
      let three =
      both (clause_signals s load) (clause_signals s add ++ clause_signals s sub) n.0 two in (
        both (optional_signals s cleared)
            (clause_signals s load ++ (clause_signals s add ++ clause_signals s sub)) m.0 three,
        p.1.1,
      )

  declaration_paths : {q : DeclarationForm} {ts rest : Tokens} → SpellsDeclaration q ts rest →
      AreWorded ts → ArePaths (sequence_signals s q.body) × AreWorded rest
  declaration_paths (is_declaration a b c x e) h =
      let r = sequence_paths x h.1.1.1 in
      (r.0, ending_rest e r.1)

  disable_paths : {o : Option Tree} {ts rest : Tokens} → IsDisable o ts rest → AreWorded ts →
      ArePaths (optional_signals s o) × AreWorded rest
  disable_paths no_disable h = (tt, h)
  disable_paths (disable a b c x e) h =
      let r = spells_paths x h.1.1.1 in
      (r.0, r.1.1)

  assertion_paths : {a : AssertionForm} {ts rest : Tokens} → SpellsAssertion a ts rest →
      AreWorded ts → ArePaths (assertion_signals s a) × IsSpoken a × AreWorded rest
  assertion_paths (is_assertion {disable = o} {p = p} l v a b c e f x g i j k m) h =
      let named = label_word l h in
      let clocked = path_words x named.1.1.1.1.1.1.1 in
      let off = disable_paths i clocked.1.1 in
      let said = property_paths j off.1 in (
        both (optional_signals s o) (property_signals s p) off.0 said.0,
        record { label = named.0; clock = clocked.0 },
        said.1.1.1,
      )

  -- an item's paths, and what it says if it is an assertion
  abbrev ItemIs : ItemForm → Tokens → Type 0
  ItemIs (counter c) rest = ArePaths (counter_signals s c) × AreWorded rest
  ItemIs (declaration q) rest = ArePaths (sequence_signals s q.body) × AreWorded rest
  ItemIs (assertion a) rest = ArePaths (assertion_signals s a) × IsSpoken a × AreWorded rest

  item_paths : {i : ItemForm} {ts rest : Tokens} → SpellsItem i ts rest → AreWorded ts →
      ItemIs i rest
  item_paths (a_counter x) h = counter_paths x h
  item_paths (a_declaration x) h = declaration_paths x h
  item_paths (an_assertion x) h = assertion_paths x h

  item_first : (i : ItemForm) (more : List ItemForm) (us : Tokens) → ItemIs i us →
      (AreWorded us →
      ArePaths (file_signals s more) × AllByRecursion IsSpoken (assertions_of more)) →
      ArePaths (file_signals s (i ∷ more)) × AllByRecursion IsSpoken (assertions_of (i ∷ more))
  item_first (counter c) more us h f =
      let g = f h.1 in
      (both (counter_signals s c) (file_signals s more) h.0 g.0, g.1)
  item_first (declaration q) more us h f =
      let g = f h.1 in
      (both (sequence_signals s q.body) (file_signals s more) h.0 g.0, g.1)
  item_first (assertion a) more us h f =
      let g = f h.2 in
      (both (assertion_signals s a) (file_signals s more) h.0 g.0, (h.1, g.1))

  items_paths : {items : List ItemForm} {ts rest : Tokens} → AreItems items ts rest →
      AreWorded ts → ArePaths (file_signals s items) × AllByRecursion IsSpoken (assertions_of items)
  items_paths no_item h = (tt, tt)
  items_paths (one_item {i = i} {more = more} {us = us} x m) h =
      item_first i more us (item_paths x h) (λ g. items_paths m g)

  -- The paths of a text's signals, its clocks and its labels.
  pub file_paths : (items : List ItemForm) (tokens : Tokens) → IsFile items tokens →
      AreWorded tokens →
      ArePaths (file_signals s items) × AllByRecursion IsSpoken (assertions_of items)
  file_paths items tokens file h = items_paths file.spelled h
