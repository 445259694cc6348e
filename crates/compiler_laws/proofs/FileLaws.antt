-- Each expression of a file is spelled with at most 64 open.
use Rattle.std.proofs.Common.{ℕ, ◌≤◌, List, Option, arith}
use Rattle.lexer.specs.declared.token.Token.{Token}
use Rattle.parser_grammar.specs.declared.terminal.Terminal.{Terminal}
use Rattle.parser_grammar.specs.Trees.{Tree, SequenceForm, Steps, Others, PropertyForm, ItemForm}
use Rattle.parser_grammar.specs.Expressions.{Spells}
use Rattle.parser_grammar.specs.Sequences.{IsBody, is_boolean, in_brackets, IsRepetition, is_once, is_repeated, IsHead}
use Rattle.parser_grammar.specs.Sequences.{is_prompt, is_late}
use Rattle.parser_grammar.specs.Sequences.{AreSteps, no_steps, one_step, IsDelayed, is_head, is_delayed, IsDuring}
use Rattle.parser_grammar.specs.Sequences.{is_cat}
use Rattle.parser_grammar.specs.Sequences.{is_throughout}
use Rattle.parser_grammar.specs.Sequences.{AreMeets, no_meet, one_meet, IsIntersection, is_meet, is_intersection}
use Rattle.parser_grammar.specs.Sequences.{AreConjuncts, no_conjunct, one_conjunct, IsConjunction, is_during, is_all}
use Rattle.parser_grammar.specs.Sequences.{AreAlternatives, no_alternative, one_alternative, IsSequence, is_conjunction}
use Rattle.parser_grammar.specs.Sequences.{is_either}
use Rattle.parser_grammar.specs.Sequences.{IsProperty, is_plain, is_implication, is_first, bracketed}
use Rattle.parser_grammar.specs.Files.{IsClear, no_clear, clear, IsClause, no_clause, clause, is_counter}
use Rattle.parser_grammar.specs.Files.{is_declaration}
use Rattle.parser_grammar.specs.Files.{IsDisable, no_disable, disable, is_assertion, SpellsItem, a_counter}
use Rattle.parser_grammar.specs.Files.{a_declaration}
use Rattle.parser_grammar.specs.Files.{an_assertion}
use Rattle.parser_grammar.specs.Files.{AreItems, no_item, one_item, most_open}
use Rattle.compiler_laws.specs.TextTrees.{OfOne, OfTwo, OfSequence, OfSteps, OfOthers, OfProperty, OfItem, EachTree}

-- P holds of what is spelled with at most 64 open
module _ (P : Tree → Type 0) (each : (d : ℕ) (t : Tree) (ts rest : List Token) → Spells d t ts rest → d ≤ most_open
    → P t) where
  mutual
    unfolding OfSequence OfSteps OfOthers

    of-body : {d : ℕ} {s : SequenceForm} {ts rest : List Token} → IsBody d s ts rest → d ≤ most_open → OfSequence P s
    of-body (is_boolean spelled) low = each _ _ _ _ spelled low
    of-body (in_brackets l r n inner) low = of-sequence inner (omega arith)

    of-repetition : {d : ℕ} {s : SequenceForm} {ts rest : List Token} → IsRepetition d s ts rest → d ≤ most_open
        → OfSequence P s
    of-repetition (is_once inner) low = of-body inner low
    of-repetition (is_repeated inner counts) low = of-body inner low

    of-head : {d : ℕ} {s : SequenceForm} {ts rest : List Token} → IsHead d s ts rest → d ≤ most_open → OfSequence P s
    of-head (is_prompt inner) low = of-repetition inner low
    of-head (is_late delay inner) low = of-repetition inner low

    of-steps : {d : ℕ} {steps : Steps} {ts rest : List Token} → AreSteps d steps ts rest → d ≤ most_open
        → OfSteps P steps
    of-steps no_steps low = tt
    of-steps (one_step delay inner more) low = (of-repetition inner low, of-steps more low)

    of-delayed : {d : ℕ} {s : SequenceForm} {ts rest : List Token} → IsDelayed d s ts rest → d ≤ most_open
        → OfSequence P s
    of-delayed (is_head inner) low = of-head inner low
    of-delayed (is_delayed inner more) low = (of-head inner low, of-steps more low)

    of-during : {d : ℕ} {s : SequenceForm} {ts rest : List Token} → IsDuring d s ts rest → d ≤ most_open
        → OfSequence P s
    of-during (is_cat inner) low = of-delayed inner low
    of-during (is_throughout h spelled inner) low = (each _ _ _ _ spelled low, of-during inner (omega arith))

    of-meets : {d : ℕ} {others : Others} {ts rest : List Token} → AreMeets d others ts rest → d ≤ most_open
        → OfOthers P others
    of-meets no_meet low = tt
    of-meets (one_meet h inner more) low = (of-during inner low, of-meets more low)

    of-intersection : {d : ℕ} {s : SequenceForm} {ts rest : List Token} → IsIntersection d s ts rest → d ≤ most_open
        → OfSequence P s
    of-intersection (is_during inner) low = of-during inner low
    of-intersection (is_meet inner more) low = (of-during inner low, of-meets more low)

    of-conjuncts : {d : ℕ} {others : Others} {ts rest : List Token} → AreConjuncts d others ts rest → d ≤ most_open
        → OfOthers P others
    of-conjuncts no_conjunct low = tt
    of-conjuncts (one_conjunct h inner more) low = (of-intersection inner low, of-conjuncts more low)

    of-conjunction : {d : ℕ} {s : SequenceForm} {ts rest : List Token} → IsConjunction d s ts rest → d ≤ most_open
        → OfSequence P s
    of-conjunction (is_intersection inner) low = of-intersection inner low
    of-conjunction (is_all inner more) low = (of-intersection inner low, of-conjuncts more low)

    of-alternatives : {d : ℕ} {others : Others} {ts rest : List Token} → AreAlternatives d others ts rest
        → d ≤ most_open → OfOthers P others
    of-alternatives no_alternative low = tt
    of-alternatives (one_alternative h inner more) low = (of-conjunction inner low, of-alternatives more low)

    of-sequence : {d : ℕ} {s : SequenceForm} {ts rest : List Token} → IsSequence d s ts rest → d ≤ most_open
        → OfSequence P s
    of-sequence (is_conjunction inner) low = of-conjunction inner low
    of-sequence (is_either inner more) low = (of-conjunction inner low, of-alternatives more low)

  of-property : {d : ℕ} {p : PropertyForm} {ts rest : List Token} → IsProperty d p ts rest → d ≤ most_open
      → OfProperty P p
  of-property (is_plain inner) low = of-sequence inner low
  of-property (is_implication h first second) low = (of-sequence first low, of-sequence second low)
  of-property (is_first w o first r h second) low = (of-sequence first (omega arith), of-sequence second low)
  of-property (bracketed l r inner) low = of-property inner (omega arith)

  of-clear : {t : Option Tree} {ts rest : List Token} → IsClear t ts rest → OfOne P t
  of-clear no_clear = tt
  of-clear (clear w l spelled r) = each _ _ _ _ spelled (omega arith)

  of-clause : {which : Terminal} {pair : Option (Tree × Tree)} {ts rest : List Token} → IsClause which pair ts rest
      → OfTwo P pair
  of-clause no_clause = tt
  of-clause (clause w l first k second r) = (each _ _ _ _ first (omega arith), each _ _ _ _ second (omega arith))

  of-disable : {t : Option Tree} {ts rest : List Token} → IsDisable t ts rest → OfOne P t
  of-disable no_disable = tt
  of-disable (disable w i l spelled r) = each _ _ _ _ spelled (omega arith)

  of-item : {i : ItemForm} {ts rest : List Token} → SpellsItem i ts rest → OfItem P i
  of-item (a_counter (is_counter w n l b r c load add sub e)) =
      record { clear = of-clear c; load = of-clause load; add = of-clause add; sub = of-clause sub }
  of-item (a_declaration (is_declaration w n k body e)) = of-sequence body (omega arith)
  of-item (an_assertion (is_assertion named verb property left at_sign round posedge clock right d p last semicolon)) =
      record { disable = of-disable d; property = of-property p (omega arith) }

  pub of-items : {items : List ItemForm} {ts rest : List Token} → AreItems items ts rest → EachTree P items
  of-items no_item = tt
  of-items (one_item item more) = (of-item item, of-items more)
