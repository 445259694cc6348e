-- The grammar of sequences and properties, rule by rule (IEEE 1800-2017, 16.7 to 16.12 and
-- annex F).
use Rattle.std.specs.Prelude.{◌≡◌, ℕ, suc, true, List, ◌∷◌, Option, Some, None}
use Rattle.lexer.specs.declared.token.Token.{Token}
use Rattle.parser_grammar.specs.declared.bound.Bound.{Bound}
use Rattle.parser_grammar.specs.declared.bound.Range.{Range}
use Rattle.parser_grammar.specs.declared.operator.Implication.{Implication}
use Rattle.parser_grammar.specs.declared.operator.Junction.TheVariants as junctions
use Rattle.parser_grammar.specs.declared.terminal.Terminal.TheVariants.{OpenRound, CloseRound}
use Rattle.parser_grammar.specs.declared.terminal.Terminal.TheVariants.{OpenSquare}
use Rattle.parser_grammar.specs.declared.terminal.Terminal.TheVariants.{OpenRepeat, CloseSquare}
use Rattle.parser_grammar.specs.declared.terminal.Terminal.TheVariants.{Colon}
use Rattle.parser_grammar.specs.declared.terminal.Terminal.TheVariants.{Delay, Throughout}
use Rattle.parser_grammar.specs.declared.terminal.Terminal.TheVariants.{Intersect, And}
use Rattle.parser_grammar.specs.declared.terminal.Terminal.TheVariants.{Or}
use Rattle.parser_grammar.specs.Terminals.{terminal, is_first_match_word}
use Rattle.parser_grammar.specs.Bounds.{bound_within}
use Rattle.parser_grammar.specs.Operators.{implication_of}
use Rattle.parser_grammar.specs.Trees.{Tree, SequenceForm, boolean, repeated, late, delayed}
use Rattle.parser_grammar.specs.Trees.{throughout}
use Rattle.parser_grammar.specs.Trees.{joined, Steps, no_step, step, Others, no_other, other}
use Rattle.parser_grammar.specs.Trees.{PropertyForm, plain, implication}
use Rattle.parser_grammar.specs.Expressions.{Spells}

-- NUM, a bound of a delay or a repetition
abbrev pub bound : Token → Option Bound
bound = bound_within 0 127

-- What can't be read as an expression: where text can, it is one.
abbrev pub IsNoExpression : SequenceForm → Type 0
IsNoExpression (boolean e) = ⊥
IsNoExpression (repeated s n) = Unit {0}
IsNoExpression (late t n s) = Unit {0}
IsNoExpression (delayed s more) = Unit {0}
IsNoExpression (throughout e s) = Unit {0}
IsNoExpression (joined j s more) = Unit {0}

-- "[*" NUM [":" NUM] "]"
pub data IsTimes : Range → List Token → List Token → Type 0 where
  times : {left n right : Token} {low : Bound} {rest : List Token}
      → terminal left ≡ OpenRepeat → bound n ≡ Some low → terminal right ≡ CloseSquare
      → IsTimes (record { low = low; high = None }) (left ∷ n ∷ right ∷ rest) rest
  times_to : {left n colon m right : Token} {low high : Bound} {rest : List Token}
      → terminal left ≡ OpenRepeat → bound n ≡ Some low → terminal colon ≡ Colon
      → bound_within low.value 127 m ≡ Some high → terminal right ≡ CloseSquare
      → IsTimes (record { low = low; high = Some high }) (left ∷ n ∷ colon ∷ m ∷ right ∷ rest) rest

-- delay = "##" NUM | "##" "[" NUM ":" NUM "]"
pub data IsDelay : ℕ → Range → List Token → List Token → Type 0 where
  after : {d : ℕ} {t n : Token} {low : Bound} {rest : List Token}
      → terminal t ≡ Delay → bound n ≡ Some low
      → IsDelay d (record { low = low; high = None }) (t ∷ n ∷ rest) rest
  between : {d : ℕ} {t left n colon m right : Token} {low high : Bound} {rest : List Token}
      → terminal t ≡ Delay → terminal left ≡ OpenSquare → bound n ≡ Some low
      → terminal colon ≡ Colon → bound_within low.value 127 m ≡ Some high
      → terminal right ≡ CloseSquare
      → IsDelay (suc d) (record { low = low; high = Some high })
      (t ∷ left ∷ n ∷ colon ∷ m ∷ right ∷ rest) rest

mutual
  -- expr | "(" seq ")"
  pub data IsBody : ℕ → SequenceForm → List Token → List Token → Type 0 where
    is_boolean : {d : ℕ} {e : Tree} {ts rest : List Token}
        → Spells d e ts rest → IsBody d (boolean e) ts rest
    in_brackets : {d : ℕ} {left right : Token} {s : SequenceForm} {ts rest : List Token}
        → terminal left ≡ OpenRound → terminal right ≡ CloseRound → IsNoExpression s
        → IsSequence d s ts (right ∷ rest) → IsBody (suc d) s (left ∷ ts) rest

  -- rep = (expr | "(" seq ")") ["[*" NUM [":" NUM] "]"]
  pub data IsRepetition : ℕ → SequenceForm → List Token → List Token → Type 0 where
    is_once : {d : ℕ} {s : SequenceForm} {ts rest : List Token}
        → IsBody d s ts rest → IsRepetition d s ts rest
    is_repeated : {d : ℕ} {n : Range} {s : SequenceForm} {ts us rest : List Token}
        → IsBody (suc d) s ts us → IsTimes n us rest → IsRepetition (suc d) (repeated s n) ts rest

  -- [delay] rep
  pub data IsHead : ℕ → SequenceForm → List Token → List Token → Type 0 where
    is_prompt : {d : ℕ} {s : SequenceForm} {ts rest : List Token}
        → IsRepetition d s ts rest → IsHead d s ts rest
    is_late : {d : ℕ} {t : Token} {n : Range} {s : SequenceForm} {ts us rest : List Token}
        → IsDelay d n (t ∷ ts) us → IsRepetition d s us rest → IsHead d (late t n s) (t ∷ ts) rest

  -- (delay rep)*
  pub data AreSteps : ℕ → Steps → List Token → List Token → Type 0 where
    no_steps : {d : ℕ} {ts : List Token} → AreSteps d no_step ts ts
    one_step : {d : ℕ} {n : Range} {s : SequenceForm} {more : Steps} {ts us vs rest : List Token}
        → IsDelay d n ts us → IsRepetition d s us vs → AreSteps d more vs rest
        → AreSteps d (step n s more) ts rest

  -- cat = [delay] rep (delay rep)*
  pub data IsDelayed : ℕ → SequenceForm → List Token → List Token → Type 0 where
    is_head : {d : ℕ} {s : SequenceForm} {ts rest : List Token}
        → IsHead d s ts rest → IsDelayed d s ts rest
    is_delayed : {d : ℕ} {n : Range} {s v : SequenceForm} {more : Steps} {ts us rest : List Token}
        → IsHead d s ts us → AreSteps d (step n v more) us rest
        → IsDelayed d (delayed s (step n v more)) ts rest

  -- thr = expr "throughout" thr | cat
  pub data IsDuring : ℕ → SequenceForm → List Token → List Token → Type 0 where
    is_cat : {d : ℕ} {s : SequenceForm} {ts rest : List Token}
        → IsDelayed d s ts rest → IsDuring d s ts rest
    is_throughout : {d : ℕ} {t : Token} {e : Tree} {s : SequenceForm} {ts us rest : List Token}
        → terminal t ≡ Throughout → Spells (suc d) e ts (t ∷ us) → IsDuring d s us rest
        → IsDuring (suc d) (throughout e s) ts rest

  -- ("intersect" thr)*
  pub data AreMeets : ℕ → Others → List Token → List Token → Type 0 where
    no_meet : {d : ℕ} {ts : List Token} → AreMeets d no_other ts ts
    one_meet : {d : ℕ} {t : Token} {s : SequenceForm} {more : Others} {ts us rest : List Token}
        → terminal t ≡ Intersect → IsDuring d s ts us → AreMeets d more us rest
        → AreMeets d (other s more) (t ∷ ts) rest

  -- int = thr ("intersect" thr)*
  pub data IsIntersection : ℕ → SequenceForm → List Token → List Token → Type 0 where
    is_during : {d : ℕ} {s : SequenceForm} {ts rest : List Token}
        → IsDuring d s ts rest → IsIntersection d s ts rest
    is_meet : {d : ℕ} {s v : SequenceForm} {more : Others} {ts us rest : List Token}
        → IsDuring d s ts us → AreMeets d (other v more) us rest
        → IsIntersection d (joined junctions.Intersect s (other v more)) ts rest

  -- ("and" int)*
  pub data AreConjuncts : ℕ → Others → List Token → List Token → Type 0 where
    no_conjunct : {d : ℕ} {ts : List Token} → AreConjuncts d no_other ts ts
    one_conjunct : {d : ℕ} {t : Token} {s : SequenceForm} {more : Others} {ts us rest : List Token}
        → terminal t ≡ And → IsIntersection d s ts us → AreConjuncts d more us rest
        → AreConjuncts d (other s more) (t ∷ ts) rest

  -- and_seq = int ("and" int)*
  pub data IsConjunction : ℕ → SequenceForm → List Token → List Token → Type 0 where
    is_intersection : {d : ℕ} {s : SequenceForm} {ts rest : List Token}
        → IsIntersection d s ts rest → IsConjunction d s ts rest
    is_all : {d : ℕ} {s v : SequenceForm} {more : Others} {ts us rest : List Token}
        → IsIntersection d s ts us → AreConjuncts d (other v more) us rest
        → IsConjunction d (joined junctions.And s (other v more)) ts rest

  -- ("or" and_seq)*
  pub data AreAlternatives : ℕ → Others → List Token → List Token → Type 0 where
    no_alternative : {d : ℕ} {ts : List Token} → AreAlternatives d no_other ts ts
    one_alternative : {d : ℕ} {t : Token} {s : SequenceForm} {more : Others}
        {ts us rest : List Token}
        → terminal t ≡ Or → IsConjunction d s ts us → AreAlternatives d more us rest
        → AreAlternatives d (other s more) (t ∷ ts) rest

  -- seq = and_seq ("or" and_seq)*
  pub data IsSequence : ℕ → SequenceForm → List Token → List Token → Type 0 where
    is_conjunction : {d : ℕ} {s : SequenceForm} {ts rest : List Token}
        → IsConjunction d s ts rest → IsSequence d s ts rest
    is_either : {d : ℕ} {s v : SequenceForm} {more : Others} {ts us rest : List Token}
        → IsConjunction d s ts us → AreAlternatives d (other v more) us rest
        → IsSequence d (joined junctions.Or s (other v more)) ts rest

-- prop = "(" prop ")" | seq | seq "|->" seq | seq "|=>" seq
--        | "first_match" "(" seq ")" ("|->" | "|=>") seq
pub data IsProperty : ℕ → PropertyForm → List Token → List Token → Type 0 where
  is_plain : {d : ℕ} {s : SequenceForm} {ts rest : List Token}
      → IsSequence d s ts rest → IsProperty d (plain s) ts rest
  is_implication : {d : ℕ} {t : Token} {i : Implication} {a c : SequenceForm}
      {ts us rest : List Token}
      → implication_of t ≡ Some i → IsSequence d a ts (t ∷ us) → IsSequence d c us rest
      → IsProperty d (implication None a i c) ts rest
  is_first : {d : ℕ} {word left right t : Token} {i : Implication} {a c : SequenceForm}
      {ts us rest : List Token}
      → is_first_match_word word ≡ true → terminal left ≡ OpenRound
      → IsSequence d a ts (right ∷ t ∷ us) → terminal right ≡ CloseRound
      → implication_of t ≡ Some i → IsSequence (suc d) c us rest
      → IsProperty (suc d) (implication (Some word) a i c) (word ∷ left ∷ ts) rest
  bracketed : {d : ℕ} {left right : Token} {p : PropertyForm} {ts rest : List Token}
      → terminal left ≡ OpenRound → terminal right ≡ CloseRound
      → IsProperty d p ts (right ∷ rest) → IsProperty (suc d) p (left ∷ ts) rest
