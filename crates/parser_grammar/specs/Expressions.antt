-- The grammar of expressions, rule by rule: which tokens a tree spells (IEEE 1800-2017, 11 and
-- annex A.8). In each relation the tree stands for the tokens ts up to rest. d is how many brackets
-- and unfinished operators may be open in it at once: a rule that opens one goes from suc d to d.
use Rattle.std.specs.Prelude.{◌≡◌, ℕ, zero, suc, List, [], ◌∷◌, true, Option, Some, None}
use Rattle.lexer.specs.declared.token.Number.{Number}
use Rattle.lexer.specs.declared.token.Token.{Token}
use Rattle.parser_grammar.specs.declared.bound.Bound.{Bound}
use Rattle.parser_grammar.specs.declared.bound.Index.{Index}
use Rattle.parser_grammar.specs.declared.bound.Select.{Select}
use Rattle.parser_grammar.specs.declared.mark.Function.{Function}
use Rattle.parser_grammar.specs.declared.mark.Mark.TheVariants as marks
use Rattle.parser_grammar.specs.declared.operator.Infix.{Infix}
use Rattle.parser_grammar.specs.declared.operator.Prefix.{Prefix}
use Rattle.parser_grammar.specs.declared.terminal.Terminal.TheVariants.{OpenRound, CloseRound}
use Rattle.parser_grammar.specs.declared.terminal.Terminal.TheVariants.{CloseBrace}
use Rattle.parser_grammar.specs.declared.terminal.Terminal.TheVariants.{OpenSquare, CloseSquare}
use Rattle.parser_grammar.specs.declared.terminal.Terminal.TheVariants.{Comma}
use Rattle.parser_grammar.specs.declared.terminal.Terminal.TheVariants.{Colon, Dot}
use Rattle.parser_grammar.specs.Terminals.{terminal, is_name, is_word}
use Rattle.parser_grammar.specs.Bounds.{index, bound_within}
use Rattle.parser_grammar.specs.Operators.{infix_of, infix_level}
use Rattle.parser_grammar.specs.Marks.{mark, precedence, choice_level}
use Rattle.parser_grammar.specs.Trees.{Tree, number, path, concatenation, past, call, unary, chain}
use Rattle.parser_grammar.specs.Trees.{choice}
use Rattle.parser_grammar.specs.Trees.{Links, end, link, Parts, no_part, part}

-- path = NAME ("." NAME)*, and after a dot every word is a NAME
pub data AreMembers : List Token → List Token → List Token → Type 0 where
  no_member : {ts : List Token} → AreMembers [] ts ts
  member : {dot t : Token} {more ts rest : List Token} → terminal dot ≡ Dot → is_word t ≡ true
      → AreMembers more ts rest → AreMembers (t ∷ more) (dot ∷ t ∷ ts) rest

pub data IsPath : List Token → List Token → List Token → Type 0 where
  name : {t : Token} {more ts rest : List Token} → is_name t ≡ true → AreMembers more ts rest
      → IsPath (t ∷ more) (t ∷ ts) rest

-- ["[" NUM [":" NUM] "]"]
pub data IsSelected : ℕ → Option Select → List Token → List Token → Type 0 where
  whole : {d : ℕ} {ts : List Token} → IsSelected d None ts ts
  bit : {d : ℕ} {left n right : Token} {i : Index} {rest : List Token}
      → terminal left ≡ OpenSquare → index n ≡ Some i → terminal right ≡ CloseSquare
      → IsSelected (suc d) (Some (record { high = i; low = None })) (left ∷ n ∷ right ∷ rest) rest
  bits : {d : ℕ} {left n colon m right : Token} {i j : Index} {rest : List Token}
      → terminal left ≡ OpenSquare → index n ≡ Some i → terminal colon ≡ Colon → index m ≡ Some j
      → terminal right ≡ CloseSquare
      → IsSelected (suc d) (Some (record { high = i; low = Some j }))
      (left ∷ n ∷ colon ∷ m ∷ right ∷ rest) rest

-- ["," NUM], a bound from 1 to 64
pub data IsTicks : Option Bound → List Token → List Token → Type 0 where
  one_tick : {ts : List Token} → IsTicks None ts ts
  some_ticks : {comma n : Token} {b : Bound} {rest : List Token}
      → terminal comma ≡ Comma → bound_within 1 64 n ≡ Some b
      → IsTicks (Some b) (comma ∷ n ∷ rest) rest

mutual
  -- Level 0: primary = NUM | path ["[" NUM [":" NUM] "]"] | "{" expr ("," expr)* "}" | "(" expr ")"
  --                  | "$past" "(" expr ["," NUM] ")" | function "(" expr ")"
  --                  | unary_operator primary
  -- Level l + 1: an operand of level l, and then left operators of level l + 1, each with an
  -- operand of level l.
  pub data Operand : ℕ → ℕ → Tree → List Token → List Token → Type 0 where
    is_number : {d : ℕ} {n : Number} {t : Token} {rest : List Token}
        → mark t ≡ marks.Number n → Operand d zero (number n t) (t ∷ rest) rest
    is_path : {d : ℕ} {words : List Token} {select : Option Select} {ts us rest : List Token}
        → IsPath words ts us → IsSelected d select us rest
        → Operand d zero (path words select) ts rest
    is_concatenation : {d : ℕ} {left right : Token} {e : Tree} {more : Parts}
        {ts us rest : List Token}
        → mark left ≡ marks.Brace → Spells d e ts us → AreParts d more us (right ∷ rest)
        → terminal right ≡ CloseBrace
        → Operand (suc d) zero (concatenation left e more) (left ∷ ts) rest
    in_brackets : {d : ℕ} {left right : Token} {e : Tree} {ts rest : List Token}
        → mark left ≡ marks.Opening → Spells d e ts (right ∷ rest) → terminal right ≡ CloseRound
        → Operand (suc d) zero e (left ∷ ts) rest
    is_past : {d : ℕ} {f left right : Token} {e : Tree} {ticks : Option Bound}
        {ts us rest : List Token}
        → mark f ≡ marks.Past → terminal left ≡ OpenRound → Spells d e ts us
        → IsTicks ticks us (right ∷ rest) → terminal right ≡ CloseRound
        → Operand (suc d) zero (past f e ticks) (f ∷ left ∷ ts) rest
    is_call : {d : ℕ} {g : Function} {f left right : Token} {e : Tree} {ts rest : List Token}
        → mark f ≡ marks.Call g → terminal left ≡ OpenRound → Spells d e ts (right ∷ rest)
        → terminal right ≡ CloseRound
        → Operand (suc d) zero (call g f e) (f ∷ left ∷ ts) rest
    is_unary : {d : ℕ} {op : Prefix} {t : Token} {e : Tree} {ts rest : List Token}
        → mark t ≡ marks.Prefix op → Operand d zero e ts rest
        → Operand (suc d) zero (unary op t e) (t ∷ ts) rest
    is_tighter : {d l : ℕ} {e : Tree} {ts rest : List Token}
        → Operand d l e ts rest → Operand d (suc l) e ts rest
    is_chain : {d l : ℕ} {op : Infix} {first e : Tree} {more : Links} {ts us rest : List Token}
        → Operand d l first ts us → Follows d l (link op e more) us rest
        → Operand d (suc l) (chain first (link op e more)) ts rest

  -- (operator operand)*, the operators of level l + 1
  pub data Follows : ℕ → ℕ → Links → List Token → List Token → Type 0 where
    no_more : {d l : ℕ} {ts : List Token} → Follows d l end ts ts
    one_more : {d l : ℕ} {op : Infix} {t : Token} {e : Tree} {more : Links}
        {ts us rest : List Token}
        → infix_of t ≡ Some op → infix_level op ≡ suc l → Operand d l e ts us
        → Follows d l more us rest → Follows d l (link op e more) (t ∷ ts) rest

  -- ("," expr)*
  pub data AreParts : ℕ → Parts → List Token → List Token → Type 0 where
    no_parts : {d : ℕ} {ts : List Token} → AreParts d no_part ts ts
    one_part : {d : ℕ} {comma : Token} {e : Tree} {more : Parts} {ts us rest : List Token}
        → terminal comma ≡ Comma → Spells d e ts us → AreParts d more us rest
        → AreParts d (part e more) (comma ∷ ts) rest

  -- expr = operand_9 | operand_9 "?" expr ":" expr
  pub data Spells : ℕ → Tree → List Token → List Token → Type 0 where
    is_operand : {d : ℕ} {e : Tree} {ts rest : List Token}
        → Operand d 9 e ts rest → Spells d e ts rest
    is_choice : {d : ℕ} {t colon : Token} {c a b : Tree} {ts us vs rest : List Token}
        → precedence t ≡ choice_level → terminal colon ≡ Colon → Operand (suc d) 9 c ts (t ∷ us)
        → Spells d a us (colon ∷ vs) → Spells d b vs rest
        → Spells (suc d) (choice c a b) ts rest
