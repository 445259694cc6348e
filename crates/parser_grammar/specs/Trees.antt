-- Trees without brackets, and without where they lie in memory.
use Rattle.std.specs.Prelude.{List, Option}
use Rattle.lexer.specs.declared.token.Number.{Number}
use Rattle.lexer.specs.declared.token.Token.{Token}
use Rattle.parser_grammar.specs.declared.bound.Bound.{Bound}
use Rattle.parser_grammar.specs.declared.bound.Range.{Range}
use Rattle.parser_grammar.specs.declared.bound.Select.{Select}
use Rattle.parser_grammar.specs.declared.mark.Function.{Function}
use Rattle.parser_grammar.specs.declared.operator.Implication.{Implication}
use Rattle.parser_grammar.specs.declared.operator.Infix.{Infix}
use Rattle.parser_grammar.specs.declared.operator.Junction.{Junction}
use Rattle.parser_grammar.specs.declared.operator.Prefix.{Prefix}

-- An expression. The tokens that stand in it are those with which a node begins.
mutual
  pub data Tree : Type 0 where
    number : Number → Token → Tree
    path : List Token → Option Select → Tree
    concatenation : Token → Tree → Parts → Tree
    past : Token → Tree → Option Bound → Tree
    call : Function → Token → Tree → Tree
    unary : Prefix → Token → Tree → Tree
    chain : Tree → Links → Tree
    choice : Tree → Tree → Tree → Tree

  -- left operators of one level, each with its right operand
  pub data Links : Type 0 where
    end : Links
    link : Infix → Tree → Links → Links

  -- more parts of a concatenation
  pub data Parts : Type 0 where
    no_part : Parts
    part : Tree → Parts → Parts

-- A sequence. Delays of one chain, and sides that are all joined by "and", or all by "or", are one
-- node.
mutual
  pub data SequenceForm : Type 0 where
    boolean : Tree → SequenceForm
    repeated : SequenceForm → Range → SequenceForm
    -- the token "##" with which it begins, its count, and what it delays
    late : Token → Range → SequenceForm → SequenceForm
    delayed : SequenceForm → Steps → SequenceForm
    throughout : Tree → SequenceForm → SequenceForm
    joined : Junction → SequenceForm → Others → SequenceForm

  -- delays, each with what it delays
  pub data Steps : Type 0 where
    no_step : Steps
    step : Range → SequenceForm → Steps → Steps

  -- more sides
  pub data Others : Type 0 where
    no_other : Others
    other : SequenceForm → Others → Others

-- A sequence alone, or an implication, with the word "first_match" where it stands round the
-- antecedent.
pub data PropertyForm : Type 0 where
  plain : SequenceForm → PropertyForm
  implication : Option Token → SequenceForm → Implication → SequenceForm → PropertyForm

pub record CounterForm : Type 0 where
  pub name : Token
  pub width : Bound
  pub clear : Option Tree
  pub load : Option (Tree × Tree)
  pub add : Option (Tree × Tree)
  pub sub : Option (Tree × Tree)

pub record DeclarationForm : Type 0 where
  pub name : Token
  pub body : SequenceForm

pub record AssertionForm : Type 0 where
  pub label : Option Token
  pub verb : Token
  pub clock : List Token
  pub disable : Option Tree
  pub property : PropertyForm

pub data ItemForm : Type 0 where
  counter : CounterForm → ItemForm
  declaration : DeclarationForm → ItemForm
  assertion : AssertionForm → ItemForm
