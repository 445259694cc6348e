-- Texts of the profile that say a rewriting: what they spell is one assertion, whose sides have
-- the outlines of the rewriting's.
use Rattle.std.specs.Prelude.{◌≡◌, ℕ, List, [], ◌∷◌, ◌++◌, Bool, Option, Some, None, Ok, map}
use Rattle.std.specs.Prelude.{is_some, option_map, flat_map, codes}
use Rattle.lexer.specs.declared.token.Token.{Token}
use Rattle.lexer.specs.Cutting.{cut_of, tokens_of}
use Rattle.parser_grammar.specs.declared.operator.Implication.TheVariants.{Overlapped}
use Rattle.parser_grammar.specs.declared.operator.Implication.TheVariants.{NonOverlapped}
use Rattle.parser_grammar.specs.Trees.{AssertionForm, ItemForm, counter, declaration, assertion}
use Rattle.parser_grammar.specs.Trees.{PropertyForm, plain, implication}
use Rattle.parser_grammar.specs.Files.{IsFile}
use Rattle.assertions.specs.Written.{Written, boolean, delay}
use Rattle.import_properties.specs.declared.condition.Condition.{Condition}
use Rattle.import_properties.specs.declared.condition.Condition.TheVariants.{One}
use Rattle.import_text.specs.Outlines.{outline, spelled_outline}

-- the assertions of a text, in its order
abbrev pub assertions_of : List ItemForm → List AssertionForm
assertions_of [] = []
assertions_of (counter c ∷ items) = assertions_of items
assertions_of (declaration d ∷ items) = assertions_of items
assertions_of (assertion a ∷ items) = a ∷ assertions_of items

abbrev pub text_of : Token → List ℕ
text_of token = token.text.now

abbrev pub after_dot : Token → List ℕ
after_dot token = codes "." ++ text_of token

-- a path with a dot between its words
abbrev pub dotted : List Token → List ℕ
dotted [] = []
dotted (token ∷ tokens) = text_of token ++ flat_map after_dot tokens

-- The sides of a property have the outlines of these two. The antecedent 1 is left out.
abbrev pub HasSides : PropertyForm → Written Condition → Written Condition → Type 0
HasSides (plain s) antecedent consequent =
    (antecedent ≡ boolean One) × (spelled_outline s ≡ outline consequent)
HasSides (implication None r Overlapped s) antecedent consequent =
    (spelled_outline r ≡ outline antecedent) × (spelled_outline s ≡ outline consequent)
HasSides (implication None r NonOverlapped s) antecedent consequent =
    (before : Written Condition) × (antecedent ≡ delay before 1 1 (boolean One))
    × (spelled_outline r ≡ outline before) × (spelled_outline s ≡ outline consequent)
HasSides (implication (Some word) r i s) antecedent consequent = ⊥

-- An assertion of this label and this clock, with a `disable iff` or with none, whose sides have
-- these outlines.
pub record IsRewriting (label clock : List ℕ) (disabled : Bool)
    (antecedent consequent : Written Condition) (a : AssertionForm) : Type 0 where
  pub named : option_map text_of a.label ≡ Some label
  pub clocked : dotted a.clock ≡ clock
  pub disables : is_some a.disable ≡ disabled
  pub sides : HasSides a.property antecedent consequent

-- One of the items is an assertion, which is that of the rewriting.
pub record IsOnlyRewriting (label clock : List ℕ) (disabled : Bool)
    (antecedent consequent : Written Condition) (items : List ItemForm) : Type 0 where
  pub assertion : AssertionForm
  pub alone : assertions_of items ≡ assertion ∷ []
  pub rewriting : IsRewriting label clock disabled antecedent consequent assertion

-- The tokens of a text spell a file, whose only assertion is that of the rewriting.
pub record SaysRewriting (label clock : List ℕ) (disabled : Bool)
    (antecedent consequent : Written Condition) (text : List ℕ) : Type 0 where
  pub tokens : List Token
  pub items : List ItemForm
  pub cut : tokens_of text ≡ Ok (map cut_of tokens)
  pub spelled : IsFile items tokens
  pub only : IsOnlyRewriting label clock disabled antecedent consequent items
