-- What the code keeps of an assertion before it is written out.
use Rattle.std.specs.Prelude.{◌≡◌, ℕ, List, Option, Some, None, string_bytes}
use Rattle.parser_grammar.specs.Trees as trees
use Rattle.parser_grammar.specs.Trees.{PropertyForm, plain, implication}
use Rattle.expressions.specs.declared.expr.Expr.{Expr}
use Rattle.types.specs.Views.{draft_of}
use Rattle.types_names.specs.Scopes.{Scope}
use Rattle.types.specs.declared.drafted_assertion.DraftedAssertion.{DraftedAssertion}
use Rattle.types.specs.Texts.{label_text, sequence_byte, led_byte}
use Rattle.types.specs.Suites.{first_by, ReadsAntecedent, ReadsConsequent, IsDisabledBy}

-- where the antecedent begins, if one is written, and the consequent
abbrev pub antecedent_byte : PropertyForm → Option ℕ
antecedent_byte (plain q) = None
antecedent_byte (implication word a i c) = Some (led_byte word a)

abbrev pub consequent_byte : PropertyForm → ℕ
consequent_byte (plain q) = sequence_byte q
consequent_byte (implication word a i c) = sequence_byte c

-- The sides of an assertion, before which so many stand, as drafts.
pub record IsDraftedAssertion (s : Scope) (columns : List (List ℕ)) (booleans : List Expr)
    (before : ℕ) (a : trees.AssertionForm) (m : DraftedAssertion) : Type 0 where
  pub name : string_bytes m.name ≡ label_text before a.label
  pub first : m.first ≡ first_by a.property
  pub antecedent : ReadsAntecedent s columns booleans a.property (draft_of m.antecedent.value)
  pub consequent : ReadsConsequent s columns booleans a.property (draft_of m.consequent.value)
  pub antecedent_at : m.antecedent_at ≡ antecedent_byte a.property
  pub consequent_at : m.consequent_at ≡ consequent_byte a.property
  pub disabling : IsDisabledBy s columns booleans a.disable m.disabling
