-- What the code keeps of an assertion once its names are resolved.
use Rattle.std.specs.Prelude.{◌≡◌, ℕ, List, map, Option, string_bytes}
use Rattle.std.specs.List.{AllZip, enumerate_from}
use Rattle.parser_grammar.specs.Trees as trees
use Rattle.expressions.specs.declared.expr.Expr.{Expr}
use Rattle.assertions.specs.declared.sequence.Boolean.{Boolean}
use Rattle.types.specs.declared.entry.Entry.{Entry}
use Rattle.types.specs.Drafts.{Draft}
use Rattle.types.specs.Entries.{HasEntry, IsEntryTable}
use Rattle.types_names.specs.Scopes.{Scope}
use Rattle.types.specs.declared.resolved.Resolved.{Resolved}
use Rattle.types.specs.Readings.{AllRead}
use Rattle.types.specs.Texts.{declarations_of, label_text}
use Rattle.types.specs.Suites.{first_by, ReadsAntecedent, ReadsConsequent, IsDisabledBy}
use Rattle.types.specs.Drafted.{antecedent_byte, consequent_byte}

-- The table has entries of the named sequences of a text.
pub record HasBodies (s : Scope) (columns : List (List ℕ)) (booleans : List Expr)
    (items : List trees.ItemForm) (table : List (Option Entry)) : Type 0 where
  pub bodies : List (Draft Boolean)
  pub read : AllRead s columns booleans (map (λ d. d.body) (declarations_of items)) bodies
  pub entries : IsEntryTable bodies table

-- The entries of what an assertion's sides say, before which so many assertions stand.
pub record IsResolved (s : Scope) (columns : List (List ℕ)) (booleans : List Expr)
    (bodies : List (Draft Boolean)) (before : ℕ) (a : trees.AssertionForm)
    (m : Resolved) : Type 0 where
  pub antecedent : Draft Boolean
  pub consequent : Draft Boolean
  pub name : string_bytes m.name ≡ label_text before a.label
  pub first : m.first ≡ first_by a.property
  pub reads_antecedent : ReadsAntecedent s columns booleans a.property antecedent
  pub reads_consequent : ReadsConsequent s columns booleans a.property consequent
  pub antecedent_entry : HasEntry bodies antecedent m.antecedent
  pub consequent_entry : HasEntry bodies consequent m.consequent
  pub antecedent_at : m.antecedent_at ≡ antecedent_byte a.property
  pub consequent_at : m.consequent_at ≡ consequent_byte a.property
  pub disabling : IsDisabledBy s columns booleans a.disable m.disabling

-- the same of several, in their order
abbrev pub AreResolved : Scope → List (List ℕ) → List Expr → List (Draft Boolean) → ℕ
    → List trees.AssertionForm → List Resolved → Type 0
AreResolved s columns booleans bodies before forms made =
    AllZip (λ a m. IsResolved s columns booleans bodies a.0 a.1 m)
    (enumerate_from before forms) made
