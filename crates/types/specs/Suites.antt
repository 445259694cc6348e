-- The suite of a text.
use Rattle.std.specs.Prelude.{◌≡◌, ◌⊎◌, ℕ, Bool, false, List, [], ◌∷◌, ◌++◌, map, length, Option}
use Rattle.std.specs.Prelude.{Some, None}
use Rattle.std.specs.Prelude.{string_bytes}
use Rattle.std.specs.List.{AllZip, enumerate_from}
use Rattle.parser_grammar.specs.Trees as trees
use Rattle.parser_grammar.specs.Trees.{Tree, PropertyForm, plain, implication, ItemForm}
use Rattle.expressions.specs.declared.expr.Expr.{Expr}
use Rattle.expressions.specs.declared.rule.Rule.{Rule}
use Rattle.expressions.specs.declared.counter.Counter.{Counter}
use Rattle.expressions.specs.Expressions.{term_of}
use Rattle.parser_grammar.specs.declared.operator.Implication.{Implication}
use Rattle.assertions.specs.declared.sequence.Boolean.{Boolean}
use Rattle.assertions.specs.declared.sequence.Boolean.TheVariants.{One, Listed}
use Rattle.assertions.specs.declared.assertion.Assertion.{Assertion}
use Rattle.assertions.specs.declared.signal.Signal.{Signal}
use Rattle.assertions.specs.declared.suite.Suite.{Suite}
use Rattle.assertions.specs.Written.{Written, IsOrdered}
use Rattle.assertions.specs.Shapes.{written_form}
use Rattle.assertions.specs.Listed.{IsUsed, IsListedOption}
use Rattle.types.specs.Drafts as drafts
use Rattle.types.specs.Implications.{rewritten_antecedent}
use Rattle.types.specs.Drafts.{Draft, IsWrittenOut, IsNumberIn}
use Rattle.types.specs.Placed.{MatchesByPlaces, IsPlacedBoolean, AllListed}
use Rattle.types.specs.Leaves.{sequence_places, form_of}
use Rattle.types.specs.Trimmed.{IsTrimmed}
use Rattle.types_names.specs.Scopes.{Scope, width_in}
use Rattle.types_names.specs.Columns.{columns_of}
use Rattle.types_names.specs.Meanings.{Means}
use Rattle.types.specs.Options.{OptionZip}
use Rattle.types.specs.Readings.{IsBooleanOf, Reads, AllRead}
use Rattle.types.specs.Texts.{declarations_of, counters_of, assertions_of, suite_clock}
use Rattle.types.specs.Texts.{label_text, is_led}

-- A signal that the text reads at the path, with its width.
abbrev pub IsSignal : Scope → List ℕ → Signal → Type 0
IsSignal s path x = (string_bytes x.path ≡ path) × (s.dump path ≡ Some x.width)

abbrev pub AreSignals : Scope → List (List ℕ) → List Signal → Type 0
AreSignals s = AllZip (IsSignal s)

-- A condition that may be left out, and a condition with a value.
abbrev pub IsCondition : Scope → List (List ℕ) → Option Tree → Option Expr → Type 0
IsCondition s columns = OptionZip (λ t e. Means s columns t (term_of e))

abbrev pub IsRule : Scope → List (List ℕ) → Option (Tree × Tree) → Option Rule → Type 0
IsRule s columns =
    OptionZip (λ p r. Means s columns p.0 (term_of r.when) × Means s columns p.1 (term_of r.by))

-- A counter of the text.
pub record IsCounter (s : Scope) (columns : List (List ℕ)) (c : trees.CounterForm)
    (made : Counter) : Type 0 where
  pub width : made.width ≡ width_in c.width.value
  pub clear : IsCondition s columns c.clear made.clear
  pub load : IsRule s columns c.load made.load
  pub add : IsRule s columns c.add made.add
  pub sub : IsRule s columns c.sub made.sub

abbrev pub AreCounters : Scope → List (List ℕ) → List trees.CounterForm → List Counter → Type 0
AreCounters s columns = AllZip (IsCounter s columns)

-- What a property says: its antecedent, that of a plain sequence being 1, and that of |=> the one
-- of |-> (16.12.7), and its consequent.
abbrev pub before_by : Implication → Draft Boolean → Draft Boolean
before_by k d = rewritten_antecedent One k d

-- whether only its first match counts
abbrev pub first_by : PropertyForm → Bool
first_by (plain q) = false
first_by (implication word a i c) = is_led word

abbrev pub ReadsAntecedent : Scope → List (List ℕ) → List Expr → PropertyForm → Draft Boolean
    → Type 0
ReadsAntecedent s columns booleans (plain q) d = d ≡ drafts.boolean One
ReadsAntecedent s columns booleans (implication word a i c) d =
    (r : Draft Boolean) × Reads s columns booleans a r × (d ≡ before_by i r)

abbrev pub ReadsConsequent : Scope → List (List ℕ) → List Expr → PropertyForm → Draft Boolean
    → Type 0
ReadsConsequent s columns booleans (plain q) d = Reads s columns booleans q d
ReadsConsequent s columns booleans (implication word a i c) d = Reads s columns booleans c d

-- What a side says with the names written out, and that an assertion's sequence matches the same,
-- by booleans of the assertion's list: it is what is said, in which parts that weigh nothing may be
-- replaced, with other places for its booleans. In each range the least comes first.
pub record IsMeant (bodies : List (Draft Boolean)) (booleans : List Expr) (places : List ℕ)
    (d : Draft Boolean) (made : Written Boolean) : Type 0 where
  pub meant : Written Boolean
  pub spells : IsWrittenOut bodies d meant
  pub placed : MatchesByPlaces booleans places meant made
  pub listed : AllListed places made
  pub ordered : IsOrdered meant
  pub kept : Written Boolean
  pub trimmed : IsTrimmed One meant kept
  pub form : form_of made ≡ form_of kept

-- The boolean of an assertion's list that an expression is.
abbrev pub IsListedAtom : Scope → List (List ℕ) → List Expr → List ℕ → Tree → Boolean → Type 0
IsListedAtom s columns booleans places t b =
    (a : Boolean) × IsBooleanOf s columns booleans t a × IsPlacedBoolean booleans places a b
    × IsListedOption (length places) (Some b)

abbrev pub IsDisabling : Scope → List (List ℕ) → List Expr → List ℕ → Option Tree → Option Boolean
    → Type 0
IsDisabling s columns booleans places = OptionZip (IsListedAtom s columns booleans places)

-- the place of the disabling expression among the suite's, if there is one
abbrev pub IsDisabledBy : Scope → List (List ℕ) → List Expr → Option Tree → Option ℕ → Type 0
IsDisabledBy s columns booleans = OptionZip (λ t p. IsBooleanOf s columns booleans t (Listed p))

abbrev pub off_places : Option ℕ → List ℕ
off_places None = []
off_places (Some p) = p ∷ []

-- The disabling expression stands at the place among the suite's.
abbrev pub IsDisablingPlace : Scope → List (List ℕ) → List Expr → Option Tree → ℕ → Type 0
IsDisablingPlace s columns booleans None p = ⊥
IsDisablingPlace s columns booleans (Some t) p = IsBooleanOf s columns booleans t (Listed p)

-- A boolean of one of the two sides stands at the place, or the disabling expression does.
abbrev pub IsUsedPlace :
    Scope → List (List ℕ) → List Expr → Option Tree → Written Boolean → Written Boolean → ℕ → Type 0
IsUsedPlace s columns booleans disable v w p =
    IsUsed (Listed p) v ⊎ (IsUsed (Listed p) w ⊎ IsDisablingPlace s columns booleans disable p)

-- An assertion of the text, before which so many stand. Its list has a place for each boolean that
-- is kept of its sides, as often as it is written, and that of the disabling expression.
pub record IsAssertion (s : Scope) (columns : List (List ℕ)) (booleans : List Expr)
    (bodies : List (Draft Boolean)) (before : ℕ) (a : trees.AssertionForm)
    (made : Assertion) : Type 0 where
  pub antecedent : Draft Boolean
  pub consequent : Draft Boolean
  pub name : string_bytes made.name ≡ label_text before a.label
  pub first : made.first ≡ first_by a.property
  pub reads_antecedent : ReadsAntecedent s columns booleans a.property antecedent
  pub reads_consequent : ReadsConsequent s columns booleans a.property consequent
  pub antecedent_meant : IsMeant bodies booleans made.booleans.items antecedent
      (written_form made.antecedent)
  pub consequent_meant : IsMeant bodies booleans made.booleans.items consequent
      (written_form made.consequent)
  pub disabling : IsDisabling s columns booleans made.booleans.items a.disable made.disabling
  pub used :
      (p : ℕ) → IsNumberIn p made.booleans.items →
      IsUsedPlace s columns booleans a.disable antecedent_meant.meant consequent_meant.meant p
  pub off : Option ℕ
  pub disabled : IsDisabledBy s columns booleans a.disable off
  pub list : made.booleans.items
      ≡ sequence_places antecedent_meant.kept
      ++ (sequence_places consequent_meant.kept ++ off_places off)

-- Several, in their order, before which so many stand.
abbrev pub AreAssertions : Scope → List (List ℕ) → List Expr → List (Draft Boolean) → ℕ
    → List trees.AssertionForm → List Assertion → Type 0
AreAssertions s columns booleans bodies before forms made =
    AllZip (λ a m. IsAssertion s columns booleans bodies a.0 a.1 m)
    (enumerate_from before forms) made

-- The suite says what the text says.
pub record IsSuite (s : Scope) (items : List ItemForm) (suite : Suite) : Type 0 where
  pub bodies : List (Draft Boolean)
  pub clock : string_bytes suite.clock ≡ suite_clock (assertions_of items)
  pub signals : AreSignals s (columns_of s items) suite.names.items
  pub counters : AreCounters s (columns_of s items) (counters_of items) suite.counters.items
  pub read : AllRead s (columns_of s items) suite.booleans.items
      (map (λ d. d.body) (declarations_of items)) bodies
  pub assertions : AreAssertions s (columns_of s items) suite.booleans.items bodies 0
      (assertions_of items) suite.assertions.items
