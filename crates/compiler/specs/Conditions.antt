-- What an assertion keeps to that is of a suite which the type checker made of a text.
use Rattle.std.specs.Prelude.{◌≡◌, ℕ, ◌≤◌, true, IsTrue, Some, length, slice_get}
use Rattle.std.specs.Prelude.{string_bytes}
use Rattle.std.specs.List.{AllByRecursion}
use Rattle.expressions.specs.declared.name.Origin.{Origin}
use Rattle.expressions.specs.declared.name.Origin.TheVariants.{Signal, Counter}
use Rattle.expressions.specs.declared.name.Name.{Name}
use Rattle.expressions.specs.declared.expr.Expr.{Expr}
use Rattle.expressions.specs.declared.counter.Counter as counters
use Rattle.expressions.specs.Terms.{Term, width_of}
use Rattle.expressions.specs.Expressions.{term_of}
use Rattle.assertions.specs.declared.signal.Signal as signals
use Rattle.assertions.specs.declared.assertion.Assertion.{Assertion}
use Rattle.assertions.specs.declared.suite.Suite.{Suite}
use Rattle.assertions.specs.Segments.{AdmitsEmpty}
use Rattle.assertions.specs.Listed.{EachBoolean, IsListed, IsListedOption}
use Rattle.assertions.specs.Shapes.{written_form, shape}
use Rattle.bytecode_programs.specs.Texts.{is_word, is_path}
use Rattle.compiler.specs.Laws.{EachPart, OfName}
use Rattle.compiler.specs.Samples.{counter_terms}
use Rattle.compiler.specs.Depths.{depth, IsShortPast}

-- What the suite has at a place has so many bits.
pub record IsSignalAt (suite : Suite) (place width : ℕ) : Type 0 where
  pub signal : signals.Signal
  pub found : slice_get suite.names.items place ≡ Some signal
  pub wide : signal.width ≡ width

pub record IsCounterAt (suite : Suite) (place width : ℕ) : Type 0 where
  pub counter : counters.Counter
  pub found : slice_get suite.counters.items place ≡ Some counter
  pub wide : counter.width ≡ width

-- A name is a signal or a counter of the suite.
abbrev pub IsOriginIn : Suite → Origin → ℕ → ℕ → Type 0
IsOriginIn suite Signal place width = IsSignalAt suite place width
IsOriginIn suite Counter place width = IsCounterAt suite place width

abbrev pub IsSuiteName : Suite → Name → Type 0
IsSuiteName suite name = IsOriginIn suite name.origin name.place name.width

-- An expression that a text of the suite may have: each name is one of the suite's, no part has
-- over 128 bits, no $past looks back over 64 ticks, and at most 64 brackets are open at once.
pub record IsKnownTerm (suite : Suite) (e : Term) : Type 0 where
  pub names : EachPart (OfName (IsSuiteName suite)) e
  pub narrow : EachPart (λ part. width_of part ≤ 128) e
  pub near : EachPart IsShortPast e
  pub shallow : depth e ≤ 64

-- Its counters count by such expressions.
abbrev pub CountsByKnown : Suite → counters.Counter → Type 0
CountsByKnown suite c = AllByRecursion (IsKnownTerm suite) (counter_terms c)

-- What the suite's assertions share: the clock and the signals have paths, and the counters count
-- by known expressions.
pub record IsSoundSuite (suite : Suite) : Type 0 where
  pub clock : IsTrue (is_path (string_bytes suite.clock))
  pub signals : AllByRecursion (λ s. IsTrue (is_path (string_bytes s.path))) suite.names.items
  pub counters : AllByRecursion (CountsByKnown suite) suite.counters.items

-- a known expression at a place of the suite's
pub record IsKnownAt (suite : Suite) (place : ℕ) : Type 0 where
  pub expression : Expr
  pub found : slice_get suite.booleans.items place ≡ Some expression
  pub known : IsKnownTerm suite (term_of expression)

-- An assertion's list has places of known expressions, and all its booleans are in the list.
pub record ListsItsBooleans (suite : Suite) (a : Assertion) : Type 0 where
  pub booleans : AllByRecursion (IsKnownAt suite) a.booleans.items
  pub antecedent :
      EachBoolean (IsListed (length a.booleans.items)) (written_form a.antecedent)
  pub consequent :
      EachBoolean (IsListed (length a.booleans.items)) (written_form a.consequent)
  pub disabling : IsListedOption (length a.booleans.items) a.disabling

-- Its name is a word, and its consequent takes at least a tick; so does its antecedent, where the
-- first match alone counts.
pub record IsProper (a : Assertion) : Type 0 where
  pub name : IsTrue (is_word (string_bytes a.name))
  pub filled : AdmitsEmpty (shape a.consequent) → ⊥
  pub led : a.first ≡ true → AdmitsEmpty (shape a.antecedent) → ⊥

-- The assertion is of the suite.
pub record FitsSuite (suite : Suite) (a : Assertion) : Type 0 where
  pub sound : IsSoundSuite suite
  pub placed : ListsItsBooleans suite a
  pub proper : IsProper a
