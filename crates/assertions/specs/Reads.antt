-- What is read where some names are, and what counters read is read too.
use Rattle.std.specs.Prelude.{◌≡◌, ◌↔◌, ℕ, Bool, true, false, not, List, [], Option, Some, None}
use Rattle.std.specs.Prelude.{slice_get}
use Rattle.std.specs.Prelude.{slice_index_or, Contains}
use Rattle.std.specs.List.{flat_map}
use Rattle.expressions.specs.declared.name.Origin.{Origin}
use Rattle.expressions.specs.declared.name.Origin.TheVariants.{Signal, Counter as FromCounter}
use Rattle.expressions.specs.declared.name.Name.{Name}
use Rattle.expressions.specs.declared.counter.Counter.{Counter}
use Rattle.assertions.specs.declared.assertion.Assertion.{Assertion}
use Rattle.assertions.specs.declared.suite.Suite.{Suite}
use Rattle.assertions.specs.Names.{expression_names, counter_names}

-- the names of the clauses of a counter, if there is one
abbrev pub names_of : Option Counter → List Name
names_of None = []
names_of (Some c) = counter_names c

-- Read are these names at once, and the names of a counter that is read.
pub data IsRead (first : List Name) (counters : List Counter) : Name → Type 0 where
  at_once : {name : Name} → Contains first name → IsRead first counters name
  through : {counter name : Name} → IsRead first counters counter → counter.origin ≡ FromCounter →
      Contains (names_of (slice_get counters counter.place)) name → IsRead first counters name

-- the names of an assertion's booleans, by the places of their expressions in the suite
abbrev pub boolean_names : Suite → Assertion → List Name
boolean_names suite a =
    flat_map (λ place. expression_names (slice_get suite.booleans.items place)) a.booleans.items

-- Exactly the names that an assertion of the suite reads.
abbrev pub AreRead : Suite → Assertion → List Name → Type 0
AreRead suite a names =
    (name : Name) →
    Contains names name ↔ IsRead (boolean_names suite a) suite.counters.items name

-- The assertion reads what the suite has at this place: a signal or a counter, by the origin.
pub record Reads (suite : Suite) (a : Assertion) (origin : Origin) (place : ℕ) : Type 0 where
  pub name : Name
  pub read : IsRead (boolean_names suite a) suite.counters.items name
  pub origin_is : name.origin ≡ origin
  pub place_is : name.place ≡ place

-- a counter of which the clauses are still to be looked at
abbrev pub is_waiting : List Bool → Origin → ℕ → Bool
is_waiting done Signal place = false
is_waiting done FromCounter place = not (slice_index_or done place true)

abbrev pub waits : List Bool → Name → Bool
waits done name = is_waiting done name.origin name.place
