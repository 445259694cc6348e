-- Tables of marks, with a row for each start: which places a sequence reaches from it. Place k is
-- the tick that lies k after the attempt's first.
use Rattle.std.specs.Prelude.{◌≡◌, ℕ, ◌+◌, ◌<◌, ◌&&◌, ◌||◌, ◌-◌, List, [], Bool, true, false}
use Rattle.std.specs.Prelude.{Option, Some, None, IsTrue, nat_le, length, slice_index_or}
use Rattle.assertions.specs.declared.sequence.Boolean.{Boolean}
use Rattle.assertions.specs.declared.sequence.Boolean.TheVariants.{One, Listed}
use Rattle.assertions.specs.declared.decision.Decision.{Decision}
use Rattle.assertions.specs.Quantifiers.{some_in}
use Rattle.assertions.specs.Segments.{sat}

-- whether a row has a place
abbrev pub marks : List Bool → ℕ → Bool
marks row k = slice_index_or row k false

-- the row of a start, empty where there is none
abbrev pub row_at : List (List Bool) → ℕ → List Bool
row_at rows i = slice_index_or rows i []

-- whether a table has the place j in the row of i
abbrev pub has_link : List (List Bool) → ℕ → ℕ → Bool
has_link rows i j = marks (row_at rows i) j

-- For each marked start the table has the places that pass. Nothing is said of the rows of other
-- starts.
pub record IsRelation (test : ℕ → ℕ → Bool) (starts : List Bool)
    (rows : List (List Bool)) : Type 0 where
  pub each : (i j : ℕ) → IsTrue (marks starts i) → j < length starts → has_link rows i j ≡ test i j

-- A row of so many places has those that pass.
pub record IsRow (test : ℕ → Bool) (count : ℕ) (row : List Bool) : Type 0 where
  pub long : length row ≡ count
  pub each : (j : ℕ) → j < count → marks row j ≡ test j

-- what the second table reaches from the places of the first, so many ticks further on at least
abbrev pub reached_from : List (List Bool) → List (List Bool) → ℕ → ℕ → ℕ → Bool
reached_from front rest gap i j =
    some_in 0 (length (row_at front i))
    (λ m. marks (row_at front i) m && (nat_le (m + gap) j && has_link rest m j))

-- What passes from a place of the one table, or after a place of the other.
abbrev pub passes_behind : List (List Bool) → List (List Bool) → (ℕ → ℕ → Bool) → ℕ → ℕ → Bool
passes_behind moved shared test i j =
    some_in 0 (j + 1) (λ m. has_link moved i m && test m j)
    || some_in 0 j (λ m. has_link shared i m && test m j)

-- a boolean's value at a place, where row k of the values is of place k
abbrev pub seen_value : List (List Bool) → Boolean → ℕ → Bool
seen_value values One k = true
seen_value values (Listed i) k = has_link values k i

-- whether a boolean counts as true at a place, of which so many as there are rows were seen
abbrev pub held_at : List (List Bool) → Boolean → ℕ → Bool
held_at values = sat (seen_value values) (length values)

-- The rows are what the booleans are from the first tick on.
pub record HasSeen (value : Boolean → ℕ → Bool) (first : ℕ)
    (values : List (List Bool)) : Type 0 where
  pub each : (b : Boolean) (k : ℕ) → k < length values → seen_value values b k ≡ value b (first + k)

-- at which ticks the disabling boolean was seen to be true, if there is one
abbrev pub off_at : List (List Bool) → Option Boolean → ℕ → ℕ → Bool
off_at values None first k = false
off_at values (Some b) first k = seen_value values b (k - first)

-- the end of what an attempt sees: the ticks below the number by which it is decided, or all
abbrev pub seen_end : ℕ → Option (ℕ × Decision) → ℕ
seen_end end None = end
seen_end end (Some (n, d)) = n
