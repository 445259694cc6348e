-- The ticks of a clock in a dump, and the rows that are sampled there (IEEE 1800-2017, clause
-- 16.5.1: values as they stood before the time step of the edge).
use Rattle.std.specs.Prelude.{
  ◌≡◌,
  ℕ,
  zero,
  suc,
  ◌<◌,
  ◌↔◌,
  ◌==◌,
  ◌&&◌,
  List,
  [],
  ◌∷◌,
  ◌++◌,
  Bool,
  true,
  length,
  map,
  is_some,
  Contains,
  if◌then◌else◌,
}
use Rattle.std.specs.List.Sorted.{IsStrictlyIncreasing}
use Rattle.vcd_reader.specs.Values.{Moment, last_digits, changes_before, value_at}
use Rattle.vcd_reader.specs.Variables.{code_number, size_of}
use Rattle.vcd_reader.specs.Dump.{Contents}

-- The step k is a tick of the clock with that code: a rising edge.
pub record IsTick (steps : List Moment) (code k : ℕ) : Type 0 where
  -- it is a step
  pub inside : k < length steps
  -- an earlier step has a change of the clock
  pub known : is_some (last_digits code (changes_before steps k)) ≡ true
  -- before it the clock is 0
  pub low : value_at steps code 1 k ≡ 0
  -- at its end the clock is 1
  pub high : value_at steps code 1 (suc k) ≡ 1

unfoldable pub is_tick : List Moment → ℕ → ℕ → Bool
is_tick steps code k =
    is_some (last_digits code (changes_before steps k)) && (value_at steps code 1 k == 0)
    && (value_at steps code 1 (suc k) == 1)

-- the ticks among the first n steps
unfoldable pub ticks_below : List Moment → ℕ → ℕ → List ℕ
ticks_below steps code zero = []
ticks_below steps code (suc n) =
    if is_tick steps code n then ticks_below steps code n ++ n ∷ [] else ticks_below steps code n

-- the steps that are ticks of the clock with that code, in order
unfoldable pub ticks_of : Contents → ℕ → List ℕ
ticks_of c code = ticks_below c.steps code (length c.steps)

-- they are the ticks, and in rising order
pub record AreTicks (c : Contents) (code : ℕ) : Type 0 where
  pub each : (k : ℕ) → Contains (ticks_of c code) k ↔ IsTick c.steps code k
  pub rise : IsStrictlyIncreasing (ticks_of c code)

-- the value of the variable at the place v before the step k
abbrev pub sample : Contents → ℕ → ℕ → ℕ
sample c k v = value_at c.steps (code_number c.variables v) (size_of c.variables v) k

-- the row that is sampled at the step k: the value of each variable, given by its place, before
-- that step
unfoldable pub row_of : Contents → List ℕ → ℕ → List ℕ
row_of c variables k = map (sample c k) variables
