-- Rows at the ticks of a clock, step by step, from what stands before the first of the steps (own).
use Rattle.std.specs.Prelude.{ℕ, ◌==◌, ◌&&◌, List, [], ◌∷◌, Bool, Option, None, map, is_some}
use Rattle.std.specs.Prelude.{if◌then◌else◌}
use Rattle.vcd_reader.specs.Values.{Moment, or_else, last_digits, value_or_zero}
use Rattle.vcd_reader.specs.Variables.{Declared, code_number, size_of}

-- the digits of the last change of each code, as far as it has one
abbrev pub Standing : Type 0
Standing = ℕ → Option (List ℕ)

-- before the first step of a dump
abbrev pub none_stands : Standing
none_stands code = None

-- behind a step
abbrev pub behind_step : Standing → Moment → Standing
behind_step before m code = or_else (last_digits code m.changes) (before code)

-- behind some steps
unfoldable pub behind : Standing → List Moment → Standing
behind before [] = before
behind before (m ∷ ms) = behind (behind_step before m) ms

-- a rising edge of a clock, from its last digits before the step and those behind it
abbrev pub rises : Option (List ℕ) → Option (List ℕ) → Bool
rises before after =
    is_some before && (value_or_zero 1 before == 0) && (value_or_zero 1 after == 1)

-- whether the step is a tick of the clock with that code
abbrev pub is_tick_behind : Standing → ℕ → Moment → Bool
is_tick_behind before code m = rises (before code) (behind_step before m code)

-- the row of variables, given by their places, before a step
abbrev pub row_behind : List Declared → Standing → List ℕ → List ℕ
row_behind vs before places =
    map (λ v. value_or_zero (size_of vs v) (before (code_number vs v))) places

abbrev pub front_if : Bool → List ℕ → List (List ℕ) → List (List ℕ)
front_if tick row rows = if tick then row ∷ rows else rows

-- the rows at the ticks among the steps
unfoldable pub rows_from : List Declared → ℕ → List ℕ → Standing → List Moment → List (List ℕ)
rows_from vs code places before [] = []
rows_from vs code places before (m ∷ ms) =
    front_if (is_tick_behind before code m) (row_behind vs before places)
    (rows_from vs code places (behind_step before m) ms)
