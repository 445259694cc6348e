-- The rows that a window holds.
use Rattle.std.specs.Prelude.{◌≡◌, ℕ, ◌<◌, ◌≤◌, List, length, get_or, slice_range}
use Rattle.vcd_reader.specs.declared.dump.Dump.{Dump}
use Rattle.vcd_reader.specs.Dump.{Contents}
use Rattle.vcd_reader.specs.Held.{HoldsContents}
use Rattle.cycle_window.specs.Ticks.{ticks_of, row_of}
use Rattle.cycle_window.specs.declared.samples.Samples.{Samples}
use Rattle.cycle_window.specs.Samples.{Each, column_of}
use Rattle.cycle_window.specs.Values.{numbers}

-- The samples are those of the variables with these places at the ticks of the clock with that
-- code, from the tick `first` up to the tick `end`, which is not among them.
abbrev pub AreSamplesOf : Dump → ℕ → List ℕ → ℕ → ℕ → List Samples → Type 0
AreSamplesOf d code places first end all =
    (c : Contents) → HoldsContents d c
    → Each (λ i s. numbers s.values
    ≡ column_of (row_of c places) i (slice_range (ticks_of c code) first end)) all

-- no tick from the tick `end` on lies before the step `at`
abbrev pub IsBefore : Dump → ℕ → ℕ → ℕ → Type 0
IsBefore d code at end =
    (c : Contents) (n : ℕ) → HoldsContents d c → end ≤ n → n < length (ticks_of c code)
    → at ≤ get_or (ticks_of c code) n 0

-- steps from `at` on, none after `end`, that don't go back
pub record AreAhead (at end : ℕ) (steps : List ℕ) : Type 0 where
  pub low : (n : ℕ) → n < length steps → at ≤ get_or steps n 0
  pub high : (n : ℕ) → n < length steps → get_or steps n 0 ≤ end
  pub order : (i n : ℕ) → i ≤ n → n < length steps → get_or steps i 0 ≤ get_or steps n 0
