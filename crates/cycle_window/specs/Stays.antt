-- How long values stay the same, row after row (IEEE 1800-2017, 16.5.1: a row has the values that
-- are sampled at a tick).
use Rattle.std.specs.Prelude.{◌≡◌, ◌≢◌, ℕ, ◌+◌, ◌<◌, ◌≤◌, List, length, get_or, slice_index}
use Rattle.vcd_reader.specs.Dump.{Contents}
use Rattle.cycle_window.specs.Ticks.{ticks_of, row_of}

-- In values one after the other: the value at a place is that at so many places after it, too, and
-- at the place after those it is another, if there is such a place.
pub record StaysFor (values : List ℕ) (place count : ℕ) : Type 0 where
  pub inside : place + count < length values
  pub same : (n : ℕ) → n ≤ count → get_or values (place + n) 0 ≡ get_or values place 0
  pub ends : place + (count + 1) < length values
      → get_or values (place + (count + 1)) 0 ≢ get_or values place 0

-- each value stays for as many places as are noted at its own
abbrev pub AreStays : List ℕ → List ℕ → Type 0
AreStays values stays = (i : ℕ) → i < length values → StaysFor values i (get_or stays i 0)

-- At so many ticks of the clock with that code after a tick, the row of the variables with these
-- places is that at the tick.
abbrev pub RowStays : Contents → ℕ → List ℕ → ℕ → ℕ → Type 0
RowStays c code places tick ticks =
    (n : ℕ) → n ≤ ticks
    → row_of c places (slice_index (ticks_of c code) (tick + n))
    ≡ row_of c places (slice_index (ticks_of c code) tick)
