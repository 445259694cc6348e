-- The ticks of a clock among some of a dump's steps.
use Rattle.std.specs.Prelude.{◌≡◌, ◌++◌, ℕ, List}
use Rattle.vcd_reader.specs.Dump.{Contents}
use Rattle.vcd_reader.specs.Held.{HoldsContents}
use Rattle.vcd_reader.specs.declared.dump.Dump.{Dump}
use Rattle.cycle_window.specs.Ticks.{ticks_below}

-- After the ticks before the step `from` they are those before the step `to`.
abbrev pub AreTicksBetween : Dump → ℕ → ℕ → ℕ → List ℕ → Type 0
AreTicksBetween d code from to ticks =
    (c : Contents) → HoldsContents d c
    → ticks_below c.steps code from ++ ticks ≡ ticks_below c.steps code to
