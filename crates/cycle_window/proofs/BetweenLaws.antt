-- The ticks among all of a dump's steps.
use Rattle.std.proofs.Common.{◌≡◌, ◌∙◌, ℕ, List, ap, length}
use Rattle.vcd_reader.specs.Dump.{Contents}
use Rattle.vcd_reader.specs.Held.{HoldsContents, steps_in}
use Rattle.vcd_reader.specs.declared.dump.Dump.{Dump}
use Rattle.cycle_window.specs.Between.{AreTicksBetween}
use Rattle.cycle_window.specs.Ticks.{ticks_below, ticks_of}
use Rattle.cycle_window.proofs.HeldLaws.{held-length}

pub all-between : (d : Dump) (code : ℕ) (ticks : List ℕ)
    → AreTicksBetween d code 0 (length (steps_in d)) ticks
    → (c : Contents) → HoldsContents d c → ticks ≡ ticks_of c code
unfolding ticks_below ticks_of
all-between d code ticks all c h = all c h ∙ ap (ticks_below c.steps code) (held-length d c h)
