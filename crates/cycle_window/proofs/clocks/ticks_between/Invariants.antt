use Rattle.std.proofs.Common.{◌≡◌, ◌≤◌, ◌++◌}
use Rattle.vcd_reader.specs.Dump.{Contents}
use Rattle.vcd_reader.specs.Held.{HoldsContents, steps_in}
use Rattle.cycle_window.specs.Ticks.{ticks_below}
use Rattle.cycle_window.specs.Changes.{changes_to, last_of}
use Rattle.cycle_window.proofs.clocks.ticks_between.Given as goal

abbrev pub invariant-loop-k : goal.invariant-loop-k
invariant-loop-k l = record {
  inside : l.k ≤ l.to;
  last : l.last ≡ last_of l.code (changes_to (steps_in l.dump) l.k);
  ticks : (c : Contents) → HoldsContents l.dump c
      → ticks_below c.steps l.code l.from ++ l.ticks.items ≡ ticks_below c.steps l.code l.k;
}
