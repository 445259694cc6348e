use Rattle.std.proofs.Common.{◌≡◌, ◌≤◌, length, vec_capacity}
use Rattle.vcd_reader.specs.Held.{variables_of}
use Rattle.cycle_window.specs.Samples.{Each, AreWide, IsBlank}
use Rattle.cycle_window.specs.Variables.{places}
use Rattle.cycle_window.proofs.samples.blank_samples.Given as goal

abbrev pub invariant-loop-variable : goal.invariant-loop-variable
invariant-loop-variable l = record {
  many : length l.all.items ≡ l.variable-index;
  room : length l.variables ≤ vec_capacity l.all;
  blank : Each (λ i. IsBlank l.ticks) l.all.items;
  wide : AreWide (variables_of l.dump) (places l.variables) l.all.items;
}
