use Rattle.std.proofs.Common.{◌≡◌, ℕ, ◌<◌, length, map, take, drop, get_or, Some}
use Rattle.vcd_reader.specs.declared.variable.VarId.{VarId}
use Rattle.vcd_reader.specs.Held.{variables_of, IsOf}
use Rattle.cycle_window.specs.Bound.{first_refused, places_of}
use Rattle.cycle_window.specs.Signals.{wanted_of}
use Rattle.cycle_window.proofs.rows.signal_variables.Given as goal

abbrev pub invariant-loop-signal : goal.invariant-loop-signal
invariant-loop-signal l = record {
  places : map (λ v. Some v.place) l.variables.items
      ≡ places_of (variables_of l.dump) (map wanted_of (take l.signal-index l.signals));
  bindable : (i : ℕ) (d : VarId) → i < length l.variables.items
      → IsOf l.dump (get_or l.variables.items i d);
  fits : first_refused (variables_of l.dump) (map wanted_of l.signals)
      ≡ first_refused (variables_of l.dump) (map wanted_of (drop l.signal-index l.signals));
}
