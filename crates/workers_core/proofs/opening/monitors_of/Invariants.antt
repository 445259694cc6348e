use Rattle.std.proofs.Common.{◌≡◌, ℕ, Some, map, take}
use Rattle.std.specs.Prelude.{slice_get}
use Rattle.workers_core.specs.declared.monitor.Monitor.{Monitor}
use Rattle.workers_core.specs.Standing.{monitor_state}
use Rattle.workers_core.specs.Opening.{IsNew, monitor_part, parts_from, opened_monitor}
use Rattle.workers_core.proofs.OpeningLaws.{signals_in}
use Rattle.workers_core.proofs.opening.monitors_of.Given as goal

-- the monitors of the programs so far
abbrev pub invariant-loop-verified : goal.invariant-loop-verified
invariant-loop-verified l = record {
  opened : map monitor_state l.monitors.items
      ≡ map opened_monitor (take l.verified-index l.programs);
  parts : map monitor_part l.monitors.items ≡ parts_from 0 (take l.verified-index l.programs);
  from : l.from ≡ signals_in (take l.verified-index l.programs);
  new : (i : ℕ) (m : Monitor) → slice_get l.monitors.items i ≡ Some m → IsNew m;
}
