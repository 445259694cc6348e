use Rattle.std.proofs.Common.{◌≡◌, ◌++◌, drop, map}
use Rattle.std.specs.Prelude.{filter, string_bytes}
use Rattle.vcd_reader.specs.Held.{variables_of, steps_in}
use Rattle.lint_notes.specs.Told.{late_paths}
use Rattle.lint_notes.specs.Late.{is_late}
use Rattle.lint_notes.proofs.late.late_signals.Given as goal

-- the late ones of the signals that are left still come
abbrev pub invariant-loop-signal : goal.invariant-loop-signal
invariant-loop-signal l =
    late_paths l.late.items
    ++ filter (is_late (variables_of l.dump) (steps_in l.dump))
    (map (λ s. string_bytes s.path) (drop l.signal-index l.signals))
    ≡ filter (is_late (variables_of l.dump) (steps_in l.dump))
    (map (λ s. string_bytes s.path) l.signals)
