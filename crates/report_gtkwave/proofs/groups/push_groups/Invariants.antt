use Rattle.std.proofs.Common.{◌≡◌, ◌++◌, drop, map}
use Rattle.report_forms.specs.Provenances.{provenance_of}
use Rattle.report_gtkwave.specs.Views.{wave_data}
use Rattle.report_gtkwave.specs.Saves.{groups_text}
use Rattle.report_gtkwave.proofs.groups.push_groups.Given as goal

-- those that are left are still to be written
abbrev pub invariant-loop-place : goal.invariant-loop-place
invariant-loop-place l =
    l.fn.out.items ++ groups_text (provenance_of l.from) (map wave_data l.waves) 0 l.attempts
    ≡ l.out.items
    ++ groups_text (provenance_of l.from) (map wave_data l.waves) l.place (drop l.place l.attempts)
