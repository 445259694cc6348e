use Rattle.std.proofs.Common.{take, map}
use Rattle.std.specs.Prelude.{flat_map}
use Rattle.report_forms.specs.Grown.{Grows}
use Rattle.report_gtkwave.specs.Views.{wave_data}
use Rattle.report_gtkwave.specs.Saves.{row_text}
use Rattle.report_gtkwave.proofs.groups.push_rows.Given as goal

-- the rows so far
abbrev pub invariant-loop-row : goal.invariant-loop-row
invariant-loop-row l =
    Grows l.fn.out.items l.out.items (flat_map (row_text (map wave_data l.waves)) (take l.row-index l.rows))
