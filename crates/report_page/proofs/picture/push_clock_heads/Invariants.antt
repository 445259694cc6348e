use Rattle.std.proofs.Common.{take, string_bytes}
use Rattle.std.specs.List.{flat_map}
use Rattle.report_forms.specs.Provenances.{provenance_of}
use Rattle.report_page.specs.Pictures.{Draws, clock_labels}
use Rattle.report_page.proofs.picture.push_clock_heads.Given as goal

-- the heads so far
abbrev pub invariant-loop-place : goal.invariant-loop-place
invariant-loop-place l =
    Draws (string_bytes l.fn.text) (string_bytes l.text)
    (flat_map (clock_labels (provenance_of l.from)) (take l.place l.clocks))
