use Rattle.std.proofs.Common.{take}
use Rattle.std.specs.Prelude.{flat_map}
use Rattle.report_forms.specs.Grown.{Grows}
use Rattle.report_forms.specs.Provenances.{provenance_of}
use Rattle.report_gtkwave.specs.Saves.{pair_text}
use Rattle.report_gtkwave.proofs.markers.push_pairs.Given as goal

-- the pairs so far
abbrev pub invariant-loop-attempt : goal.invariant-loop-attempt
invariant-loop-attempt l =
    Grows l.fn.out.items l.out.items
    (flat_map (pair_text (provenance_of l.from) l.scale) (take l.attempt-index l.attempts))
