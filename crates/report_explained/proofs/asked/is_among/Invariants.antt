use Rattle.std.proofs.Common.{◌≡◌, drop}
use Rattle.std.specs.List.{list_any}
use Rattle.report_explained.specs.Asked.{has_clock}
use Rattle.report_explained.proofs.asked.is_among.Given as goal

-- those that are left decide
abbrev pub invariant-loop-place : goal.invariant-loop-place
invariant-loop-place l =
    list_any (has_clock l.listed l.clock) l.places
    ≡ list_any (has_clock l.listed l.clock) (drop l.place-index l.places)
