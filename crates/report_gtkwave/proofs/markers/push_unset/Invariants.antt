use Rattle.std.proofs.Common.{◌≡◌, ◌++◌}
use Rattle.report_gtkwave.specs.Saves.{unset_text}
use Rattle.report_gtkwave.proofs.markers.push_unset.Given as goal

-- those that are left are still to be written
abbrev pub invariant-loop-left : goal.invariant-loop-left
invariant-loop-left l = l.fn.out.items ++ unset_text l.count ≡ l.out.items ++ unset_text l.left

abbrev pub decreases-loop-left : goal.decreases-loop-left
decreases-loop-left l = l.left
