use Rattle.std.specs.List.{All}
use Rattle.vcd_reader.specs.Held.{variables_of}
use Rattle.lint_refusals.specs.Beside.{HasFaultAt}
use Rattle.lint_refusals.proofs.beside.others_of.Given as goal

-- those so far
abbrev pub invariant-loop-one : goal.invariant-loop-one
invariant-loop-one l = All (λ r. HasFaultAt (variables_of l.front.meant.dump.now) l.text r.at) l.all.items
