use Rattle.std.proofs.Common.{◌≡◌, length}
use Rattle.vcd_declarations.specs.Views.{left_in}
use Rattle.vcd_declarations.proofs.header.Header.next.Given as goal

abbrev pub invariant-sections : goal.invariant-sections
invariant-sections l = left_in l.initial.self ≡ left_in l.self

abbrev pub decreases-sections : goal.decreases-sections
decreases-sections l = length l.self.rest.now
