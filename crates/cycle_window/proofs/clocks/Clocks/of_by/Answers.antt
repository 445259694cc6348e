use Rattle.std.proofs.Common.{ℕ, List, sym, ap, subst, length}
use Rattle.vcd_reader.specs.declared.step.Step.{Step}
use Rattle.vcd_reader.specs.Held.{variables_of}
use Rattle.cycle_window.specs.Held.{ticks_in, code_in}
use Rattle.cycle_window.specs.Bound.{IsClock}
use Rattle.cycle_window.specs.Between.{AreTicksBetween}
use Rattle.cycle_window.proofs.BetweenLaws.{all-between}
use Rattle.cycle_window.proofs.clocks.Clocks.of_by.Goals as goal

pub returns-clause-clock : goal.returns-clause-clock
unfolding code_in
returns-clause-clock g c =
    subst (λ (n : ℕ). IsClock (variables_of c.args.dump.now) c.args.clock.now n)
    (sym c.code-code.ensures.number) c.in_ok-variable.ensures.clock

pub returns-clause-ticks : goal.returns-clause-ticks
unfolding ticks_in code_in
returns-clause-ticks g c =
    all-between c.args.dump.now c.code-code.result c.in_ok-ticks.ticks.items
    (subst (λ (n : ℕ). AreTicksBetween c.args.dump.now c.code-code.result 0 n
    c.in_ok-ticks.ticks.items)
    (ap (λ (xs : List Step). length xs) c.steps-end.ensures) c.in_ok-ticks.ensures)
