use Rattle.std.proofs.Common.{ℕ, ◌∙◌, ap, length, sym, subst}
use Rattle.workers_core.specs.Values.{JobValue}
use Rattle.workers_core.specs.Rounds.{HasTrace, HasDone}
use Rattle.workers_core.proofs.TurnLaws as turns
use Rattle.workers_core.proofs.core_rounds.run_round.Goals as goal

pub returns-clause-rests : goal.returns-clause-rests
returns-clause-rests c =
    let v = c.run_monitors.new.core in
    let job = c.run_monitors.ensures.job ∙ c.open_round.ensures.job in
    let all = c.requires.count ∙ sym (ap (λ (j : JobValue). length j.programs) job) in
    let done = subst (λ (n : ℕ). HasDone n v) all c.in_ok-run_monitors.ensures.over in
    turns.on-ok c.take.result (turns.rests-again v c.take.new.core done c.take.ensures.job)
    c.take.ensures.led

pub returns-clause-further : goal.returns-clause-further
returns-clause-further c =
    let first = c.open_round.new.core in
    let v = c.run_monitors.new.core in
    let job = c.run_monitors.ensures.job ∙ c.open_round.ensures.job in
    let all = c.requires.count ∙ sym (ap (λ (j : JobValue). length j.programs) job) in
    let done = subst (λ (n : ℕ). HasDone n v) all c.in_ok-run_monitors.ensures.over in
    let trace = subst HasTrace (sym c.open_round.ensures.job) c.requires.trace in
    turns.on-ok c.take.result
    (turns.further v c.take.new.core done c.take.ensures.job c.args.core.now first trace
    c.run_monitors.ensures.job c.in_ok-clocks.ensures.further
    c.in_ok-run_monitors.ensures.window)
    c.take.ensures.led
