use Rattle.std.proofs.Common.{◌++◌, ◌∷◌, [], List, filter_map, sym, ap, ◌∙◌}
use Rattle.std.proofs.lemmas.List.{append-nil}
use Rattle.signals.specs.declared.verdict.Decided.{Decided}
use Rattle.machine_batches.specs.Lines.{failure_of}
use Rattle.report_lines.specs.declared.line.Failure.{Failure}
use Rattle.workers_core.proofs.StreakLaws.{none-failed, failures-more}
use Rattle.workers_core.proofs.growing_line.push_failures.Goals as goal

pub returns-then-not-is_failure : goal.returns-then-not-is_failure
returns-then-not-is_failure c =
    let old = c.args.fails.now.items in
    let s = c.args.streak.now in
    let none = none-failed s.first.start s.first.verdict 0 s.count
    (sym c.is_failure.ensures ∙ c.if-not-is_failure.true) in
    sym (ap (λ (fs : List Failure). old ++ fs) none ∙ append-nil old)

pub loop-place-preserved : goal.loop-place-preserved
loop-place-preserved c =
    failures-more c.args.streak.now.first c.loop-place.place c.args.fails.now.items
    c.loop-place.fails.items c.push_failure.new.fails.items c.loop-place.invariant
    (c.in_ok-push_failure.ensures
    ∙ ap (λ (d : Decided). c.loop-place.fails.items ++ filter_map failure_of (d ∷ [])) c.at.ensures)
