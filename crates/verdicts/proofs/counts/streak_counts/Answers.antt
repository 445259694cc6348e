use Rattle.std.proofs.Common.{sym, ap, ◌∙◌}
use Rattle.signals.specs.declared.verdict.Verdict.{Verdict}
use Rattle.verdicts.proofs.StreakCounts.{counts_alike, streak-counts}
use Rattle.verdicts.proofs.counts.streak_counts.Goals as goal

pub returns-in-Holds : goal.returns-in-Holds
returns-in-Holds c =
    let s = c.args.streak.now in
    ap (λ (v : Verdict). counts_alike v s.count) (sym c.in-Holds.is) ∙ streak-counts s

pub returns-in-Vacuous : goal.returns-in-Vacuous
returns-in-Vacuous c =
    let s = c.args.streak.now in
    ap (λ (v : Verdict). counts_alike v s.count) (sym c.in-Vacuous.is) ∙ streak-counts s

pub returns-in-Fails : goal.returns-in-Fails
returns-in-Fails c =
    let s = c.args.streak.now in
    ap (λ (v : Verdict). counts_alike v s.count) (sym c.in-Fails.is) ∙ streak-counts s

pub returns-in-Disabled : goal.returns-in-Disabled
returns-in-Disabled c =
    let s = c.args.streak.now in
    ap (λ (v : Verdict). counts_alike v s.count) (sym c.in-Disabled.is) ∙ streak-counts s

pub returns-in-Open : goal.returns-in-Open
returns-in-Open c =
    let s = c.args.streak.now in
    ap (λ (v : Verdict). counts_alike v s.count) (sym c.in-Open.is) ∙ streak-counts s
