use Rattle.std.proofs.Common.{ℕ, sym, subst}
use Rattle.std.proofs.lemmas.Option.{MatchOption-at_none, MatchOption-at_some}
use Rattle.assertions.specs.Attempts.{Fails}
use Rattle.assertions.specs.Shapes.{shape}
use Rattle.assertions.specs.Verdicts.{antecedent_of}
use Rattle.judging.specs.Causes.{IsCause}
use Rattle.judging.specs.Courses.{value_over}
use Rattle.report_explained.proofs.explanation.reason_of.Goals as goal

pub unreachable-requires : goal.unreachable-requires
unreachable-requires c =
    let a = c.args.assertion.now in
    let start = c.args.failure.now.start in
    let value = value_over c.args.judged.now.suite.now c.args.judged.now.rows.now a in
    let end = c.end_of-end.result in
    MatchOption-at_none (Fails value (antecedent_of a) (shape a.consequent) end start → ⊥)
    (IsCause value (antecedent_of a) (shape a.consequent) end start) c.in-None.is (c.in_ok-cause_of.ensures)
    (subst (λ (n : ℕ). Fails value (antecedent_of a) (shape a.consequent) n start) (sym c.end_of-end.ensures)
    c.requires.fails)

pub reason_with-requires-clause-cause : goal.reason_with-requires-clause-cause
reason_with-requires-clause-cause c =
    let a = c.args.assertion.now in
    let start = c.args.failure.now.start in
    let value = value_over c.args.judged.now.suite.now c.args.judged.now.rows.now a in
    let end = c.end_of-end.result in
    subst (λ (n : ℕ). IsCause value (antecedent_of a) (shape a.consequent) n start c.in-Some.cause)
    c.end_of-end.ensures
    (MatchOption-at_some (Fails value (antecedent_of a) (shape a.consequent) end start → ⊥)
    (IsCause value (antecedent_of a) (shape a.consequent) end start) c.in-Some.cause c.in-Some.is
    c.in_ok-cause_of.ensures)
