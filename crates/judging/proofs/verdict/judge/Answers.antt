use Rattle.std.proofs.Common.{◌≡◌, ◌∙◌, ◌+◌, ℕ, Bool, List, length, ap, subst}
use Rattle.std.specs.Prelude.{Option}
use Rattle.signals.specs.declared.verdict.Verdict.{Verdict}
use Rattle.assertions.specs.declared.sequence.Boolean.{Boolean}
use Rattle.assertions.specs.declared.decision.Decision.{Decision}
use Rattle.assertions.specs.Quantifiers.{first_in}
use Rattle.assertions.specs.Segments.{Seq}
use Rattle.assertions.specs.Attempts.{Antecedent, verdict, verdict_by, decision}
use Rattle.assertions.specs.Shapes.{value_in, off_in}
use Rattle.assertions.proofs.Verdicts.{IsVerdict-at}
use Rattle.assertions.proofs.AgreeLaws.{verdict_over}
use Rattle.expressions.specs.declared.expr.Expr.{Expr}
use Rattle.expressions.specs.Terms.{Samples}
use Rattle.judging.specs.Tables.{off_at, seen_end, HasSeen}
use Rattle.judging.proofs.DecisionLaws.{verdict_seen}
use Rattle.judging.proofs.verdict.judge.Goals as goal

-- from the course of an attempt that goes as far as the rows
verdict_found : (all : List Expr) (places : List ℕ) (t : Samples) (d : Option Boolean) (r : Antecedent Boolean)
    (s : Seq Boolean)
    (rows end c : ℕ) (values : List (List Bool)) (found : Option (ℕ × Decision)) (v : Verdict) → end ≡ rows
    → HasSeen (value_in all places t) c values → c + length values ≡ seen_end end found
    → found ≡ first_in (c + 1) (end + 1) (λ n. decision (value_in all places t) r s n c)
    → v ≡ verdict_by (off_at values d c) c end found → v ≡ verdict (value_in all places t) (off_in all places t d)
    r s rows c
verdict_found all places t d r s rows end c values found v len seen long is at =
    subst (λ k. v ≡ verdict (value_in all places t) (off_in all places t d) r s k c) len
    (at ∙ verdict_seen all places t c end values d found seen long ∙ ap (verdict_by (off_in all places t d) c end) is)

pub returns : goal.returns
returns c =
    let ensured = c.in_ok-course.ensures in
    verdict_over c.args.suite.now c.args.rows.now c.args.assertion.now c.args.tick _ c.requires.counted
    (IsVerdict-at Boolean _ _ _ _ _ _ _
    (verdict_found _ _ _ _ _ _ _ _ _ _ _ _ c.len-end.ensures.len ensured.seen ensured.long ensured.found
    c.verdict_from.ensures))
