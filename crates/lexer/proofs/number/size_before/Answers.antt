use Rattle.std.proofs.Common.{sym, arith}
use Rattle.std.proofs.lemmas.Bool.{eqb-true, eqb-false}
use Rattle.lexer.proofs.NumberLaws.{size_before-empty, size_before-bad, size_before-out, size_before-in}
use Rattle.lexer.proofs.number.size_before.Goals as goal
use Rattle.lexer.proofs.number.size_before.Goals.{then-size-lt1-via-then-size-lt1}
use Rattle.lexer.proofs.number.size_before.Goals.{then-size-lt1-via-else-size-lt1+then-size-gt128}

pub returns-then-is_empty-clause-value : goal.returns-then-is_empty-clause-value
returns-then-is_empty-clause-value c = sym (size_before-empty _ (eqb-true _ _ (sym c.if-is_empty.ensures)))

pub returns-in_default-clause-value : goal.returns-in_default-clause-value
returns-in_default-clause-value c =
    sym (size_before-bad _ (eqb-false _ _ (sym c.if-is_empty.ensures)) c.in_default.ensures)

pub returns-then-size-lt1-clause-value : goal.returns-then-size-lt1-clause-value
returns-then-size-lt1-clause-value c =
    sym (size_before-out _ _ (eqb-false _ _ (sym c.if-is_empty.ensures)) c.in-Some.ensures
    (λ low high. elim c.then-size-lt1.branch [
      | then-size-lt1-via-then-size-lt1 w ↦ absurd (omega arith)
      | then-size-lt1-via-else-size-lt1+then-size-gt128 w ↦ absurd (omega arith)
    ]))

pub returns-clause-value : goal.returns-clause-value
returns-clause-value c =
    sym (size_before-in _ _ (eqb-false _ _ (sym c.if-is_empty.ensures)) c.in-Some.ensures c.if-size-lt1.false
    c.if-size-gt128.false)
