-- The verdicts on a suite's assertions.
use Rattle.std.specs.Prelude.{ℕ, List, length}
use Rattle.signals.specs.declared.verdict.Verdict.{Verdict}
use Rattle.expressions.specs.declared.expr.Expr.{Expr}
use Rattle.expressions.specs.Terms.{Samples}
use Rattle.expressions.specs.Tables.{column}
use Rattle.expressions.specs.Counters.{counter_samples}
use Rattle.assertions.specs.declared.assertion.Assertion.{Assertion}
use Rattle.assertions.specs.declared.sequence.Boolean.{Boolean}
use Rattle.assertions.specs.declared.suite.Suite.{Suite}
use Rattle.assertions.specs.Attempts.{Antecedent, IsVerdict}
use Rattle.assertions.specs.Shapes.{shape, value_in, off_in}

-- what an assertion's attempts begin with
abbrev pub antecedent_of : Assertion → Antecedent Boolean
antecedent_of a = record { first = a.first; sequence = shape a.antecedent }

-- The verdict on the attempt of an assertion that begins at a tick, over so many ticks, with its
-- suite's expressions and what they read.
abbrev pub IsVerdictOn : List Expr → Samples → ℕ → Assertion → ℕ → Verdict → Type 0
IsVerdictOn booleans read ticks a =
    IsVerdict
    (value_in booleans a.booleans.items read)
    (off_in booleans a.booleans.items read a.disabling)
    (antecedent_of a)
    (shape a.consequent)
    ticks

-- The same over rows of the suite's signals: what expressions read are these, and what the
-- suite's counters count over them.
abbrev pub IsVerdictOver : Suite → List (List ℕ) → Assertion → ℕ → Verdict → Type 0
IsVerdictOver suite signals =
    IsVerdictOn
    suite.booleans.items
    (counter_samples (column signals) suite.counters.items)
    (length signals)
