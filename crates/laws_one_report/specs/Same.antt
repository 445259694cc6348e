-- Two suites that say the same, though their expressions may be other trees, and stand at other
-- places.
use Rattle.std.specs.Prelude.{◌≡◌, ◌↔◌, ℕ, List, map, string_bytes}
use Rattle.std.specs.List.{AllZip}
use Rattle.signals.specs.declared.verdict.Verdict.{Verdict}
use Rattle.expressions.specs.declared.expr.Expr.{Expr}
use Rattle.expressions.specs.Terms.{Samples}
use Rattle.expressions.specs.Counters.{counter_at}
use Rattle.assertions.specs.declared.assertion.Assertion.{Assertion}
use Rattle.assertions.specs.declared.suite.Suite.{Suite}
use Rattle.assertions.specs.Verdicts.{IsVerdictOn}

-- Two assertions, each with its suite's expressions, have one name, and whatever is read one
-- verdict on each attempt.
pub record AreAlike (booleans others : List Expr) (a b : Assertion) : Type 0 where
  pub name : string_bytes a.name ≡ string_bytes b.name
  pub verdicts : (read : Samples) (ticks clock : ℕ) (verdict : Verdict)
      → IsVerdictOn booleans read ticks a clock verdict
      ↔ IsVerdictOn others read ticks b clock verdict

-- Two suites have one clock and the same signals, over any rows of these the same counts, and in
-- one order assertions that are alike.
pub record SaySame (one other : Suite) : Type 0 where
  pub clock : string_bytes one.clock ≡ string_bytes other.clock
  pub paths : map (λ s. string_bytes s.path) one.names.items
      ≡ map (λ s. string_bytes s.path) other.names.items
  pub widths : map (λ s. s.width) one.names.items ≡ map (λ s. s.width) other.names.items
  pub counters : (signal_at : ℕ → ℕ → ℕ) (place tick : ℕ)
      → counter_at signal_at one.counters.items place tick
      ≡ counter_at signal_at other.counters.items place tick
  pub assertions : AllZip (AreAlike one.booleans.items other.booleans.items) one.assertions.items
      other.assertions.items
