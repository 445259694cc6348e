-- Counters over ticks. They are svamon's own; no clause of the standard has them.
use Rattle.std.specs.Prelude.{ℕ, zero, suc, ◌+◌, ◌-◌, ◌%◌, ◌^◌, min, max, nat_le, Bool, false}
use Rattle.std.specs.Prelude.{if◌then◌else◌, List, Option, Some, None, unwrap_or, slice_get}
use Rattle.expressions.specs.declared.expr.Expr.{Expr}
use Rattle.expressions.specs.declared.rule.Rule.{Rule}
use Rattle.expressions.specs.declared.counter.Counter.{Counter}
use Rattle.expressions.specs.Terms.{Samples, width_of, value_of, is_true}
use Rattle.expressions.specs.Expressions.{term_of}

-- whether a condition is there and true
abbrev pub holds : Samples → Option Expr → ℕ → Bool
holds t None k = false
holds t (Some e) k = is_true t (term_of e) k

-- what a rule counts by, where its condition is true: the low w bits of its value at w bits, or at
-- its own width where that is larger
abbrev pub rule_value : Samples → ℕ → Option Rule → ℕ → Option ℕ
rule_value t w None k = None
rule_value t w (Some r) k =
    if is_true t (term_of r.when) k then Some
    (value_of t (term_of r.by) k (max w (width_of (term_of r.by))) % 2 ^ w) else None

-- The value at the next tick, from that at the tick k: 0 where it is cleared, else what is loaded,
-- else plus what is added minus what is taken, as one whole number, held between 0 and the largest
-- value.
abbrev pub next_count : Samples → Counter → ℕ → ℕ → ℕ
next_count t c now k =
    if holds t c.clear k
    then 0
    else unwrap_or
    (rule_value t c.width c.load k)
    (min ((now + unwrap_or (rule_value t c.width c.add k) 0) - unwrap_or
    (rule_value t c.width c.sub k) 0) (2 ^ c.width - 1))

-- the same of a counter by its number
abbrev pub next_of : Samples → Option Counter → ℕ → ℕ → ℕ
next_of t None now k = 0
next_of t (Some c) now k = next_count t c now k

-- the counters at the ticks up to k, from the signals: 0 at the first
abbrev pub counts_to : (ℕ → ℕ → ℕ) → List Counter → ℕ → ℕ → ℕ → ℕ
counts_to signal_at counters zero i j = 0
counts_to signal_at counters (suc k) i j =
    if nat_le j k
    then counts_to signal_at counters k i j
    else next_of (record { signal_at = signal_at; counter_at = counts_to signal_at counters k })
    (slice_get counters i) (counts_to signal_at counters k i k) k

-- a counter at a tick
abbrev pub counter_at : (ℕ → ℕ → ℕ) → List Counter → ℕ → ℕ → ℕ
counter_at signal_at counters i k = counts_to signal_at counters k i k

-- the signals, and what the counters count over them
abbrev pub counter_samples : (ℕ → ℕ → ℕ) → List Counter → Samples
counter_samples signal_at counters =
    record { signal_at = signal_at; counter_at = counter_at signal_at counters }
