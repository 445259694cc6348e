-- Verdicts rest on nothing after the last tick.
use Rattle.std.proofs.Common.{◌≡◌, inl, inr, ℕ, ◌+◌, ◌<◌, ◌≤◌, Bool, true, false, ◌||◌, List, Option, Some, None, refl}
use Rattle.std.proofs.Common.{sym, subst, arith}
use Rattle.std.specs.Prelude.{nat_le, slice_get, length, IsTrue}
use Rattle.std.proofs.lemmas.Bool.{leb-false}
use Rattle.std.proofs.Math.Path.{fun_ext}
use Rattle.signals.specs.declared.verdict.Verdict.{Verdict}
use Rattle.signals.specs.declared.verdict.Verdict.TheVariants as outcome
use Rattle.assertions.specs.declared.decision.Decision.{Decision}
use Rattle.assertions.specs.declared.decision.Decision.TheVariants.{Held, Vacuously, Failed}
use Rattle.assertions.specs.declared.sequence.Boolean.{Boolean}
use Rattle.assertions.specs.declared.sequence.Boolean.TheVariants.{One, Listed}
use Rattle.assertions.specs.declared.assertion.Assertion.{Assertion}
use Rattle.assertions.specs.declared.suite.Suite.{Suite}
use Rattle.assertions.specs.Segments.{Seq, sat, Matches}
use Rattle.assertions.specs.Attempts.{Antecedent, Leads}
use Rattle.assertions.specs.Attempts.{IsDecided, IsFirstDecided, IsUndecided, IsFirstOff, IsNeverOff, IsVerdict}
use Rattle.assertions.specs.Shapes.{shape, is_true_at, expression_at, value_in, off_in}
use Rattle.assertions.specs.Verdicts.{antecedent_of, IsVerdictOn, IsVerdictOver}
use Rattle.expressions.specs.declared.expr.Expr.{Expr}
use Rattle.expressions.specs.declared.rows.Rows.{Rows}
use Rattle.expressions.specs.Terms.{Samples, width_of}
use Rattle.expressions.specs.Tables.{column}
use Rattle.expressions.specs.Counters.{counter_samples}
use Rattle.expressions.specs.Rows.{samples_of, HasCounts}
use Rattle.expressions.specs.Expressions.{term_of}
use Rattle.expressions.specs.Laws.{AgreeTo}
use Rattle.expressions.proofs.Causality.{same_value, sooner}

-- the same below the end
abbrev AgreeBelow : {B : Type 0} → ℕ → (B → ℕ → Bool) → (B → ℕ → Bool) → Type 0
AgreeBelow {B} end value other = (b : B) (k : ℕ) → k < end → value b k ≡ other b k

either_same : (seen x y : Bool) → (seen ≡ false → x ≡ y) → (seen || x) ≡ (seen || y)
either_same true x y h = refl
either_same false x y h = h refl

same_sat : {B : Type 0} (value other : B → ℕ → Bool) (end n : ℕ) → n ≤ end → AgreeBelow end value other
    → sat value n ≡ sat other n
same_sat value other end n le same =
    fun_ext
    (λ b. fun_ext
    (λ k. either_same (nat_le n k) (value b k) (other b k) (λ late. let below : k < n = leb-false n k late in
    same b k (omega arith))))

-- how an attempt is decided, by what holds
abbrev EndsAt : {B : Type 0} → (B → ℕ → Bool) → Antecedent B → ℕ → ℕ → ℕ → Type 0
EndsAt holds r n c e = (c ≤ e) × (e < n) × Leads holds r c (e + 1)

abbrev Keeps : {B : Type 0} → (B → ℕ → Bool) → Seq B → ℕ → ℕ → Type 0
Keeps holds s n e = (j : ℕ) × (j ≤ n) × Matches holds s e j

abbrev Breaks : {B : Type 0} → (B → ℕ → Bool) → Seq B → ℕ → Type 0
Breaks holds s e = (j : ℕ) → Matches holds s e j → ⊥

abbrev Stops : {B : Type 0} → (B → ℕ → Bool) → Antecedent B → ℕ → ℕ → Type 0
Stops holds r n c = (j : ℕ) → n < j → Leads holds r c j → ⊥

abbrev Decides : {B : Type 0} → (B → ℕ → Bool) → Antecedent B → Seq B → ℕ → ℕ → Decision → Type 0
Decides holds r s n c Failed = (e : ℕ) × EndsAt holds r n c e × Breaks holds s e
Decides holds r s n c Held =
    ((e : ℕ) × EndsAt holds r n c e) × ((e : ℕ) → EndsAt holds r n c e → Keeps holds s n e) × Stops holds r n c
Decides holds r s n c Vacuously = ((e : ℕ) → EndsAt holds r n c e → ⊥) × Stops holds r n c

to_holds : {B : Type 0} (value : B → ℕ → Bool) (r : Antecedent B) (s : Seq B) (n c : ℕ) (d : Decision)
    → IsDecided value r s n c d
    → Decides (sat value n) r s n c d
to_holds value r s n c Failed h = h
to_holds value r s n c Held h = h
to_holds value r s n c Vacuously h = h

from_holds : {B : Type 0} (value : B → ℕ → Bool) (r : Antecedent B) (s : Seq B) (n c : ℕ) (d : Decision)
    → Decides (sat value n) r s n c d → IsDecided value r s n c d
from_holds value r s n c Failed h = h
from_holds value r s n c Held h = h
from_holds value r s n c Vacuously h = h

same_decided : {B : Type 0} (value other : B → ℕ → Bool) (r : Antecedent B) (s : Seq B) (end n c : ℕ) (d : Decision)
    → n ≤ end
    → AgreeBelow end value other → IsDecided value r s n c d → IsDecided other r s n c d
same_decided {B} value other r s end n c d le same h =
    from_holds other r s n c d
    (subst (λ (holds : B → ℕ → Bool). Decides holds r s n c d) (same_sat value other end n le same)
    (to_holds value r s n c d h))

turned : {B : Type 0} (end : ℕ) (value other : B → ℕ → Bool) → AgreeBelow end value other → AgreeBelow end other value
turned end value other same = λ b k below. sym (same b k below)

same_first : {B : Type 0} (value other : B → ℕ → Bool) (r : Antecedent B) (s : Seq B) (end c n : ℕ) (d : Decision)
    → AgreeBelow end value other → IsFirstDecided value r s end c n d → IsFirstDecided other r s end c n d
same_first value other r s end c n d same h = record {
  above = h.above;
  within = h.within;
  decided = same_decided value other r s end n c d h.within same h.decided;
  least =
      λ m way low high is. let within : n ≤ end = h.within in
      h.least m way low high
      (same_decided other value r s end m c way (omega arith) (turned end value other same) is);
}

same_undecided : {B : Type 0} (value other : B → ℕ → Bool) (r : Antecedent B) (s : Seq B) (end c : ℕ)
    → AgreeBelow end value other
    → IsUndecided value r s end c → IsUndecided other r s end c
same_undecided value other r s end c same h =
    λ m way low high is. h m way low high
    (same_decided other value r s end m c way high (turned end value other same) is)

-- at which ticks an attempt is disabled
abbrev OffAlike : ℕ → (ℕ → Bool) → (ℕ → Bool) → Type 0
OffAlike end off other = (k : ℕ) → k < end → off k ≡ other k

same_never : (off other : ℕ → Bool) (end c n : ℕ) → n ≤ end → OffAlike end off other → IsNeverOff off c n
    → IsNeverOff other c n
same_never off other end c n le same h =
    λ k from below passes. h k from below (subst IsTrue (sym (same k (omega arith))) passes)

same_first_off : (off other : ℕ → Bool) (end c n t : ℕ) → n ≤ end → OffAlike end off other → IsFirstOff off c n t
    → IsFirstOff other c n t
same_first_off off other end c n t le same h = record {
  from = h.from;
  below = h.below;
  passes = let below : t < n = h.below in subst IsTrue (same t (omega arith)) h.passes;
  least =
      λ k from before passes. let below : t < n = h.below in
      h.least k from before (subst IsTrue (sym (same k (omega arith))) passes);
}

-- the verdict is the same where all is the same up to the end
same_verdict : {B : Type 0} (value other : B → ℕ → Bool) (off off' : ℕ → Bool) (r : Antecedent B) (s : Seq B)
    (end c : ℕ) (v : Verdict)
    → AgreeBelow end value other → OffAlike end off off'
    → IsVerdict value off r s end c v → IsVerdict other off' r s end c v
same_verdict value other off off' r s end c (outcome.Holds t) same alike h =
    (same_first value other r s end c (t + 1) Held same h.0, same_never off off' end c (t + 1) h.0.within alike h.1)
same_verdict value other off off' r s end c (outcome.Vacuous t) same alike h = (
  same_first value other r s end c (t + 1) Vacuously same h.0,
  same_never off off' end c (t + 1) h.0.within alike h.1,
)
same_verdict value other off off' r s end c (outcome.Fails t) same alike h =
    (same_first value other r s end c (t + 1) Failed same h.0, same_never off off' end c (t + 1) h.0.within alike h.1)
same_verdict value other off off' r s end c (outcome.Disabled t) same alike h = elim h [
  | inl p ↦
      inl (
        p.0,
        p.1,
        same_first value other r s end c p.0 p.1 same p.2,
        same_first_off off off' end c p.0 t p.2.within alike p.3,
      )
  | inr p ↦
      inr (same_undecided value other r s end c same p.0, same_first_off off off' end c end t (omega arith) alike p.1)
]
same_verdict value other off off' r s end c outcome.Open same alike h =
    (same_undecided value other r s end c same h.0, same_never off off' end c end (omega arith) alike h.1)

-- booleans over two samples that agree up to a tick
same_true : (t u : Samples) (o : Option Expr) (k : ℕ) → AgreeTo k t u → is_true_at t o k ≡ is_true_at u o k
same_true t u None k h = refl
same_true t u (Some e) k h = rw (same_value t u (term_of e) k (width_of (term_of e)) h) refl

same_boolean : (booleans : List Expr) (places : List ℕ) (t u : Samples) (b : Boolean) (k : ℕ) → AgreeTo k t u
    → value_in booleans places t b k ≡ value_in booleans places u b k
same_boolean booleans places t u One k h = refl
same_boolean booleans places t u (Listed i) k h = same_true t u (expression_at booleans (slice_get places i)) k h

same_off : (booleans : List Expr) (places : List ℕ) (t u : Samples) (o : Option Boolean) (k : ℕ) → AgreeTo k t u
    → off_in booleans places t o k ≡ off_in booleans places u o k
same_off booleans places t u None k h = refl
same_off booleans places t u (Some b) k h = same_boolean booleans places t u b k h

-- so it is the same over two samples that agree up to the end
pub same_verdict_on : (booleans : List Expr) (t u : Samples) (ticks : ℕ) (a : Assertion) (clock : ℕ) (v : Verdict)
    → AgreeTo ticks t u → IsVerdictOn booleans t ticks a clock v → IsVerdictOn booleans u ticks a clock v
same_verdict_on booleans t u ticks a clock v agree h =
    let places = a.booleans.items in
    same_verdict (value_in booleans places t) (value_in booleans places u) (off_in booleans places t a.disabling)
    (off_in booleans places u a.disabling) (antecedent_of a) (shape a.consequent) ticks clock v
    (λ b k inside. same_boolean booleans places t u b k (sooner t u ticks k (omega arith) agree))
    (λ k inside. same_off booleans places t u a.disabling k (sooner t u ticks k (omega arith) agree))
    h

-- and so over rows whose counters are what the suite's count over their signals
pub verdict_over : (suite : Suite) (rows : Rows) (a : Assertion) (clock : ℕ) (v : Verdict)
    → HasCounts suite.counters.items rows
    → IsVerdictOn suite.booleans.items (samples_of rows) (length rows.signals) a clock v
    → IsVerdictOver suite rows.signals a clock v
verdict_over suite rows a clock v counts h =
    same_verdict_on suite.booleans.items (samples_of rows) (counter_samples (column rows.signals) suite.counters.items)
    (length rows.signals) a clock v counts h
