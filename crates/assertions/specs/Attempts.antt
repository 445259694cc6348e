-- What becomes of an attempt: ends, obligations, decisions and the verdict (IEEE 1800-2017, 16.12.7
-- and annex F.5.3). r is the antecedent, s the consequent, c the attempt's first tick; value says
-- which boolean is true at which tick.
use Rattle.std.specs.Prelude.{◌⊎◌, ℕ, ◌+◌, ◌-◌, ◌<◌, ◌≤◌, Bool, true, false, not, ◌&&◌, ◌||◌}
use Rattle.std.specs.Prelude.{Option, Some, None, IsTrue}
use Rattle.assertions.specs.declared.decision.Decision.{Decision}
use Rattle.assertions.specs.declared.decision.Decision.TheVariants.{Held, Vacuously, Failed}
use Rattle.signals.specs.declared.verdict.Verdict.{Verdict}
use Rattle.signals.specs.declared.verdict.Verdict.TheVariants as outcome
use Rattle.assertions.specs.Quantifiers.{some_in, each_in, first_in, first_true}
use Rattle.assertions.specs.Segments.{Seq, sat, is_match, is_first_match, Matches, MatchesFirst}
use Rattle.assertions.specs.Segments.{longest, always}

-- An antecedent: a sequence, of which each match counts, or first_match of it, of which the first
-- one does.
pub record Antecedent (B : Type 0) : Type 0 where
  pub first : Bool
  pub sequence : Seq B

abbrev pub every : {B : Type 0} → Seq B → Antecedent B
every r = record { first = false; sequence = r }

abbrev pub first_match : {B : Type 0} → Seq B → Antecedent B
first_match r = record { first = true; sequence = r }

abbrev pub MatchesBy : {B : Type 0} → (B → ℕ → Bool) → Bool → Seq B → ℕ → ℕ → Type 0
MatchesBy holds false r i j = Matches holds r i j
MatchesBy holds true r i j = MatchesFirst holds r i j

-- The antecedent matches the ticks i up to j.
abbrev pub Leads : {B : Type 0} → (B → ℕ → Bool) → Antecedent B → ℕ → ℕ → Type 0
Leads holds r i j = MatchesBy holds r.first r.sequence i j

-- no such match of a tick or more, were every boolean true (16.12.22)
abbrev pub IsDegenerateBy : {B : Type 0} → Bool → Seq B → Type 0
IsDegenerateBy first r = (j : ℕ) → 0 < j → MatchesBy always first r 0 j → ⊥

-- A non-empty match of the antecedent from c ends with the tick e, where the ticks below n were
-- seen.
abbrev pub EndsAntecedent : {B : Type 0} → (B → ℕ → Bool) → Antecedent B → ℕ → ℕ → ℕ → Type 0
EndsAntecedent value r n c e = (c ≤ e) × (e < n) × Leads (sat value n) r c (e + 1)

-- The obligation at e is kept by n: a match of the consequent from e ends by n.
abbrev pub IsKept : {B : Type 0} → (B → ℕ → Bool) → Seq B → ℕ → ℕ → Type 0
IsKept value s n e = (j : ℕ) × (j ≤ n) × Matches (sat value n) s e j

-- The obligation at e is broken by n: no match of the consequent from e is possible at all.
abbrev pub IsBroken : {B : Type 0} → (B → ℕ → Bool) → Seq B → ℕ → ℕ → Type 0
IsBroken value s n e = (j : ℕ) → Matches (sat value n) s e j → ⊥

-- No longer match of the antecedent from c is possible.
abbrev pub IsAntecedentOver : {B : Type 0} → (B → ℕ → Bool) → Antecedent B → ℕ → ℕ → Type 0
IsAntecedentOver value r n c = (j : ℕ) → n < j → Leads (sat value n) r c j → ⊥

-- An end has a broken obligation.
abbrev pub Fails : {B : Type 0} → (B → ℕ → Bool) → Antecedent B → Seq B → ℕ → ℕ → Type 0
Fails value r s n c = (e : ℕ) × EndsAntecedent value r n c e × IsBroken value s n e

-- There is an end, each has a kept obligation, and no longer match of the antecedent is possible.
abbrev pub Holds : {B : Type 0} → (B → ℕ → Bool) → Antecedent B → Seq B → ℕ → ℕ → Type 0
Holds value r s n c =
    ((e : ℕ) × EndsAntecedent value r n c e)
    × ((e : ℕ) → EndsAntecedent value r n c e → IsKept value s n e)
    × IsAntecedentOver value r n c

-- There is no end, and no longer match of the antecedent is possible.
abbrev pub IsVacuous : {B : Type 0} → (B → ℕ → Bool) → Antecedent B → ℕ → ℕ → Type 0
IsVacuous value r n c = ((e : ℕ) → EndsAntecedent value r n c e → ⊥) × IsAntecedentOver value r n c

-- How the attempt is decided, where the ticks below n were seen.
abbrev pub IsDecided :
    {B : Type 0} → (B → ℕ → Bool) → Antecedent B → Seq B → ℕ → ℕ → Decision → Type 0
IsDecided value r s n c Failed = Fails value r s n c
IsDecided value r s n c Held = Holds value r s n c
IsDecided value r s n c Vacuously = IsVacuous value r n c

-- n is the least number above c, up to the end of the trace, by which the attempt is decided, and d
-- says how.
pub record IsFirstDecided {B : Type 0} (value : B → ℕ → Bool) (r : Antecedent B) (s : Seq B)
    (end c n : ℕ) (d : Decision) : Type 0 where
  pub above : c < n
  pub within : n ≤ end
  pub decided : IsDecided value r s n c d
  pub least : (m : ℕ) (other : Decision) → c < m → m < n → IsDecided value r s m c other → ⊥

-- Nothing up to the end of the trace decides it.
abbrev pub IsUndecided : {B : Type 0} → (B → ℕ → Bool) → Antecedent B → Seq B → ℕ → ℕ → Type 0
IsUndecided value r s end c =
    (m : ℕ) (other : Decision) → c < m → m ≤ end → IsDecided value r s m c other → ⊥

-- t is the first tick from c on, below the end, at which the disabling expression is true (16.12,
-- 16.15)
pub record IsFirstOff (off : ℕ → Bool) (c end t : ℕ) : Type 0 where
  pub from : c ≤ t
  pub below : t < end
  pub passes : IsTrue (off t)
  pub least : (k : ℕ) → c ≤ k → k < t → IsTrue (off k) → ⊥

-- It is true at none of them.
abbrev pub IsNeverOff : (ℕ → Bool) → ℕ → ℕ → Type 0
IsNeverOff off c end = (k : ℕ) → c ≤ k → k < end → IsTrue (off k) → ⊥

-- The verdict: the decision by the least n, at the tick n - 1, unless the disabling expression was
-- true at a tick from c to there: then it is disabled at the first such tick. Where nothing
-- decides, it is disabled at the first such tick up to the last of the trace, or else open.
abbrev pub IsVerdict : {B : Type 0} → (B → ℕ → Bool) → (ℕ → Bool) → Antecedent B → Seq B
    → ℕ → ℕ → Verdict → Type 0
IsVerdict value off r s end c (outcome.Holds t) =
    IsFirstDecided value r s end c (t + 1) Held × IsNeverOff off c (t + 1)
IsVerdict value off r s end c (outcome.Vacuous t) =
    IsFirstDecided value r s end c (t + 1) Vacuously × IsNeverOff off c (t + 1)
IsVerdict value off r s end c (outcome.Fails t) =
    IsFirstDecided value r s end c (t + 1) Failed × IsNeverOff off c (t + 1)
IsVerdict value off r s end c (outcome.Disabled t) =
    ((n : ℕ) × (d : Decision) × IsFirstDecided value r s end c n d × IsFirstOff off c n t)
    ⊎ (IsUndecided value r s end c × IsFirstOff off c end t)
IsVerdict value off r s end c outcome.Open = IsUndecided value r s end c × IsNeverOff off c end

-- The same as tests.
abbrev pub is_match_by : {B : Type 0} → (B → ℕ → Bool) → Bool → Seq B → ℕ → ℕ → Bool
is_match_by holds false r i j = is_match holds r i j
is_match_by holds true r i j = is_first_match holds r i j

abbrev pub is_leading : {B : Type 0} → (B → ℕ → Bool) → Antecedent B → ℕ → ℕ → Bool
is_leading holds r i j = is_match_by holds r.first r.sequence i j

abbrev pub has_end : {B : Type 0} → (B → ℕ → Bool) → Antecedent B → ℕ → ℕ → Bool
has_end value r n c = some_in c n (λ e. is_leading (sat value n) r c (e + 1))

abbrev pub is_kept : {B : Type 0} → (B → ℕ → Bool) → Seq B → ℕ → ℕ → Bool
is_kept value s n e = some_in e (n + 1) (λ j. is_match (sat value n) s e j)

abbrev pub is_possible : {B : Type 0} → (B → ℕ → Bool) → Seq B → ℕ → ℕ → Bool
is_possible value s n e = some_in e (e + longest s + 1) (λ j. is_match (sat value n) s e j)

abbrev pub goes_on : {B : Type 0} → (B → ℕ → Bool) → Antecedent B → ℕ → ℕ → Bool
goes_on value r n c =
    some_in (n + 1) (c + longest r.sequence + 1) (λ j. is_leading (sat value n) r c j)

abbrev pub is_failed : {B : Type 0} → (B → ℕ → Bool) → Antecedent B → Seq B → ℕ → ℕ → Bool
is_failed value r s n c =
    some_in c n (λ e. is_leading (sat value n) r c (e + 1) && not (is_possible value s n e))

abbrev pub all_kept : {B : Type 0} → (B → ℕ → Bool) → Antecedent B → Seq B → ℕ → ℕ → Bool
all_kept value r s n c =
    each_in c n (λ e. not (is_leading (sat value n) r c (e + 1)) || is_kept value s n e)

-- How it is decided, where an obligation is broken or not, a longer match is possible or not, there
-- is an end or not, and each obligation is kept or not.
abbrev pub decide : Bool → Bool → Bool → Bool → Option Decision
decide true goes_on has_end all_kept = Some Failed
decide false true has_end all_kept = None
decide false false false all_kept = Some Vacuously
decide false false true true = Some Held
decide false false true false = None

-- how the attempt at c is decided by n, if it is
unfoldable pub decision :
    {B : Type 0} → (B → ℕ → Bool) → Antecedent B → Seq B → ℕ → ℕ → Option Decision
decision value r s n c =
    decide (is_failed value r s n c) (goes_on value r n c) (has_end value r n c)
    (all_kept value r s n c)

-- the verdict of an attempt that is decided so at a tick
abbrev pub decided_at : Decision → ℕ → Verdict
decided_at Held tick = outcome.Holds tick
decided_at Vacuously tick = outcome.Vacuous tick
decided_at Failed tick = outcome.Fails tick

-- disabled at a tick, or else what it would be
abbrev pub disabled_or : Option ℕ → Verdict → Verdict
disabled_or None verdict = verdict
disabled_or (Some tick) verdict = outcome.Disabled tick

-- the verdict, from the first decision if there is one; off says at which ticks the disabling
-- expression is true
abbrev pub verdict_by : (ℕ → Bool) → ℕ → ℕ → Option (ℕ × Decision) → Verdict
verdict_by off c end None = disabled_or (first_true c end off) outcome.Open
verdict_by off c end (Some (n, d)) = disabled_or (first_true c n off) (decided_at d (n - 1))

-- the verdict on the attempt that begins at c, over so many ticks
abbrev pub verdict :
    {B : Type 0} → (B → ℕ → Bool) → (ℕ → Bool) → Antecedent B → Seq B → ℕ → ℕ → Verdict
verdict value off r s end c =
    verdict_by off c end (first_in (c + 1) (end + 1) (λ n. decision value r s n c))
