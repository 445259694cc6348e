-- Laws that show that the definitions mean what they should.
use Rattle.std.specs.Prelude.{◌≡◌, ℕ, ◌+◌, ◌≤◌, Bool, false, IsTrue, ◌↔◌}
use Rattle.signals.specs.declared.verdict.Verdict.{Verdict}
use Rattle.assertions.specs.declared.sequence.Boolean.{Boolean}
use Rattle.assertions.specs.Segments.{Seq, Matches, is_match, longest, IsDegenerate, AdmitsEmpty}
use Rattle.assertions.specs.Attempts.{Antecedent, IsVerdict, verdict}
use Rattle.assertions.specs.Written.{Written, kernel, weight, IsOrdered}
use Rattle.assertions.specs.Emptiness.{admits_empty, takes_ticks}

-- A match doesn't end before it begins.
abbrev pub MatchesForward : Type 0
MatchesForward =
    (holds : Boolean → ℕ → Bool) (r : Seq Boolean) (i j : ℕ) → Matches holds r i j → i ≤ j

-- It isn't longer than the longest.
abbrev pub MatchesWithin : Type 0
MatchesWithin =
    (holds : Boolean → ℕ → Bool) (r : Seq Boolean) (i j : ℕ)
    → Matches holds r i j → j ≤ i + longest r

-- The test of a match says what the relation says.
abbrev pub TestsMatches : Type 0
TestsMatches =
    (holds : Boolean → ℕ → Bool) (r : Seq Boolean) (i j : ℕ)
    → IsTrue (is_match holds r i j) ↔ Matches holds r i j

-- Each attempt has a verdict, the one that is computed.
abbrev pub HasVerdict : Type 0
HasVerdict =
    (value : Boolean → ℕ → Bool) (off : ℕ → Bool) (r : Antecedent Boolean) (s : Seq Boolean)
    (end c : ℕ)
    → IsVerdict value off r s end c (verdict value off r s end c)

-- It has no other.
abbrev pub HasOneVerdict : Type 0
HasOneVerdict =
    (value : Boolean → ℕ → Bool) (off : ℕ → Bool) (r : Antecedent Boolean) (s : Seq Boolean)
    (end c : ℕ) (v w : Verdict)
    → IsVerdict value off r s end c v → IsVerdict value off r s end c w → v ≡ w

-- No match of what is written takes more ticks than it weighs.
abbrev pub MatchesWithinWeight : Type 0
MatchesWithinWeight =
    (holds : Boolean → ℕ → Bool) (true_one : Boolean) (r : Written Boolean) (i j : ℕ)
    → IsOrdered r → Matches holds (kernel true_one r) i j → j ≤ i + weight r

-- What is written matches an empty segment at every tick and whatever its booleans are, or nowhere:
-- its form tells.
abbrev pub EmptyMatchesAlike : Type 0
EmptyMatchesAlike =
    (holds : Boolean → ℕ → Bool) (true_one : Boolean) (r : Written Boolean) (i : ℕ)
    → IsOrdered r → IsTrue (admits_empty r) ↔ Matches holds (kernel true_one r) i i

-- So it admits an empty match where its form tells so.
abbrev pub TestsEmpty : Type 0
TestsEmpty =
    (true_one : Boolean) (r : Written Boolean) → IsOrdered r
    → IsTrue (admits_empty r) ↔ AdmitsEmpty (kernel true_one r)

-- It is degenerate where its form tells that no match takes a tick.
abbrev pub TestsDegenerate : Type 0
TestsDegenerate =
    (true_one : Boolean) (r : Written Boolean) → IsOrdered r
    → IsDegenerate (kernel true_one r) ↔ (takes_ticks r ≡ false)
