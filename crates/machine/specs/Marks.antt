-- Sets of the last 128 ticks, as numbers: bit 127 is the tick now, bit 126 the one before.
use Rattle.std.specs.Prelude.{◌≡◌, ℕ, ◌+◌, ◌-◌, ◌^◌, ◌≤◌, ◌==◌, Bool, not, if◌then◌else◌}
use Rattle.std.specs.Prelude.{List, [], ◌∷◌, Option, bit_or}
use Rattle.std.specs.Int.{bit_at}
use Rattle.signals.specs.declared.verdict.Verdict.{Verdict}
use Rattle.machine_checked.specs.Clocks.{Attempt, Fate, Settlement, awaits, is_broken, is_ended}
use Rattle.machine_checked.specs.Clocks.{settle}
use Rattle.machine.specs.declared.fates.Fates.{Fates}
use Rattle.machine.specs.Records.{settled}

-- the set of one of the last ticks
abbrev pub mark_of : ℕ → ℕ → ℕ
mark_of now tick = 2 ^ (127 - (now - tick))

-- the set of a fate's tick where it passes a test
abbrev pub fate_mark : (Fate → Bool) → ℕ → Fate → ℕ
fate_mark passes now f = if passes f then mark_of now f.tick else 0

-- the set of the ticks of those fates that pass a test
abbrev pub mark_set : (Fate → Bool) → ℕ → List Fate → ℕ
mark_set passes now [] = 0
mark_set passes now (f ∷ fs) = bit_or (fate_mark passes now f) (mark_set passes now fs)

abbrev pub is_fate_open : Fate → Bool
is_fate_open f = not (is_ended f)

-- the fates of a clock, as the sets of the open and of the broken ticks
abbrev pub fates_of : ℕ → List Fate → Fates
fates_of now fs =
    record { open_ticks = mark_set is_fate_open now fs; broken_ticks = mark_set is_broken now fs }

-- each is one of the last 128 ticks
abbrev pub AreRecent : ℕ → List Fate → Type 0
AreRecent now [] = Unit {0}
AreRecent now (f ∷ fs) = (f.tick ≤ now) × (now ≤ f.tick + 127) × AreRecent now fs

-- a set of the last ticks tells those at which an attempt accepted
abbrev pub Tells : ℕ → Attempt → ℕ → Type 0
Tells now a set =
    (tick : ℕ) → tick ≤ now → now ≤ tick + 127 →
    (bit_at set (127 - (now - tick)) == 1) ≡ awaits a tick

-- by the fates of which these are the sets, the attempt is settled with this verdict
abbrev pub SettlesAs : ℕ → Fates → Attempt → Option Verdict → Type 0
SettlesAs now fates a verdict =
    (fs : List Fate) (r : Settlement) → AreRecent now fs → fates ≡ fates_of now fs →
    settle now fs a r ≡ settled verdict a r
