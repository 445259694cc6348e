-- Monitors that are dealt out.
use Rattle.std.specs.Prelude.{◌≡◌, ℕ, ◌+◌, ◌≤◌, List, [], ◌∷◌, Some, slice_get}
use Rattle.std.specs.List.{range_with_len}

-- strictly rising numbers, from low on
abbrev pub AreRisingFrom : ℕ → List ℕ → Type 0
AreRisingFrom low [] = Unit {0}
AreRisingFrom low (x ∷ xs) = (low ≤ x) × AreRisingFrom (x + 1) xs

abbrev pub AreRising : List ℕ → Type 0
AreRising xs = AreRisingFrom 0 xs

-- f of each, added up
abbrev pub total : {X : Type 0} → (X → ℕ) → List X → ℕ
total f [] = 0
total f (x ∷ xs) = f x + total f xs

-- Each list rises, and together they are so many monitors, each once: whatever each number weighs,
-- the lists weigh together what the monitors do.
pub record AreDealt (monitors : ℕ) (lists : List (List ℕ)) : Type 0 where
  pub rise : (w : ℕ) (xs : List ℕ) → slice_get lists w ≡ Some xs → AreRising xs
  pub all : (h : ℕ → ℕ) → total (total h) lists ≡ total h (range_with_len 0 monitors)
