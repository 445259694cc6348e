-- The rows that sample code reads, from the values of the signals and of the counters at each
-- clock.
use Rattle.std.specs.Prelude.{◌≡◌, ℕ, zero, suc, ◌+◌, ◌-◌, ◌<◌, Bool, nat_le, if◌then◌else◌, List}
use Rattle.std.specs.Prelude.{[], ◌∷◌, ◌++◌, length, take, replicate, slice_index}
use Rattle.bytecode_programs.specs.Values.{ProgramData}
use Rattle.bytecode_programs.specs.Instructions.{frame_of}
use Rattle.machine_checked.specs.Outcomes.{Ran, Meets}
use Rattle.machine_checked.specs.Samples.{Made, nothing_made, run_sample}
use Rattle.machine_checked.specs.Machine.{opening, sample_of, stored}

-- the row of a clock: the constant 1, the signals, the counters as they stand
abbrev pub clock_row : (ℕ → List ℕ) → (ℕ → List ℕ) → ℕ → List ℕ
clock_row signals counters k = 1 ∷ (signals k ++ counters k)

-- The rows that are kept before clock n, the newest first: those of the last clocks, as many as the
-- declared history and one more, with rows of zeros before the first clock.
abbrev pub rows_before : ProgramData → (ℕ → List ℕ) → (ℕ → List ℕ) → ℕ → List (List ℕ)
rows_before p signals counters zero = (opening p).rows
rows_before p signals counters (suc n) =
    clock_row signals counters n
    ∷ take p.header.limits.history (rows_before p signals counters n)

-- those that sample code reads at clock k
abbrev pub sample_rows : ProgramData → (ℕ → List ℕ) → (ℕ → List ℕ) → ℕ → List (List ℕ)
sample_rows p signals counters k = rows_before p signals counters (suc k)

-- what a slot held so many clocks before clock k, 0 before the first clock
abbrev pub slot_held_at : (ℕ → List ℕ) → ℕ → ℕ → ℕ → ℕ
slot_held_at row k back slot = if nat_le back k then slice_index (row (k - back)) slot else 0

-- the run of the sample code at clock k
abbrev pub sample_run : ProgramData → (ℕ → List ℕ) → (ℕ → List ℕ) → ℕ → Ran Made
sample_run p signals counters k =
    run_sample (frame_of p) p.header.limits (sample_of (sample_rows p signals counters k)) p.sample
    p.header.limits.budget 0 [] (nothing_made (frame_of p))

-- Over counters that are read so, the sample code set these atoms, and with what it stored the next
-- clock reads those counters.
pub record IsSampleMade (read : List ℕ) (set : List Bool) (next : List ℕ)
    (made : Made) : Type 0 where
  pub atoms : made.atoms ≡ set
  pub counters : stored made.stores read ≡ next

-- At the first so many clocks, over these signals, these are the counters that the sample code
-- reads and the atoms that it sets. The counters are 0 at first.
pub record SamplesAs (p : ProgramData) (signals counters : ℕ → List ℕ) (atoms : ℕ → List Bool)
    (count : ℕ) : Type 0 where
  pub opening : counters 0 ≡ replicate (length p.counters) 0
  pub each : (k : ℕ) → k < count →
      Meets (λ made left. IsSampleMade (counters k) (atoms k) (counters (k + 1)) made)
      (sample_run p signals counters k)
