-- What was read of a body, from a byte on at which the step of a time stands open.
use Rattle.std.specs.Prelude.{◌≡◌, ℕ, ◌+◌, ◌≤◌, List, [], ◌∷◌, ◌++◌, map, length, Result, Ok}
use Rattle.vcd_reader.specs.declared.step.Step.{Step}
use Rattle.vcd_reader.specs.declared.step.Change.{Change}
use Rattle.vcd_reader.specs.declared.reading.Reading.{Reading}
use Rattle.vcd_reader.specs.declared.fault.Fault.{Fault}
use Rattle.vcd_reader.specs.Faults.{◌>>=◌}
use Rattle.vcd_reader.specs.Stored.{StoredChange, StoredStep, stored_change, stored_step}
use Rattle.vcd_reader.specs.Body.{body, most_changes}
use Rattle.vcd_reader.specs.declared.item.Item.{Item}
use Rattle.vcd_reader.specs.Kept.{KeptRest, kept_result, with_item}
use Rattle.vcd_reader.specs.Sections.{tokens_at}

-- all steps: those so far, the open one with what is still to be read of it, and those after it
abbrev pub joined : List StoredStep → ℕ → List StoredChange → Result KeptRest Fault
    → Result (List StoredStep) Fault
joined steps now changes read =
    read >>= λ r. Ok (steps ++ record { time = now; changes = changes ++ r.0 } ∷ r.1)

-- what stands from a byte on, after so many changes, in an open step of that time
abbrev pub rest_at : List (List ℕ) → List ℕ → ℕ → ℕ → ℕ → Result KeptRest Fault
rest_at declared bytes count now at =
    kept_result (body declared (length bytes) count now (tokens_at bytes at))

-- the steps from a byte on, at which one of that time is open and has no change yet, after so many
-- changes
abbrev pub steps_from : List (List ℕ) → List ℕ → ℕ → ℕ → ℕ → Result (List StoredStep) Fault
steps_from declared bytes count now at = joined [] now [] (rest_at declared bytes count now at)

-- What stands from a byte on is what these steps, this open one and what stands from another byte
-- on make, or the same fault. Of the changes between the two `count` are counted, and no more high
-- halves of wide values are kept, which stand after those of `front`. So it is after any number of
-- changes that leaves room for these, and whatever more is put after the high halves.
pub record IsRead (front : List ℕ) (declared : List (List ℕ)) (bytes : List ℕ) (start first : ℕ)
    (steps : List Step) (now : ℕ) (changes : List Change) (high : List ℕ) (count at : ℕ) : Type 0
  where
    pub inside : at ≤ length bytes
    pub wide : length high ≤ count
    pub few : count ≤ most_changes
    pub same : (before : ℕ) (more : List ℕ) → before + count ≤ most_changes
        → steps_from declared bytes before first start
        ≡ joined (map (stored_step (front ++ (high ++ more))) steps) now
        (map (stored_change (front ++ (high ++ more))) changes)
        (rest_at declared bytes (before + count) now at)

-- what was read, its high halves of wide values after these
abbrev pub IsReadingBehind : List ℕ → List (List ℕ) → List ℕ → Reading → Type 0
IsReadingBehind front declared bytes r =
    IsRead front declared bytes r.start r.first r.steps.items r.now r.changes.items r.high.items
    r.count r.at

-- what was read, its high halves alone
abbrev pub IsReading : List (List ℕ) → List ℕ → Reading → Type 0
IsReading declared bytes r = IsReadingBehind [] declared bytes r

-- an item stands at a byte, and ends at another one
pub record IsItemAt (declared : List (List ℕ)) (bytes : List ℕ) (at : ℕ) (item : Item) (end : ℕ)
    : Type 0 where
  pub inside : end ≤ length bytes
  pub says : (count now : ℕ) → rest_at declared bytes count now at
      ≡ with_item item count now (λ c n. rest_at declared bytes c n end)

-- the other one begins where this one stands, in a step that has no change yet, and a dump may have
-- the changes of both
pub record IsFollowedBy (one other : Reading) : Type 0 where
  pub start : other.start ≡ one.at
  pub first : other.first ≡ one.now
  pub blank : one.changes.items ≡ []
  pub few : one.count + other.count ≤ most_changes

-- changes that say, with so many high halves more in front, what these said
abbrev pub AreMoved : ℕ → List Change → List Change → Type 0
AreMoved by old new =
    (front high : List ℕ) → length front ≡ by
    → map (stored_change (front ++ high)) new ≡ map (stored_change high) old

-- steps that say so what these said
abbrev pub AreStepsMoved : ℕ → List Step → List Step → Type 0
AreStepsMoved by old new =
    (front high : List ℕ) → length front ≡ by
    → map (stored_step (front ++ high)) new ≡ map (stored_step high) old
