-- What the reader of bodies has of a chunk that it read to its end (own).
use Rattle.std.specs.Prelude.{◌≡◌, ℕ, ◌+◌, ◌≤◌, List, [], map, length, Ok}
use Rattle.vcd_reader.specs.declared.step.Step.{Step}
use Rattle.vcd_reader.specs.declared.step.Change.{Change}
use Rattle.vcd_reader.specs.Tokens.{tokens}
use Rattle.vcd_reader.specs.Stored.{stored_change, stored_step, kept_step}
use Rattle.vcd_reader.specs.Body.{most_changes}
use Rattle.vcd_reader.specs.Readings.{IsRead}
use Rattle.vcd_segments.specs.Pieces.{Place, Between, Stand, stand, Event, tokens_told}
use Rattle.vcd_segments.specs.Steps.{blank_step, closed_by, open_behind, changes_told}

-- The bytes, as a body of their own that goes on with an open step after so many changes, tell
-- these events and end between two items. These are the steps that the events close, and the open
-- one, as numbers.
pub record IsChunk (declared : List (List ℕ)) (bytes : List ℕ) (count first : ℕ)
    (steps : List Step) (now : ℕ) (changes : List Change) (high : List ℕ) : Type 0 where
  pub events : List Event
  pub end : Stand
  pub told : tokens_told declared (length bytes) (stand Between count first) (tokens 0 bytes)
      ≡ Ok (events, end)
  pub between : end.place ≡ Between
  pub now_is : end.now ≡ now
  pub count_is : end.count ≡ count + changes_told events
  pub closed : map kept_step (closed_by (blank_step first) events) ≡ map (stored_step high) steps
  pub still_open : kept_step (open_behind (blank_step first) events)
      ≡ record { time = now; changes = map (stored_change high) changes }

-- What was read of bytes as of a body, to their end and without a fault, is a chunk.
abbrev pub ReadingsAreChunks : Type 0
ReadingsAreChunks =
    (declared : List (List ℕ)) (bytes : List ℕ) (first : ℕ) (steps : List Step) (now : ℕ)
    (changes : List Change) (high : List ℕ) (read : ℕ)
    → IsRead [] declared bytes 0 first steps now changes high read (length bytes)
    → (count : ℕ) → count + read ≤ most_changes
    → IsChunk declared bytes count first steps now changes high
