-- Last changes of codes, as a dump stores them.
use Rattle.std.specs.Prelude.{◌≡◌, ℕ, ◌<◌, ◌==◌, List, [], ◌∷◌, take, length, get_or, Option, Some}
use Rattle.std.specs.Prelude.{None, if◌then◌else◌}
use Rattle.std.specs.List.{flat_map}
use Rattle.vcd_reader.specs.declared.step.Step.{Step}
use Rattle.vcd_reader.specs.declared.step.Change.{Change}
use Rattle.vcd_reader.specs.Values.{or_else}

-- all changes of the steps before the step k, as they are stored
unfoldable pub changes_to : List Step → ℕ → List Change
changes_to steps k = flat_map (λ s. s.changes.items) (take k steps)

-- the last change of a code
unfoldable pub last_of : ℕ → List Change → Option Change
last_of code [] = None
last_of code (c ∷ cs) = or_else (last_of code cs) (if c.code == code then Some c else None)

-- a table of the last change of each code up to its length
abbrev pub IsTable : List (Option Change) → List Change → Type 0
IsTable last changes =
    (code : ℕ) → code < length last → get_or last code None ≡ last_of code changes
