-- A text that stands in the place of a team's files.
use Rattle.std.specs.Prelude.{◌≡◌, ℕ, List, [], ◌∷◌, ◌++◌, map, take, drop, length, max}
use Rattle.std.specs.Prelude.{string_bytes}
use Rattle.diagnostics.specs.Blanked.{blank_for}
use Rattle.source_files.specs.declared.added.Added.{Added}
use Rattle.import_files.specs.declared.outcome.Outcome.{Outcome}
use Rattle.import_files.specs.declared.placing.PlacedText.{PlacedText}
use Rattle.import_files.specs.Imported.{written_text}

-- blanks from a byte on, and before the byte at which each assertion begins what is written of it
abbrev pub placed_text : List ℕ → ℕ → List Outcome → List ℕ
placed_text blanks at [] = drop at blanks
placed_text blanks at (o ∷ os) =
    drop at (take o.at blanks) ++ written_text o ++ placed_text blanks (max at o.at) os

-- what that adds to the files, for which the byte is told at which the assertion begins; in a
-- generate loop later turns begin before others
abbrev pub added_by : ℕ → List Outcome → List Added
added_by at [] = []
added_by at (o ∷ os) =
    record { at = max at o.at; count = length (written_text o); from = o.at }
    ∷ added_by (max at o.at) os

-- the files with all blanked, line feeds but, to which what is written of each assertion is added
-- at its place
pub record IsPlaced (files : List ℕ) (outcomes : List Outcome) (placed : PlacedText) : Type 0 where
  pub text : string_bytes placed.text ≡ placed_text (map blank_for files) 0 outcomes
  pub added : placed.added.items ≡ added_by 0 outcomes
