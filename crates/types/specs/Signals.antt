-- Paths that the dump has.
use Rattle.std.specs.Prelude.{◌≡◌, ℕ, List, [], ◌∷◌, Some}
use Rattle.types_names.specs.Scopes.{Scope}

-- the dump has the path, with a width
abbrev pub DumpHasPath : Scope → List ℕ → Type 0
DumpHasPath s path = (width : ℕ) × (s.dump path ≡ Some width)

-- each of the paths
abbrev pub DumpHasPaths : Scope → List (List ℕ) → Type 0
DumpHasPaths s [] = Unit {0}
DumpHasPaths s (p ∷ ps) = DumpHasPath s p × DumpHasPaths s ps
