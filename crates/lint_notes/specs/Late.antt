-- Signals whose first value comes after a dump's first time.
use Rattle.std.specs.Prelude.{ℕ, List, [], ◌∷◌, Bool, false, not, ◌&&◌, ◌==◌, Option, Some, None}
use Rattle.std.specs.List.{list_any}
use Rattle.vcd_reader.specs.declared.step.Step.{Step}
use Rattle.vcd_reader.specs.Variables.{Declared, variable_named, code_number}

-- whether a step changes a code
abbrev pub has_change : ℕ → Step → Bool
has_change code step = list_any (λ c. c.code == code) step.changes.items

-- whether a code changes, but not in the first step
abbrev pub comes_late : ℕ → List Step → Bool
comes_late code [] = false
comes_late code (s ∷ ss) = not (has_change code s) && list_any (has_change code) ss

abbrev pub is_late_place : List Declared → List Step → Option ℕ → Bool
is_late_place vs steps None = false
is_late_place vs steps (Some place) = comes_late (code_number vs place) steps

-- whether the first value of a path comes after the first step
abbrev pub is_late : List Declared → List Step → List ℕ → Bool
is_late vs steps path = is_late_place vs steps (variable_named vs path)
