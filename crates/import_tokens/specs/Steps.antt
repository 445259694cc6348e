-- What a directive does where conditionals are open.
use Rattle.std.specs.Prelude.{◌≡◌, ℕ, List, [], ◌∷◌, Bool, true, false, Option, Some, None}
use Rattle.std.specs.Prelude.{reverse}
use Rattle.import_tokens.specs.declared.turn.Turn.{Turn}
use Rattle.import_tokens.specs.declared.turn.Turn.TheVariants.{If, ElseIf, Else, EndIf}

-- Of each conditional that is open, the innermost first, whether its `else` was there; the same
-- after a directive, if it may stand there.
abbrev pub step : List Bool → Turn → Option (List Bool)
step around If = Some (false ∷ around)
step [] turn = None
step (had_else ∷ around) EndIf = Some around
step (false ∷ around) ElseIf = Some (false ∷ around)
step (false ∷ around) Else = Some (true ∷ around)
step (true ∷ around) turn = None

-- the answer of a step, where lists have the outermost first
abbrev pub IsStep : Option (List Bool) → Bool → List Bool → Type 0
IsStep (Some around) true after = after ≡ reverse around
IsStep None false after = Unit {0}
IsStep next taken after = ⊥

-- Where the outermost one begins: the next directive, where none is open.
abbrev pub outermost_of : List Bool → ℕ → ℕ → ℕ
outermost_of [] next before = next
outermost_of (had_else ∷ around) next before = before

abbrev pub Takes : List Bool → Turn → Bool → List Bool → Type 0
Takes before turn taken after =
    (around : List Bool) → before ≡ reverse around → IsStep (step around turn) taken after
