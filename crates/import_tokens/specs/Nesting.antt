-- Where conditionals nest (IEEE 1800-2017, 22.6, syntax 22-5).
use Rattle.std.specs.Prelude.{◌≡◌, ◌≢◌, ℕ, List, [], ◌∷◌, ◌++◌, map}
use Rattle.import_tokens.specs.declared.conditional.Conditional.{Conditional}
use Rattle.import_tokens.specs.declared.fault.TokenFault.{TokenFault}
use Rattle.import_tokens.specs.declared.fault.TokenFault.TheVariants as faults
use Rattle.import_tokens.specs.declared.nesting.Nesting.{Nesting}
use Rattle.import_tokens.specs.declared.nesting.Nesting.TheVariants.{Whole, Stray, Unclosed}
use Rattle.import_tokens.specs.declared.turn.Turn.{Turn}
use Rattle.import_tokens.specs.declared.turn.Turn.TheVariants.{If, ElseIf, Else, EndIf}

mutual
  -- Whole conditionals, one after another, stand at the front of directives, up to the others.
  pub data AreWhole : List Turn → List Turn → Type 0 where
    none : {rest : List Turn} → AreWhole rest rest
    one_more : {inside after rest : List Turn} → IsInside inside after → AreWhole after rest
        → AreWhole (If ∷ inside) rest

  -- What stands in a conditional after its first directive, and its `endif`: whole conditionals,
  -- then nothing more, or `else` and whole conditionals, or `elsif` and what may stand in one.
  pub data IsInside : List Turn → List Turn → Type 0 where
    at_end : {inside rest : List Turn} → AreWhole inside (EndIf ∷ rest) → IsInside inside rest
    at_else : {inside last rest : List Turn} → AreWhole inside (Else ∷ last)
        → AreWhole last (EndIf ∷ rest) → IsInside inside rest
    at_else_if : {inside branch rest : List Turn} → AreWhole inside (ElseIf ∷ branch)
        → IsInside branch rest → IsInside inside rest

abbrev pub turns : List Conditional → List Turn
turns found = map (λ (one : Conditional). one.turn) found

-- All are whole conditionals.
abbrev pub Nest : List Conditional → Type 0
Nest found = AreWhole (turns found) []

-- One of them stands at a place, with those before and after it.
pub record IsAt (found before : List Conditional) (one : Conditional) (after : List Conditional)
    (at : ℕ) : Type 0 where
  pub joined : found ≡ before ++ one ∷ after
  pub place : one.at ≡ at

-- With what may come after them, those before it can be whole conditionals. With it they can't.
pub record IsStray (found : List Conditional) (at : ℕ) : Type 0 where
  pub before : List Conditional
  pub one : Conditional
  pub after : List Conditional
  pub is : IsAt found before one after at
  pub more : List Turn
  pub can : AreWhole (turns before ++ more) []
  pub stray : (rest : List Turn) → AreWhole (turns before ++ one.turn ∷ rest) [] → ⊥

-- Those before it are whole conditionals. It begins another one, whose end is not in the text: it
-- would be the last of what had to be added.
pub record IsUnclosed (found : List Conditional) (at : ℕ) : Type 0 where
  pub before : List Conditional
  pub one : Conditional
  pub after : List Conditional
  pub is : IsAt found before one after at
  pub nest : Nest before
  pub begins : one.turn ≡ If
  pub added : List Turn
  pub some : added ≢ []
  pub ends : IsInside (turns after ++ added) []

abbrev pub IsNesting : List Conditional → Nesting → Type 0
IsNesting found Whole = Nest found
IsNesting found (Stray at) = IsStray found at
IsNesting found (Unclosed at) = IsUnclosed found at

abbrev pub IsNestingFault : List Conditional → TokenFault → Type 0
IsNestingFault found (faults.StrayConditional at) = IsStray found at
IsNestingFault found (faults.UnclosedConditional at) = IsUnclosed found at
IsNestingFault found (faults.UnclosedComment at) = ⊥
IsNestingFault found faults.Memory = Unit {0}
