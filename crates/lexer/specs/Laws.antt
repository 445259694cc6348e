-- The computed tokens of a text, by what it means to cut one.
use Rattle.std.specs.Prelude.{◌≡◌, ◌↔◌, ℕ, List, Ok, Err}
use Rattle.lexer.specs.declared.fault.LexFault.{LexFault}
use Rattle.lexer.specs.declared.fault.LexFault.TheVariants.{Memory}
use Rattle.lexer.specs.Cutting.{Cut, tokens_of}
use Rattle.lexer.specs.Covering.{IsCut, IsFaulty}

-- A text has these tokens exactly where they cover it, each the longest at its byte.
abbrev pub TokensCoverText : Type 0
TokensCoverText = (text : List ℕ) (tokens : List Cut)
    → (tokens_of text ≡ Ok tokens) ↔ IsCut 0 text tokens

-- A text is refused by this fault exactly where it is the first in the text.
abbrev pub RefusesByFirstFault : Type 0
RefusesByFirstFault = (text : List ℕ) (fault : LexFault)
    → (tokens_of text ≡ Err fault) ↔ IsFaulty 0 text fault

-- Want of memory is no answer of a definition.
abbrev pub NeverWantsMemory : Type 0
NeverWantsMemory = (text : List ℕ) → tokens_of text ≡ Err Memory → ⊥
