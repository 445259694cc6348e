-- Where a header ends, whatever it declares.
use Rattle.std.specs.Prelude.{◌≡◌, ℕ, List, [], ◌∷◌, ◌++◌, Bool, true, false, Result, Ok}
use Rattle.std.specs.Prelude.{slice_range}
use Rattle.vcd_reader.specs.declared.fault.Fault.{Fault}
use Rattle.vcd_reader.specs.Tokens.{DumpToken}
use Rattle.vcd_reader.specs.Variables.{Declared}
use Rattle.vcd_reader.specs.Header.{Header, Head, is_end, header, variable, var_reference}
use Rattle.vcd_reader.specs.Sections.{tokens_at}

-- an `$end` stands right before this byte
abbrev pub IsBehindEnd : List ℕ → ℕ → Type 0
IsBehindEnd bytes end = (from : ℕ) × (is_end (slice_range bytes from end) ≡ true)

-- The header is the bytes up to this one, with the `$end` of `$enddefinitions` as the last of its
-- tokens: its sections are sound, and the body's tokens are those from there on.
pub record EndsHeader (bytes : List ℕ) (end : ℕ) : Type 0 where
  pub declared : List Declared
  pub read : header [] [] (tokens_at bytes 0) ≡ Ok (declared, tokens_at bytes end)
  pub behind : IsBehindEnd bytes end

-- what is left after a section: the body, if the section was the last, else more of the header
abbrev pub GoesOn : Bool → List Declared → Result Header Fault → List DumpToken → Type 0
GoesOn true vars read rest = read ≡ Ok (vars, rest)
GoesOn false vars read rest =
    (scopes : List (List ℕ)) × (more : List Declared) × (read ≡ header scopes more rest)

-- the reference of the `$var` whose word is at `word` goes from `start` up to the `$end` before
-- `end`, and its tokens make some text
abbrev pub PassesReference : List ℕ → ℕ → ℕ → ℕ → Type 0
PassesReference bytes word start end =
    (text : List ℕ) × ((opener : List ℕ) (scopes : List (List ℕ)) (vars : List Declared) (h : Head)
    → var_reference scopes vars (record { text = opener; at = word }) h (tokens_at bytes start)
    ≡ header scopes (vars ++ variable scopes h text ∷ []) (tokens_at bytes end))
