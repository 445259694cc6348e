-- What the code has read of a header, beside the definition.
use Rattle.std.specs.Prelude.{◌≡◌, ℕ, ◌≤◌, List, [], ◌∷◌, ◌++◌, drop, Result, Ok, slice_range}
use Rattle.vcd_reader.specs.declared.fault.Fault.{Fault}
use Rattle.vcd_reader.specs.declared.span.Span.{Span}
use Rattle.vcd_reader.specs.declared.header.Section.{Section}
use Rattle.vcd_reader.specs.declared.header.Section.TheVariants.{Ended, Opened, Closed, Declared}
use Rattle.vcd_reader.specs.declared.header.Section.TheVariants.{Skipped}
use Rattle.vcd_reader.specs.declared.header.VarHead.{VarHead}
use Rattle.vcd_reader.specs.Tokens.{DumpToken, tokens}
use Rattle.vcd_reader.specs.Variables as variables
use Rattle.vcd_reader.specs.Stored.{declaration_in}
use Rattle.vcd_reader.specs.Header.{Header, Head, header, outer_scopes}

abbrev pub text_at : List ℕ → Span → List ℕ
text_at bytes s = slice_range bytes s.from s.end

-- the tokens from a byte on
abbrev pub tokens_at : List ℕ → ℕ → List DumpToken
tokens_at bytes at = tokens at (drop at bytes)

abbrev pub head_at : List ℕ → VarHead → Head
head_at bytes h = record { type = text_at bytes h.kind; size = h.size; code = text_at bytes h.code }

-- what stands after a section that was read
abbrev pub stated_header : Section → List (List ℕ) → List variables.Declared → List ℕ
    → Result Header Fault
stated_header (Ended end) scopes vars bytes = Ok (vars, tokens_at bytes end)
stated_header (Opened name end) scopes vars bytes =
    header (scopes ++ text_at bytes name ∷ []) vars (tokens_at bytes end)
stated_header (Closed end) scopes vars bytes =
    header (outer_scopes scopes) vars (tokens_at bytes end)
stated_header (Declared v end) scopes vars bytes =
    header scopes (vars ++ declaration_in scopes v ∷ []) (tokens_at bytes end)
stated_header (Skipped end) scopes vars bytes = header scopes vars (tokens_at bytes end)

abbrev pub end_of : Section → ℕ
end_of (Ended end) = end
end_of (Opened name end) = end
end_of (Closed end) = end
end_of (Declared v end) = end
end_of (Skipped end) = end

abbrev pub IsInside : Section → ℕ → Type 0
IsInside (Opened name end) len = name.end ≤ len
IsInside s len = Unit {0}

-- a variable that was read has this place
abbrev pub IsAt : ℕ → Section → Type 0
IsAt place (Declared v end) = v.scope ≡ place
IsAt place s = Unit {0}
