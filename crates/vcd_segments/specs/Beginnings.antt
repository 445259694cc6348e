-- What the first bytes of a dump say, whatever follows them (own).
use Rattle.std.specs.Prelude.{◌≡◌, ℕ, suc, ◌≤◌, List, [], ◌∷◌, ◌++◌, length, drop, true, Result, Ok}
use Rattle.std.specs.Prelude.{Err}
use Rattle.vcd_reader.specs.declared.fault.Fault.{Fault}
use Rattle.vcd_reader.specs.declared.fault.Fault.TheVariants.{UnclosedSection, Truncated}
use Rattle.vcd_reader.specs.Faults.{◌>>=◌}
use Rattle.vcd_reader.specs.Tokens.{DumpToken, is_separator, tokens}
use Rattle.vcd_reader.specs.Variables.{Declared, codes_of}
use Rattle.vcd_reader.specs.Header.{Header, header}
use Rattle.vcd_reader.specs.Body.{Rest}
use Rattle.vcd_reader.specs.Dump.{Contents, dump_of}
use Rattle.vcd_segments.specs.Pieces.{Between, Stand, stand, Event, tokens_told, ended, with_events}
use Rattle.vcd_segments.specs.Pieces.{body_at}

-- What a header is with more tokens: it ends where it ended, with more behind it. A fault stays,
-- but for the end of the input.
abbrev pub IsMore : List DumpToken → Result Header Fault → Result Header Fault → Type 0
IsMore us (Ok h) more = more ≡ Ok (h.0, h.1 ++ us)
IsMore us (Err Truncated) more = Unit {0}
IsMore us (Err (UnclosedSection word)) more = Unit {0}
IsMore us (Err f) more = more ≡ Err f

-- what a dump says of which these variables and this body were read: the first step is at time 0
abbrev pub contents_with : List Declared → Rest → Contents
contents_with vs r = record {
  variables = vs;
  steps = record { time = 0; changes = r.0 } ∷ r.1;
}

-- The bytes begin a dump: whatever follows them, its header declares these variables, its body told
-- these events so far, and stands there.
pub record IsBegun (bytes : List ℕ) (vs : List Declared) (es : List Event) (s : Stand) : Type 0
  where
    pub says : (more : List ℕ) → dump_of (bytes ++ more)
        ≡ (body_at (codes_of vs) (length (bytes ++ more)) s (tokens (length bytes) more)
        >>= λ r. Ok (contents_with vs (with_events es r)))

-- The header ends in these bytes, and what stands behind it there told these events.
pub record HasBegun (bytes : List ℕ) (vs : List Declared) (es : List Event) (s : Stand) : Type 0
  where
    pub end : ℕ
    pub inside : end ≤ length bytes
    pub declares : header [] [] (tokens 0 bytes) ≡ Ok (vs, tokens end (drop end bytes))
    pub tells : tokens_told (codes_of vs) 0 (stand Between 0 0) (tokens end (drop end bytes))
        ≡ Ok (es, s)

-- A dump begins with bytes that have its whole header.
abbrev pub DumpBegins : Type 0
DumpBegins =
    (bytes : List ℕ) (byte : ℕ) (vs : List Declared) (es : List Event) (s : Stand)
    → is_separator byte ≡ true → HasBegun bytes vs es s → IsBegun (bytes ++ byte ∷ []) vs es s

-- It goes on with a piece that has no fault. No token of a piece is the input's last one, so its
-- length doesn't matter.
abbrev pub DumpGoesOn : Type 0
DumpGoesOn =
    (bytes piece : List ℕ) (byte : ℕ) (vs : List Declared) (es fs : List Event) (s t : Stand)
    → IsBegun bytes vs es s → is_separator byte ≡ true
    → tokens_told (codes_of vs) 0 s (tokens (length bytes) piece) ≡ Ok (fs, t)
    → IsBegun (bytes ++ (piece ++ byte ∷ [])) vs (es ++ fs) t

-- The fault of a piece is that of the dump, whatever follows.
abbrev pub DumpFails : Type 0
DumpFails =
    (bytes piece : List ℕ) (byte : ℕ) (vs : List Declared) (es : List Event) (s : Stand) (f : Fault)
    → IsBegun bytes vs es s → is_separator byte ≡ true
    → tokens_told (codes_of vs) 0 s (tokens (length bytes) piece) ≡ Err f
    → (more : List ℕ) → dump_of (bytes ++ (piece ++ byte ∷ more)) ≡ Err f

-- It ends with a last piece.
abbrev pub DumpEnds : Type 0
DumpEnds =
    (bytes last : List ℕ) (vs : List Declared) (es : List Event) (s : Stand)
    → IsBegun bytes vs es s
    → dump_of (bytes ++ last)
    ≡ (tokens_told (codes_of vs) (length (bytes ++ last)) s (tokens (length bytes) last)
    >>= λ p. ended p.1.place >>= λ r. Ok (contents_with vs (with_events (es ++ p.0) r)))

-- A fault of the header stays, but for the end of the input.
abbrev pub HeaderFails : Type 0
HeaderFails =
    (bytes : List ℕ) (byte : ℕ) (more : List ℕ) → is_separator byte ≡ true
    → IsMore (tokens (suc (length bytes)) more) (header [] [] (tokens 0 bytes))
    (header [] [] (tokens 0 (bytes ++ byte ∷ more)))
