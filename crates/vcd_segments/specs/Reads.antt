-- A dump that is read in chunks, each as a body of its own (own).
use Rattle.std.specs.Prelude.{◌≡◌, ℕ, ◌+◌, List, [], ◌∷◌, ◌++◌, length, Bool, true, false, Ok, Err}
use Rattle.vcd_reader.specs.declared.fault.Fault.{Fault}
use Rattle.vcd_reader.specs.declared.fault.Fault.TheVariants.{UnclosedSection, Truncated}
use Rattle.vcd_reader.specs.Tokens.{is_separator, tokens}
use Rattle.vcd_reader.specs.Variables.{Declared, codes_of}
use Rattle.vcd_reader.specs.Dump.{dump_of}
use Rattle.vcd_segments.specs.Pieces.{Between, Stand, stand, Event, tokens_told, body_at}
use Rattle.vcd_segments.specs.Beginnings.{IsBegun}
use Rattle.vcd_segments.specs.Steps.{blank_step, closed_by, open_behind}
use Rattle.vcd_segments.specs.Shifts.{moved_fault}

-- a fault that more bytes may take away: the input ends inside an item
abbrev pub is_at_end : Fault → Bool
is_at_end Truncated = true
is_at_end (UnclosedSection word) = true
is_at_end f = false

-- After bytes that begin a dump, and end between two items, come a chunk that does so, too.
abbrev pub ChunkGoesOn : Type 0
ChunkGoesOn =
    (bytes piece : List ℕ) (byte : ℕ) (vs : List Declared) (es fs : List Event) (count now : ℕ)
    (t : Stand) → IsBegun bytes vs es (stand Between count now) → is_separator byte ≡ true
    → tokens_told (codes_of vs) (length (piece ++ byte ∷ [])) (stand Between count now)
    (tokens 0 (piece ++ byte ∷ [])) ≡ Ok (fs, t)
    → t.place ≡ Between → IsBegun (bytes ++ (piece ++ byte ∷ [])) vs (es ++ fs) t

-- A fault that a chunk has as a body of its own, but that of its end, is the dump's, as far behind
-- as the chunk stands, whatever follows.
abbrev pub ChunkFails : Type 0
ChunkFails =
    (bytes piece : List ℕ) (byte : ℕ) (vs : List Declared) (es : List Event) (count now : ℕ)
    (f : Fault) → IsBegun bytes vs es (stand Between count now) → is_separator byte ≡ true
    → body_at (codes_of vs) (length (piece ++ byte ∷ [])) (stand Between count now)
    (tokens 0 (piece ++ byte ∷ [])) ≡ Err f
    → is_at_end f ≡ false
    → (more : List ℕ)
    → dump_of (bytes ++ (piece ++ byte ∷ more)) ≡ Err (moved_fault (length bytes) f)

-- The last chunk ends the dump: it says all steps that were closed, and the open one.
abbrev pub LastChunkEnds : Type 0
LastChunkEnds =
    (bytes last : List ℕ) (vs : List Declared) (es fs : List Event) (count now : ℕ) (t : Stand)
    → IsBegun bytes vs es (stand Between count now)
    → tokens_told (codes_of vs) (length last) (stand Between count now) (tokens 0 last)
    ≡ Ok (fs, t)
    → t.place ≡ Between
    → dump_of (bytes ++ last) ≡ Ok (record {
      variables = vs;
      steps = closed_by (blank_step 0) (es ++ fs)
          ++ open_behind (blank_step 0) (es ++ fs) ∷ [];
    })

-- Or it has the dump's fault.
abbrev pub LastChunkFails : Type 0
LastChunkFails =
    (bytes last : List ℕ) (vs : List Declared) (es : List Event) (count now : ℕ) (f : Fault)
    → IsBegun bytes vs es (stand Between count now)
    → body_at (codes_of vs) (length last) (stand Between count now) (tokens 0 last) ≡ Err f
    → dump_of (bytes ++ last) ≡ Err (moved_fault (length bytes) f)
