-- Codes of up to four bytes as numbers.
use Rattle.std.specs.Prelude.{◌≡◌, ℕ, ◌/◌, ◌%◌, ◌<◌, nat_lt, List, [], ◌∷◌, Some, if◌then◌else◌}
use Rattle.std.specs.Prelude.{get_or}
use Rattle.vcd_reader.specs.declared.codes.Entry.{Entry}
use Rattle.vcd_reader.specs.Variables.{place_of}

-- the bytes of a number, the lowest first
unfoldable pub unpacked_code : ℕ → List ℕ
unpacked_code n =
    if nat_lt n 256 then n ∷ []
    else (if nat_lt n 65536 then n % 256 ∷ n / 256 ∷ []
    else (if nat_lt n 16777216 then n % 256 ∷ n / 256 % 256 ∷ n / 65536 ∷ []
    else n % 256 ∷ n / 256 % 256 ∷ n / 65536 % 256 ∷ n / 16777216 ∷ []))

abbrev pub no_entry : Entry
no_entry = record { packed = 0; number = 0 }

-- an entry has the number of its code
abbrev pub IsKnown : List (List ℕ) → Entry → Type 0
IsKnown texts e = 0 < e.packed → place_of texts (unpacked_code e.packed) ≡ Some e.number

abbrev pub AreKnown : List (List ℕ) → List Entry → Type 0
AreKnown texts es = (i : ℕ) → IsKnown texts (get_or es i no_entry)
