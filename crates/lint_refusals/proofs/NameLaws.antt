-- Names among others.
use Rattle.std.proofs.Common.{◌≡◌, ◌||◌, ℕ, Bool, List, [], ◌∷◌, map, refl, ap}
use Rattle.std.specs.Prelude.{String, string_bytes}
use Rattle.std.specs.List.{list_any}
use Rattle.std.specs.Str.{bytes_eq}
use Rattle.std.specs.declared.alloc.Global.{Global}

-- a word among names, by their bytes
pub any-mapped : (word : List ℕ) (names : List (String Global))
    → list_any (bytes_eq word) (map string_bytes names)
    ≡ list_any (λ (name : String Global). bytes_eq word (string_bytes name)) names
any-mapped word [] = refl
any-mapped word (name ∷ names) =
    ap (λ (b : Bool). bytes_eq word (string_bytes name) || b) (any-mapped word names)
