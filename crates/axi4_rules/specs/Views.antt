-- What a clause sees of texts and lists in memory.
use Rattle.std.specs.Prelude.{◌≡◌, ℕ, List, ◌++◌, map, Option, string_bytes}
use Rattle.std.specs.Borrow.{Bor}
use Rattle.std.specs.Prelude.{String}
use Rattle.std.specs.Global.{Global, Vec}
use Rattle.std.specs.Option.{option_map}

abbrev pub texts_of : List (Bor (List ℕ)) → List (List ℕ)
texts_of ts = map (λ t. t.now) ts

abbrev pub text_in : Option (Bor (List ℕ)) → Option (List ℕ)
text_in o = option_map (λ t. t.now) o

abbrev pub items_in : Option (Vec ℕ) → Option (List ℕ)
items_in o = option_map (λ v. v.items) o

-- a text that grew by a piece
abbrev pub Appends : String Global → String Global → List ℕ → Type 0
Appends old new piece = string_bytes new ≡ string_bytes old ++ piece
