-- The texts of files, joined, and where their bytes stand.
use Rattle.std.specs.Prelude.{◌≡◌, ℕ, ◌+◌, ◌≤◌, List, [], ◌∷◌, ◌++◌, length, take, sum_by}
use Rattle.std.specs.Prelude.{slice_get, IfSome, string_bytes}
use Rattle.std.specs.List.{flat_map}
use Rattle.source_files.specs.declared.part.Part.{Part}

abbrev pub text_of : Part → List ℕ
text_of p = string_bytes p.text

-- a line feed, and a text
abbrev pub after_feed : Part → List ℕ
after_feed p = 10 ∷ text_of p

-- one text after another, a line feed between
abbrev pub joined : List Part → List ℕ
joined [] = []
joined (p ∷ ps) = text_of p ++ flat_map after_feed ps

-- how many bytes some texts have, each with a line feed after it
abbrev pub size_of : List Part → ℕ
size_of ps = sum_by (λ p. length (text_of p) + 1) ps

-- A byte of the joined text is that byte of that part, or its end, where the line feed stands.
pub record IsSpot (ps : List Part) (at part byte : ℕ) : Type 0 where
  pub sum : size_of (take part ps) + byte ≡ at
  pub inside : IfSome (slice_get ps part) (λ p. byte ≤ length (text_of p))
