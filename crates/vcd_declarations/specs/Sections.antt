-- A dump's tokens as texts, and the sections that they are: each from its word up to $end (IEEE
-- 1364-2005, clause 18.2.1).
use Rattle.std.specs.Prelude.{ℕ, List, [], ◌∷◌, map, if◌then◌else◌}
use Rattle.vcd_reader.specs.Tokens.{tokens}
use Rattle.vcd_reader.specs.Header.{is_end}

-- the texts of the tokens
unfoldable pub texts : List ℕ → List (List ℕ)
texts bytes = map (λ t. t.text) (tokens 0 bytes)

-- the sections with one more text at the front of the first
abbrev pub with_text : List ℕ → List (List (List ℕ)) → List (List (List ℕ))
with_text t [] = []
with_text t (s ∷ ss) = (t ∷ s) ∷ ss

-- the texts of each section, without its $end; those that no $end follows are no section
unfoldable pub sections : List (List ℕ) → List (List (List ℕ))
sections [] = []
sections (t ∷ ts) = if is_end t then [] ∷ sections ts else with_text t (sections ts)
