-- Keys of texts.
use Rattle.std.specs.Prelude.{ℕ, ◌+◌, ◌*◌, ◌%◌, ◌^◌, List, [], ◌∷◌}

-- a key of a text, which several texts may share, after a text with the key n
unfoldable pub key_from : ℕ → List ℕ → ℕ
key_from n [] = n
key_from n (b ∷ bs) = key_from ((n * 1099511628211 % 2 ^ 64 + b) % 2 ^ 64) bs

abbrev pub key_of : List ℕ → ℕ
key_of text = key_from 0 text
