-- Names as they stand (IEEE 1800-2017, 5.6.1).
use Rattle.std.specs.Prelude.{ℕ, List, [], ◌∷◌, if◌then◌else◌, ◌==◌}

-- a name without the backslash with which it may begin
abbrev pub plain_name : List ℕ → List ℕ
plain_name [] = []
plain_name (b ∷ bs) = if b == 92 then bs else b ∷ bs
