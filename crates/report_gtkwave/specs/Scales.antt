-- In which unit GTKWave counts the time of a dump: that of its $timescale, without the number 1, 10
-- or 100 there (IEEE 1364-2005, clause 18.2.3.5).
use Rattle.std.specs.Prelude.{ℕ, List, [], ◌∷◌, if◌then◌else◌, codes, nat_eq, drop}
use Rattle.std.specs.Prelude.{Option, Some, None, unwrap_or}
use Rattle.std.specs.List.{starts_with}
use Rattle.vcd_reader.specs.Tokens.{is_separator}

-- the number that a text begins with
abbrev pub begun_scale : List ℕ → ℕ
begun_scale bytes =
    if starts_with nat_eq bytes (codes "100") then 100
    else if starts_with nat_eq bytes (codes "10") then 10
    else 1

-- the same after what separates it from its word
abbrev pub scale_after : List ℕ → ℕ
scale_after [] = 1
scale_after (b ∷ bytes) = if is_separator b then scale_after bytes else begun_scale (b ∷ bytes)

-- the number of the $timescale with which a text begins, if it begins with one
abbrev pub scale_at : List ℕ → Option ℕ
scale_at bytes =
    if starts_with nat_eq bytes (codes "$timescale") then Some (scale_after (drop 10 bytes))
    else None

-- the number of the first $timescale, 1 where there is none
abbrev pub scale_in : List ℕ → ℕ
scale_in [] = 1
scale_in (b ∷ bytes) = unwrap_or (scale_at (b ∷ bytes)) (scale_in bytes)
