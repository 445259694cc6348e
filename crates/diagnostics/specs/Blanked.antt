-- Texts of which a part is blanked, byte for byte, so that all places stay.
use Rattle.std.specs.Prelude.{ℕ, ◌-◌, ◌++◌, List, map, take, drop, if◌then◌else◌}
use Rattle.diagnostics.specs.Places.{is_feed}

-- what stands for a byte that is blanked: a line feed stays
abbrev pub blank_for : ℕ → ℕ
blank_for b = if is_feed b then 10 else 32

-- the text with the bytes from `start` up to `end` blanked
abbrev pub blanked : List ℕ → ℕ → ℕ → List ℕ
blanked text start end =
    take start text ++ map blank_for (take (end - start) (drop start text)) ++ drop end text
