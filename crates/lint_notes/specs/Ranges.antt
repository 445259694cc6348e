-- Declared ranges: the bits of [first:last] count from 0 at `last`, whichever is larger.
use Rattle.std.specs.Prelude.{ℕ, ◌+◌, ◌-◌, Option, Some, None, nat_le, nat_lt, ◌&&◌, if◌then◌else◌}
use Rattle.lint_notes.specs.declared.range.Range.{Range}

-- the place of a declared bit
abbrev pub place_of : Range → ℕ → Option ℕ
place_of r i =
    if nat_le r.last i && nat_le i r.first then Some (i - r.last)
    else (if nat_le r.first i && nat_le i r.last then Some (r.last - i) else None)

-- the declared bit at a place
abbrev pub index_at : Range → ℕ → Option ℕ
index_at r place =
    if nat_le r.last r.first && nat_le place (r.first - r.last) then Some (r.last + place)
    else (if nat_lt r.first r.last && nat_le place (r.last - r.first) then Some (r.last - place)
    else None)
