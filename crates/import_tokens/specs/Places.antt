-- Lines and columns, both counted from 1.
use Rattle.std.specs.Prelude.{ℕ, suc, List, ◌==◌, if◌then◌else◌}
use Rattle.std.specs.List.{fold}

-- the line of what stands after the bytes: one more than there are line feeds in them
abbrev pub line_of : List ℕ → ℕ
line_of bytes = fold (λ line b. if b == 10 then suc line else line) 1 bytes

-- its column: one more than there are bytes after the last line feed
abbrev pub column_of : List ℕ → ℕ
column_of bytes = fold (λ column b. if b == 10 then 1 else suc column) 1 bytes
