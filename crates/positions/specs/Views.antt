-- What the tables in code stand for.
use Rattle.std.specs.Prelude.{ℕ, ◌+◌, ◌<◌, List, map, All, Vec}
use Rattle.std.specs.Global.{Global}
use Rattle.positions.specs.declared.edge.Edge as code
use Rattle.positions.specs.declared.change.Change as of
use Rattle.positions.specs.Tables.{Edge}
use Rattle.positions.specs.Rows.{ChangeData}

abbrev pub edge_data : code.Edge → Edge ℕ
edge_data e = record { wanted = e.wanted.items; enters = e.enters.items; accepts = e.accepts }

abbrev pub change_data : of.Change → ChangeData
change_data c =
    record { wanted = c.wanted; by = c.by; onward = c.onward.items; keeps = c.keeps }

-- What the edges of rows enter is less than a byte holds, so much further on.
abbrev pub IsNear : ℕ → code.Edge → Type 0
IsNear by e = All (λ q. by + q < 256) e.enters.items

abbrev pub AreNear : ℕ → List code.Edge → Type 0
AreNear by es = All (IsNear by) es

abbrev pub edges_data : Vec code.Edge Global → List (Edge ℕ)
edges_data row = map edge_data row.items

abbrev pub rows_data : List (Vec code.Edge Global) → List (List (Edge ℕ))
rows_data rows = map edges_data rows

-- What edges enter is below a number.
abbrev pub EntersBelow : ℕ → code.Edge → Type 0
EntersBelow n e = All (λ q. q < n) e.enters.items

abbrev pub EnterBelow : ℕ → List code.Edge → Type 0
EnterBelow n es = All (EntersBelow n) es
