-- What tables enter fits a byte, also further on.
use Rattle.std.proofs.Common.{◌≡◌, ℕ, zero, suc, ◌+◌, ◌<◌, ◌≤◌, List, [], ◌∷◌, length, sym, subst, arith, Vec}
use Rattle.std.specs.Prelude.{map, All}
use Rattle.std.specs.Global.{Global}
use Rattle.positions.specs.declared.edge.Edge as code
use Rattle.positions.specs.Tables.{Edge, EachOf}
use Rattle.positions.specs.Views.{edge_data, edges_data, rows_data, IsNear, AreNear, EntersBelow, EnterBelow}
use Rattle.positions.specs.Rows.{TableData, IsClosedTable, edges_at}
use Rattle.positions.proofs.Lists.{EachOf-each}

pub EachOf-All : {A : Type 0} (P : A → Type 0) (xs : List A) → EachOf P xs → All P xs
EachOf-All P [] each k d below = absurd (omega arith)
EachOf-All P (x ∷ xs) each zero d below = each.0
EachOf-All P (x ∷ xs) each (suc k) d below = EachOf-All P xs each.1 k d (omega arith)

map-EachOf : {A C : Type 0} (P : C → Type 0) (f : A → C) (xs : List A) → EachOf P (map f xs) → EachOf (λ x. P (f x)) xs
map-EachOf P f [] h = tt
map-EachOf P f (x ∷ xs) h = (h.0, map-EachOf P f xs h.1)

pub near_list : (by n : ℕ) (qs : List ℕ) → EachOf (λ q. q < n) qs → by + n ≤ 256 → All (λ q. by + q < 256) qs
near_list by n qs each le =
    EachOf-All (λ q. by + q < 256) qs (EachOf-each (λ q. q < n) (λ q. by + q < 256) qs (λ q below. omega arith) each)

near_row : (by n : ℕ) (es : List code.Edge) → EachOf (λ (e : Edge ℕ). EachOf (λ q. q < n) e.enters) (map edge_data es)
    → by + n ≤ 256 → AreNear by es
near_row by n es each le =
    EachOf-All (IsNear by) es (EachOf-each (λ (e : code.Edge). EachOf (λ q. q < n) e.enters.items) (IsNear by) es
    (λ e near. near_list by n e.enters.items near le)
    (map-EachOf (λ (e : Edge ℕ). EachOf (λ q. q < n) e.enters) edge_data es each))

pub near_rows : (by : ℕ) (rows : List (Vec code.Edge Global)) (d : TableData) → rows_data rows ≡ d.rows
    → IsClosedTable d →
    by + length d.rows ≤ 256 → All (λ row. AreNear by row.items) rows
near_rows by rows d same placed le =
    let n : ℕ = length d.rows in
    EachOf-All (λ row. AreNear by row.items) rows
    (EachOf-each (λ row. EachOf (λ (e : Edge ℕ). EachOf (λ q. q < n) e.enters) (edges_data row))
    (λ row. AreNear by row.items) rows
    (λ row each. near_row by n row.items each le)
    (map-EachOf (λ row. EachOf (λ (e : Edge ℕ). EachOf (λ q. q < n) e.enters) row) edges_data rows
    (subst (λ xs. EachOf (λ row. EachOf (λ (e : Edge ℕ). EachOf (λ q. q < n) e.enters) row) xs) (sym same)
    placed.enters)))

pub below_rows : (n : ℕ) (rows : List (Vec code.Edge Global)) (d : TableData) → rows_data rows ≡ d.rows
    → IsClosedTable d →
    length d.rows ≡ n → All (λ row. EnterBelow n row.items) rows
below_rows n rows d same placed is =
    let here =
    subst (λ k. EachOf (λ row. EachOf (λ (e : Edge ℕ). EachOf (λ q. q < k) e.enters) row) d.rows) is placed.enters
    in
    EachOf-All (λ row. EnterBelow n row.items) rows
    (EachOf-each (λ row. EachOf (λ (e : Edge ℕ). EachOf (λ q. q < n) e.enters) (edges_data row))
    (λ row. EnterBelow n row.items) rows
    (λ row each. below_row row.items each)
    (map-EachOf (λ row. EachOf (λ (e : Edge ℕ). EachOf (λ q. q < n) e.enters) row) edges_data rows
    (subst (λ xs. EachOf (λ row. EachOf (λ (e : Edge ℕ). EachOf (λ q. q < n) e.enters) row) xs) (sym same) here)))
  where
    below_row : (es : List code.Edge) → EachOf (λ (e : Edge ℕ). EachOf (λ q. q < n) e.enters) (map edge_data es)
        → EnterBelow n es
    below_row es each =
        EachOf-All (EntersBelow n) es
        (EachOf-each (λ (e : code.Edge). EachOf (λ q. q < n) e.enters.items) (EntersBelow n) es
        (λ e below. EachOf-All (λ q. q < n) e.enters.items below)
        (map-EachOf (λ (e : Edge ℕ). EachOf (λ q. q < n) e.enters) edge_data es each))

pub near_starts : (by : ℕ) (qs : List ℕ) (d : TableData) → qs ≡ d.starts → IsClosedTable d → by + length d.rows ≤ 256
    → All (λ q. by + q < 256) qs
near_starts by qs d same placed le =
    subst (λ xs. All (λ q. by + q < 256) xs) (sym same) (near_list by (length d.rows) d.starts placed.starts le)

row_at-each : (P : List (Edge ℕ) → Type 0) (rows : List (List (Edge ℕ))) (p : ℕ) → P [] → EachOf P rows
    → P (edges_at rows p)
row_at-each P [] p none each = none
row_at-each P (row ∷ rows) zero none each = each.0
row_at-each P (row ∷ rows) (suc p) none each = row_at-each P rows p none each.1

pub near_row_at : (by p : ℕ) (es : List code.Edge) (d : TableData) → map edge_data es ≡ edges_at d.rows p
    → IsClosedTable d →
    by + length d.rows ≤ 256 → AreNear by es
near_row_at by p es d same placed le =
    let P : List (Edge ℕ) → Type 0 = λ row. EachOf (λ (e : Edge ℕ). EachOf (λ q. q < length d.rows) e.enters) row in
    near_row by (length d.rows) es (subst P (sym same) (row_at-each P d.rows p tt placed.enters)) le
