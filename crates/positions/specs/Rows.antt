-- Tables as lists: for each position a list of edges, each made from another.
use Rattle.std.specs.Prelude.{ℕ, zero, suc, ◌+◌, ◌*◌, ◌-◌, ◌<◌, ◌≤◌, ◌==◌, nat_le}
use Rattle.std.specs.Prelude.{Bool, true, false, ◌&&◌, ◌||◌, List}
use Rattle.std.specs.Prelude.{[], ◌∷◌, ◌++◌, length, map, Option, None, sum_by}
use Rattle.std.specs.Prelude.{slice_get, slice_index_or, unwrap_or, min, if◌then◌else◌}
use Rattle.std.specs.List.{flat_map}
use Rattle.positions.specs.Tables.{Edge, Table, EachOf, shift, picked_if, numbers_from}
use Rattle.positions.specs.Tables.{products}
use Rattle.positions.specs.Tables.{coupled}
use Rattle.positions.specs.Living.{lives_for, is_among, led_to, sift, sifted_edge}
use Rattle.positions.specs.Sections.{edge_size, with_atom, coded, rows_from}

-- Positions in order, each by its edges; those that begin; whether an empty match is there.
pub record TableData : Type 0 where
  pub rows : List (List (Edge ℕ))
  pub starts : List ℕ
  pub empty : Bool

-- a table's rows by their atoms
abbrev pub listed : {B : Type 0} → (B → Option ℕ) → Table B → TableData
listed atom t =
    record { rows = rows_from (coded atom t) 0 t.size; starts = t.starts; empty = t.empty }

-- What becomes of an edge: it may want one more atom, what it enters is so much further on, and
-- where it accepts it also goes on to others, and accepts still or not.
pub record ChangeData : Type 0 where
  pub wanted : Option ℕ
  pub by : ℕ
  pub onward : List ℕ
  pub keeps : Bool

abbrev pub changed : ChangeData → Edge ℕ → Edge ℕ
changed c e = record {
  wanted = with_atom c.wanted e.wanted;
  enters = shift c.by e.enters ++ picked_if e.accepts c.onward;
  accepts = e.accepts && c.keeps;
}

abbrev pub change_all : ChangeData → List (List (Edge ℕ)) → List (List (Edge ℕ))
change_all c rows = map (map (changed c)) rows

-- the positions are so much further on
abbrev pub moved : ℕ → ChangeData
moved by = record { wanted = None; by = by; onward = []; keeps = true }

-- how many instructions the block of a position has, and those of all of them
abbrev pub edges_size : List (Edge ℕ) → ℕ
edges_size es = sum_by edge_size es

abbrev pub row_size : List (Edge ℕ) → ℕ
row_size es = edges_size es + 1

abbrev pub rows_size : List (List (Edge ℕ)) → ℕ
rows_size rows = sum_by row_size rows

-- Rows in the making: those that are done, and the edges of the next.
pub record DraftData : Type 0 where
  pub rows : List (List (Edge ℕ))
  pub begun : List (Edge ℕ)

abbrev pub draft_size : DraftData → ℕ
draft_size d = rows_size d.rows + edges_size d.begun

-- more edges of the next row; it is done; whole rows after those that are done
abbrev pub with_edges : DraftData → List (Edge ℕ) → DraftData
with_edges d es = record { rows = d.rows; begun = d.begun ++ es }

abbrev pub closed : DraftData → DraftData
closed d = record { rows = d.rows ++ d.begun ∷ []; begun = [] }

abbrev pub with_rows : DraftData → List (List (Edge ℕ)) → DraftData
with_rows d rows = record { rows = d.rows ++ rows; begun = [] }

-- one tick, at which an atom is 1
abbrev pub tick_data : Option ℕ → TableData
tick_data wanted = record {
  rows = (record { wanted = with_atom wanted []; enters = []; accepts = true } ∷ []) ∷ [];
  starts = 0 ∷ [];
  empty = false;
}

-- no position
abbrev pub still_data : Bool → TableData
still_data empty = record { rows = []; starts = []; empty = empty }

abbrev pub either_data : TableData → TableData → TableData
either_data t u = record {
  rows = change_all (moved 0) t.rows ++ change_all (moved (length t.rows)) u.rows;
  starts = t.starts ++ shift (length t.rows) u.starts;
  empty = t.empty || u.empty;
}

-- each edge wants one more atom
abbrev pub wanting_also : Option ℕ → ChangeData
wanting_also wanted = record { wanted = wanted; by = 0; onward = []; keeps = true }

abbrev pub during_data : Option ℕ → TableData → TableData
during_data wanted t =
    record { rows = change_all (wanting_also wanted) t.rows; starts = t.starts; empty = t.empty }

-- where a match of t ends: the first positions of g, and past an empty g those of u
abbrev pub onward_data : TableData → TableData → TableData → List ℕ
onward_data t g u =
    shift (length t.rows) g.starts
    ++ picked_if g.empty (shift (length t.rows + length g.rows) u.starts)

abbrev pub leading_data : Bool → TableData → TableData → TableData → ChangeData
leading_data follows t g u = record {
  wanted = None;
  by = 0;
  onward = picked_if follows (onward_data t g u);
  keeps = follows && (g.empty && u.empty);
}

abbrev pub crossing_data : TableData → TableData → TableData → ChangeData
crossing_data t g u = record {
  wanted = None;
  by = length t.rows;
  onward = shift (length t.rows + length g.rows) u.starts;
  keeps = u.empty;
}

-- the edges of a position
abbrev pub edges_at : List (List (Edge ℕ)) → ℕ → List (Edge ℕ)
edges_at rows p = unwrap_or (slice_get rows p) []

-- an edge that does at its tick what another does
abbrev pub joined_data : ℕ → Edge ℕ → Edge ℕ → Edge ℕ
joined_data by e f = record {
  wanted = e.wanted ++ f.wanted;
  enters = shift by f.enters;
  accepts = f.accepts;
}

abbrev pub fused_data : ℕ → TableData → Edge ℕ → List (Edge ℕ)
fused_data by u e = flat_map (λ q. map (joined_data by e) (edges_at u.rows q)) u.starts

abbrev pub lead_data : Bool → ChangeData → ℕ → TableData → Edge ℕ → List (Edge ℕ)
lead_data fuses c by u e = changed c e ∷ picked_if (e.accepts && fuses) (fused_data by u e)

abbrev pub link_data : Bool → Bool → TableData → TableData → TableData → TableData
link_data fuses follows t g u = record {
  rows =
      map
      (flat_map (lead_data fuses (leading_data follows t g u) (length t.rows + length g.rows) u))
      t.rows
      ++ change_all (crossing_data t g u) g.rows
      ++ change_all (moved (length t.rows + length g.rows)) u.rows;
  starts = t.starts ++ picked_if (follows && t.empty) (onward_data t g u);
  empty = follows && (t.empty && (g.empty && u.empty));
}

-- So many copies of t, from the first one on: the first positions of the next, or of each where t
-- may be empty.
abbrev pub copies_data : TableData → ℕ → ℕ → List ℕ
copies_data t first most =
    flat_map (λ c. shift (c * length t.rows) t.starts)
    (numbers_from first (if t.empty then most - first else min 1 (most - first)))

abbrev pub turn_data : TableData → ℕ → ℕ → ℕ → ChangeData
turn_data t least most c = record {
  wanted = None;
  by = c * length t.rows;
  onward = copies_data t (c + 1) most;
  keeps = nat_le least most && (nat_le least (c + 1) || t.empty);
}

abbrev pub repeat_data : TableData → ℕ → ℕ → TableData
repeat_data t least most = record {
  rows = flat_map (λ c. change_all (turn_data t least most c) t.rows) (numbers_from 0 most);
  starts = copies_data t 0 most;
  empty = nat_le least most && (least == 0 || t.empty);
}

-- pairs of positions, by their numbers
abbrev pub pairs_data : ℕ → List ℕ → List ℕ → List ℕ
pairs_data size xs ys = flat_map (λ x. shift (x * size) ys) xs

-- where each of two edges leads to alone, where the tables have so many positions
abbrev pub lone_data : ℕ → ℕ → Edge ℕ → Edge ℕ → List ℕ
lone_data n m e f =
    picked_if f.accepts (shift (n * m) e.enters) ++ picked_if e.accepts (shift (n * m + n) f.enters)

-- two edges at once
abbrev pub paired_data : ℕ → ℕ → Edge ℕ → Edge ℕ → Edge ℕ
paired_data n m e f = record {
  wanted = e.wanted ++ f.wanted;
  enters = pairs_data m e.enters f.enters ++ lone_data n m e f;
  accepts = e.accepts && f.accepts;
}

abbrev pub pair_row : ℕ → ℕ → List (Edge ℕ) → List (Edge ℕ) → List (Edge ℕ)
pair_row n m es fs = flat_map (λ e. map (paired_data n m e) fs) es

abbrev pub both_data : TableData → TableData → TableData
both_data t u =
    let n : ℕ = length t.rows in
    let m : ℕ = length u.rows in
    record {
      rows =
          flat_map (λ es. map (pair_row n m es) u.rows) t.rows
          ++ change_all (moved (n * m)) t.rows
          ++ change_all (moved (n * m + n)) u.rows;
      starts =
          pairs_data m t.starts u.starts
          ++ (picked_if u.empty (shift (n * m) t.starts)
          ++ picked_if t.empty (shift (n * m + n) u.starts));
      empty = t.empty && u.empty;
    }

-- the pairs alone, where the second table has so many positions
abbrev pub couple_row : ℕ → List (Edge ℕ) → List (Edge ℕ) → List (Edge ℕ)
couple_row size es fs = flat_map (λ e. map (coupled size e) fs) es

-- two edges at once, where each also goes on alone or not
abbrev pub joint_data : Bool → ℕ → ℕ → Edge ℕ → Edge ℕ → Edge ℕ
joint_data true n m = paired_data n m
joint_data false n m = coupled m

abbrev pub joint_row : Bool → ℕ → ℕ → List (Edge ℕ) → List (Edge ℕ) → List (Edge ℕ)
joint_row alone n m es fs = flat_map (λ e. map (joint_data alone n m e) fs) es

abbrev pub pair_data : TableData → TableData → TableData
pair_data t u = record {
  rows = flat_map (λ es. map (couple_row (length u.rows) es) u.rows) t.rows;
  starts = products (length u.rows) t.starts u.starts;
  empty = t.empty && u.empty;
}

-- whether a list has a mark at a place; one that isn't there is none
abbrev pub is_marked_at : List Bool → ℕ → Bool
is_marked_at marks p = slice_index_or marks p false

-- the positions of these rows that may still come to an end
abbrev pub lives_in : List (List (Edge ℕ)) → ℕ → Bool
lives_in rows p = lives_for (length rows) (edges_at rows) (length rows) p

-- the positions of a table that something leads to, and that may still come to an end
abbrev pub kept_in : TableData → ℕ → Bool
kept_in t p =
    lives_in t.rows p && is_among (led_to t.starts (edges_at t.rows) (length t.rows)) p

-- what is kept of the first so many rows
abbrev pub kept_rows : (ℕ → Bool) → List (List (Edge ℕ)) → ℕ → List (List (Edge ℕ))
kept_rows keeps rows zero = []
kept_rows keeps rows (suc n) =
    kept_rows keeps rows n ++ picked_if (keeps n) (map (sifted_edge keeps) (edges_at rows n) ∷ [])

abbrev pub sift_data : TableData → TableData
sift_data t = record {
  rows = kept_rows (kept_in t) t.rows (length t.rows);
  starts = sift (kept_in t) t.starts;
  empty = t.empty;
}

-- Few positions, and what is entered is there.
pub record IsClosedTable (d : TableData) : Type 0 where
  pub few : length d.rows ≤ 127
  pub starts : EachOf (λ q. q < length d.rows) d.starts
  pub enters :
      EachOf (λ row. EachOf (λ (e : Edge ℕ). EachOf (λ q. q < length d.rows) e.enters) row)
      d.rows

-- what lies between the two parts of a delay of one tick or more
abbrev pub gap_data : ℕ → ℕ → TableData
gap_data least most =
    if most == 0 then still_data true else repeat_data (tick_data None) (least - 1) (most - 1)

abbrev pub apart_data : TableData → TableData → ℕ → ℕ → TableData
apart_data t u least most =
    link_data (least == 0) (nat_le 1 most) t (gap_data least most) u

abbrev pub lead_in_data : ℕ → ℕ → TableData → TableData
lead_in_data least most u =
    link_data false true (repeat_data (tick_data None) least most) (still_data true) u
