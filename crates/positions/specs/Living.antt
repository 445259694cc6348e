-- Which positions of a table something leads to and may still come to an end, and the table of
-- these
-- alone.
use Rattle.std.specs.Prelude.{ℕ, zero, suc, ◌+◌, ◌==◌, nat_lt, Bool, true, false, ◌&&◌, ◌||◌}
use Rattle.std.specs.Prelude.{if◌then◌else◌, List, [], ◌∷◌, ◌++◌, map}
use Rattle.std.specs.List.{list_any, flat_map}
use Rattle.positions.specs.Tables.{Edge, Table, picked_if}

-- Were every boolean true: the edge accepts, or leads to a position that passes.
abbrev pub edge_leads : {B : Type 0} → (ℕ → Bool) → Edge B → Bool
edge_leads passes e = e.accepts || list_any passes e.enters

-- Of so many positions with these edges, one that accepts within so many ticks, were every boolean
-- true.
abbrev pub lives_for : {B : Type 0} → ℕ → (ℕ → List (Edge B)) → ℕ → ℕ → Bool
lives_for size row zero p = false
lives_for size row (suc ticks) p =
    nat_lt p size && list_any (edge_leads (lives_for size row ticks)) (row p)

-- Each tick leads to a later position, so there are no more ticks than positions.
abbrev pub lives : {B : Type 0} → Table B → ℕ → Bool
lives t p = lives_for t.size t.row t.size p

-- whether a number is in a list
abbrev pub is_among : List ℕ → ℕ → Bool
is_among qs q = list_any (λ x. x == q) qs

-- What is begun with, and what is entered from those of the first so many positions that something
-- leads to.
abbrev pub led_to : {B : Type 0} → List ℕ → (ℕ → List (Edge B)) → ℕ → List ℕ
led_to starts row zero = starts
led_to starts row (suc p) =
    led_to starts row p
    ++ picked_if (is_among (led_to starts row p) p) (flat_map (λ e. e.enters) (row p))

-- Something leads to the position, and it lives.
abbrev pub is_position_kept : {B : Type 0} → Table B → ℕ → Bool
is_position_kept t p = lives t p && is_among (led_to t.starts t.row t.size) p

-- how many of the positions below p are kept: the number that a kept p has from then on
abbrev pub kept_below : (ℕ → Bool) → ℕ → ℕ
kept_below keeps zero = 0
kept_below keeps (suc p) = kept_below keeps p + (if keeps p then 1 else 0)

-- the kept position, of so many, that has this number
abbrev pub place : (ℕ → Bool) → ℕ → ℕ → ℕ
place keeps zero q = 0
place keeps (suc n) q = if keeps n && (kept_below keeps n == q) then n else place keeps n q

-- the numbers of those that are kept
abbrev pub sift : (ℕ → Bool) → List ℕ → List ℕ
sift keeps [] = []
sift keeps (q ∷ qs) = picked_if (keeps q) (kept_below keeps q ∷ []) ++ sift keeps qs

abbrev pub sifted_edge : {B : Type 0} → (ℕ → Bool) → Edge B → Edge B
sifted_edge keeps e =
    record { wanted = e.wanted; enters = sift keeps e.enters; accepts = e.accepts }

-- the table of the positions that are kept
abbrev pub sifted : {B : Type 0} → Table B → Table B
sifted t = record {
  size = kept_below (is_position_kept t) t.size;
  row = λ q. map (sifted_edge (is_position_kept t)) (t.row (place (is_position_kept t) t.size q));
  starts = sift (is_position_kept t) t.starts;
  empty = t.empty;
}
