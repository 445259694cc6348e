-- The rows of what is kept of a table are some of its rows, and no longer.
use Rattle.std.proofs.Common.{◌≡◌, ◌∙◌, inl, inr, ℕ, zero, suc, ◌+◌, ◌<◌, ◌≤◌, Bool, true, false, ◌&&◌, ◌||◌}
use Rattle.std.proofs.Common.{if◌then◌else◌}
use Rattle.std.proofs.Common.{List, [], ◌∷◌, ◌++◌, length, map, Option, refl, sym, ap, arith, length-append}
use Rattle.std.specs.Prelude.{IsTrue, nat_lt, sum_by}
use Rattle.std.specs.List.{list_any, flat_map}
use Rattle.std.proofs.Math.Path.{fun_ext}
use Rattle.std.proofs.lemmas.Bool.{cases_Bool, cases_lt, le-ltb}
use Rattle.std.proofs.lemmas.List.{append-nil}
use Rattle.std.proofs.lemmas.List.Sums.{sum_by-append, sum_by-cons}
use Rattle.positions.specs.Tables.{Edge, Table, picked_if}
use Rattle.positions.specs.Living.{edge_leads, lives_for, lives, is_among, led_to, is_position_kept}
use Rattle.positions.specs.Living.{kept_below, place, sift}
use Rattle.positions.specs.Living.{sifted_edge}
use Rattle.positions.specs.Living.{sifted}
use Rattle.positions.specs.Sections.{edge_size, numbered_edge, coded, rows_from}
use Rattle.positions.specs.Rows.{TableData, listed, edges_at, edges_size, row_size, rows_size, lives_in}
use Rattle.positions.specs.Rows.{kept_in}
use Rattle.positions.specs.Rows.{kept_rows, sift_data}
use Rattle.positions.proofs.ListedLaws.{rows_of-length, rows_of-append, rows_of-same, row_at-rows, map-square}
use Rattle.positions.proofs.ListedLaws.{table}
use Rattle.positions.proofs.ListedLaws.{same_table}
use Rattle.positions.proofs.Sifting.{if-true, if-false, rank-place, place-rank}

-- the same rows below the end
pub lives_for-same : {B : Type 0} (size : ℕ) (row other : ℕ → List (Edge B)) → ((p : ℕ) → p < size → row p ≡ other p)
    → (n p : ℕ) → lives_for size row n p ≡ lives_for size other n p
lives_for-same size row other same zero p = refl
lives_for-same size row other same (suc n) p = elim (cases_lt p size) [
  | inl below ↦
      ap (λ passes. nat_lt p size && list_any (edge_leads passes) (row p))
      (fun_ext (lives_for-same size row other same n))
      ∙ ap (λ es. nat_lt p size && list_any (edge_leads (lives_for size other n)) es) (same p below)
  | inr over ↦
      ap (λ b. b && list_any (edge_leads (lives_for size row n)) (row p)) (le-ltb p size over)
      ∙ ap (λ b. b && list_any (edge_leads (lives_for size other n)) (other p)) (sym (le-ltb p size over))
]

module _ (B : Type 0) (atom : B → Option ℕ) (t : Table B) where
  abbrev rows : List (List (Edge ℕ))
  rows = (listed atom t).rows

  count : length rows ≡ t.size
  count = rows_of-length (coded atom t) 0 t.size

  any-num : (passes : ℕ → Bool) (es : List (Edge B)) → list_any (edge_leads passes) (map (numbered_edge atom) es)
      ≡ list_any (edge_leads passes) es
  any-num passes [] = refl
  any-num passes (e ∷ es) = ap (λ b. edge_leads passes e || b) (any-num passes es)

  lives-coded : (n p : ℕ) → lives_for t.size (coded atom t) n p ≡ lives_for t.size t.row n p
  lives-coded zero p = refl
  lives-coded (suc n) p =
      ap (λ passes. nat_lt p t.size && list_any (edge_leads passes) (coded atom t p)) (fun_ext (lives-coded n))
      ∙ ap (λ b. nat_lt p t.size && b) (any-num (lives_for t.size t.row n) (t.row p))

  row-at : (p : ℕ) → p < t.size → edges_at rows p ≡ coded atom t p
  row-at p below =
      let e : 0 + p ≡ p = omega arith in
      row_at-rows (coded atom t) 0 t.size p below ∙ ap (coded atom t) e

  lives-listed : lives_in rows ≡ lives t
  lives-listed = fun_ext (λ p.
      ap (λ n. lives_for n (edges_at rows) n p) count
      ∙ lives_for-same t.size (edges_at rows) (coded atom t) row-at t.size p
      ∙ lives-coded t.size p)

  -- what something leads to
  enters-num : (es : List (Edge B)) → flat_map (λ e. e.enters) (map (numbered_edge atom) es)
      ≡ flat_map (λ e. e.enters) es
  enters-num [] = refl
  enters-num (e ∷ es) = ap (λ qs. e.enters ++ qs) (enters-num es)

  led-listed : (n : ℕ) → n ≤ t.size → led_to t.starts (edges_at rows) n ≡ led_to t.starts t.row n
  led-listed zero le = refl
  led-listed (suc n) le =
      let led : List ℕ = led_to t.starts t.row n in
      ap (λ qs. qs ++ picked_if (is_among qs n) (flat_map (λ e. e.enters) (edges_at rows n)))
      (led-listed n (omega arith))
      ∙ ap (λ es. led ++ picked_if (is_among led n) (flat_map (λ e. e.enters) es)) (row-at n (omega arith))
      ∙ ap (λ qs. led ++ picked_if (is_among led n) qs) (enters-num (t.row n))

  kept-listed : kept_in (listed atom t) ≡ is_position_kept t
  kept-listed = fun_ext (λ p.
      ap (λ f. f p && is_among (led_to t.starts (edges_at rows) (length rows)) p) lives-listed
      ∙ ap (λ n. lives t p && is_among (led_to t.starts (edges_at rows) n) p) count
      ∙ ap (λ qs. lives t p && is_among qs p) (led-listed t.size (omega arith)))

  kept-row : (q : ℕ) → q < (sifted t).size → coded atom (sifted t) q
      ≡ map (sifted_edge (is_position_kept t)) (edges_at rows (place (is_position_kept t) t.size q))
  kept-row q below =
      let f = rank-place (is_position_kept t) t.size q below in
      map-square (sifted_edge (is_position_kept t)) (numbered_edge atom) (sifted_edge (is_position_kept t))
      (numbered_edge atom)
      (t.row (place (is_position_kept t) t.size q)) (λ e. refl)
      ∙ ap (map (sifted_edge (is_position_kept t))) (sym (row-at (place (is_position_kept t) t.size q) f.0))

  kept-all : (n : ℕ) → n ≤ t.size
      → rows_from (λ q. map (sifted_edge (is_position_kept t)) (edges_at rows (place (is_position_kept t) t.size q))) 0
      (kept_below (is_position_kept t) n)
      ≡ kept_rows (is_position_kept t) rows n
  kept-all zero le = refl
  kept-all (suc n) le =
      let f : ℕ → List (Edge ℕ) = λ q. map (sifted_edge (is_position_kept t))
      (edges_at rows (place (is_position_kept t) t.size q)) in
      let it : List (Edge ℕ) = map (sifted_edge (is_position_kept t)) (edges_at rows n) in
      let before = kept-all n (omega arith) in
      elim (cases_Bool (is_position_kept t n)) [
        | inl on ↦
            let more : kept_below (is_position_kept t) (suc n) ≡ kept_below (is_position_kept t) n + 1 =
            omega (arith, if-true {A = ℕ} (is_position_kept t n) 1 0 on) in
            let none : 0 + kept_below (is_position_kept t) n ≡ kept_below (is_position_kept t) n = omega arith in
            ap (rows_from f 0) more
            ∙ rows_of-append f 0 (kept_below (is_position_kept t) n) 1
            ∙ ap (λ k. rows_from f 0 (kept_below (is_position_kept t) n) ++ f k ∷ []) none
            ∙ ap (λ k. rows_from f 0 (kept_below (is_position_kept t) n)
            ++ map (sifted_edge (is_position_kept t)) (edges_at rows k) ∷ [])
            (place-rank (is_position_kept t) t.size n (omega arith) on)
            ∙ ap (λ xs. xs ++ it ∷ []) before
            ∙ ap (λ b. kept_rows (is_position_kept t) rows n ++ picked_if b (it ∷ [])) (sym on)
        | inr off ↦
            let same : kept_below (is_position_kept t) (suc n) ≡ kept_below (is_position_kept t) n =
            omega (arith, if-false {A = ℕ} (is_position_kept t n) 1 0 off) in
            ap (rows_from f 0) same
            ∙ before
            ∙ sym (append-nil (kept_rows (is_position_kept t) rows n))
            ∙ ap (λ b. kept_rows (is_position_kept t) rows n ++ picked_if b (it ∷ [])) (sym off)
      ]

  pub listed-sifted : listed atom (sifted t) ≡ sift_data (listed atom t)
  listed-sifted =
      same_table _ _ _ _ _ _
      (rows_of-same (coded atom (sifted t))
      (λ q. map (sifted_edge (is_position_kept t)) (edges_at rows (place (is_position_kept t) t.size q))) 0 0
      (sifted t).size (λ q below.
      let e : 0 + q ≡ q = omega arith in
      ap (coded atom (sifted t)) e ∙ kept-row q below
      ∙ ap (λ k. map (sifted_edge (is_position_kept t)) (edges_at rows (place (is_position_kept t) t.size k))) (sym e))
      ∙ kept-all t.size (omega arith))
      refl refl
      ∙ ap (λ n. table (kept_rows (is_position_kept t) rows n) (sift (is_position_kept t) t.starts) t.empty) (sym count)
      ∙ ap (λ keeps. table (kept_rows keeps rows (length rows)) (sift keeps t.starts) t.empty) (sym kept-listed)

-- no longer

sift-length : (keeps : ℕ → Bool) (qs : List ℕ) → length (sift keeps qs) ≤ length qs
sift-length keeps [] = omega arith
sift-length keeps (q ∷ qs) =
    omega (
      arith,
      length-append (picked_if (keeps q) (kept_below keeps q ∷ [])) (sift keeps qs),
      one (keeps q),
      sift-length keeps qs,
    )
  where
    one : (b : Bool) → length (picked_if b (kept_below keeps q ∷ [])) ≤ 1
    one true = omega arith
    one false = omega arith

row-shrinks : (keeps : ℕ → Bool) (es : List (Edge ℕ)) → edges_size (map (sifted_edge keeps) es) ≤ edges_size es
row-shrinks keeps [] = omega arith
row-shrinks keeps (e ∷ es) =
    omega (
      arith,
      sift-length keeps e.enters,
      row-shrinks keeps es,
      sum_by-cons edge_size e es,
      sum_by-cons edge_size (sifted_edge keeps e) (map (sifted_edge keeps) es),
    )

total : (ℕ → ℕ) → ℕ → ℕ
total f zero = 0
total f (suc n) = total f n + f n

total-later : (f : ℕ → ℕ) (n : ℕ) → total f (suc n) ≡ f 0 + total (λ p. f (suc p)) n
unfolding total
total-later f zero = omega arith
total-later f (suc n) = omega (arith, total-later f n)

total-rows : (rows : List (List (Edge ℕ))) → total (λ p. row_size (edges_at rows p)) (length rows) ≡ rows_size rows
unfolding total
total-rows [] = refl
total-rows (row ∷ rows) =
    omega (
      arith,
      total-later (λ p. row_size (edges_at (row ∷ rows) p)) (length rows),
      total-rows rows,
      sum_by-cons row_size row rows,
    )

kept-within : (keeps : ℕ → Bool) (rows : List (List (Edge ℕ))) (n : ℕ) → rows_size (kept_rows keeps rows n)
    ≤ total (λ p. row_size (edges_at rows p)) n
unfolding total
kept-within keeps rows zero = omega arith
kept-within keeps rows (suc n) =
    let it : List (Edge ℕ) = map (sifted_edge keeps) (edges_at rows n) in
    omega (
      arith,
      kept-within keeps rows n,
      sum_by-append row_size (kept_rows keeps rows n) (picked_if (keeps n) (it ∷ [])),
      one it (keeps n),
      row-shrinks keeps (edges_at rows n),
    )
  where
    one : (es : List (Edge ℕ)) (b : Bool) → rows_size (picked_if b (es ∷ [])) ≤ row_size es
    one es true = omega (arith, sum_by-cons row_size es [])
    one es false = omega arith

pub kept-shorter : (keeps : ℕ → Bool) (rows : List (List (Edge ℕ)))
    → rows_size (kept_rows keeps rows (length rows)) ≤ rows_size rows
kept-shorter keeps rows = omega (arith, kept-within keeps rows (length rows), total-rows rows)
