-- A delay takes few instructions.
use Rattle.std.proofs.Common.{◌≡◌, ◌⊎◌, inl, inr, ℕ, zero, suc, ◌+◌, ◌-◌, ◌*◌, ◌<◌, ◌≤◌, Bool, true, false, ◌&&◌, ◌||◌}
use Rattle.std.proofs.Common.{if◌then◌else◌, List, [], ◌∷◌, ◌++◌, length, map, min, nat_le, Option, Some, None, refl}
use Rattle.std.proofs.Common.{sym, ap, subst, arith}
use Rattle.std.proofs.Common.{length-append}
use Rattle.std.specs.Prelude.{IsTrue, sum_by}
use Rattle.std.specs.List.{flat_map}
use Rattle.std.proofs.lemmas.Bool.{cases_lt, le-leb, and_from, or_left}
use Rattle.std.proofs.lemmas.List.Sums.{sum_by-append, sum_by-cons}
use Rattle.positions.specs.Tables.{Edge, shift, picked_if, numbers_from}
use Rattle.positions.specs.Sections.{edge_size, with_atom}
use Rattle.positions.specs.Rows.{TableData, ChangeData, changed, change_all, moved, edges_size, row_size}
use Rattle.positions.specs.Rows.{rows_size}
use Rattle.positions.specs.Rows.{wanting_also}
use Rattle.positions.specs.Rows.{either_data, during_data, leading_data, fused_data, lead_data, link_data}
use Rattle.positions.specs.Rows.{copies_data, turn_data, repeat_data, both_data, pair_row, crossing_data}
use Rattle.positions.specs.Rows.{tick_data}

-- a delay takes three instructions a tick at most
copies-few : (first most : ℕ) → length (copies_data (tick_data None) first most) ≤ 1
copies-few first most = few (most - first)
  where
    few : (k : ℕ) → length (flat_map (λ c. shift (c * 1) (0 ∷ [])) (numbers_from first (min 1 k))) ≤ 1
    few zero = omega arith
    few (suc k) = one (min 1 (suc k)) (omega arith)
      where
        one : (n : ℕ) → n ≡ 1 → length (flat_map (λ c. shift (c * 1) (0 ∷ [])) (numbers_from first n)) ≤ 1
        one zero e = absurd (omega arith)
        one (suc zero) e = omega arith
        one (suc (suc n)) e = absurd (omega arith)

one_if-most : (b : Bool) → (if b then 1 else 0) ≤ 1
one_if-most true = omega arith
one_if-most false = omega arith

pub ticks-short : (least most : ℕ) → rows_size (repeat_data (tick_data None) least most).rows ≤ 3 * most
ticks-short least most = short 0 most
  where
    short : (first count : ℕ)
        → rows_size (flat_map (λ c. change_all (turn_data (tick_data None) least most c) (tick_data None).rows)
        (numbers_from first count)) ≤ 3 * count
    short first zero = omega arith
    short first (suc count) =
        let c : ChangeData = turn_data (tick_data None) least most first in
        let e : Edge ℕ = record { wanted = []; enters = []; accepts = true } in
        omega (
          arith,
          copies-few (first + 1) most,
          one_if-most c.keeps,
          short (first + 1) count,
          sum_by-append row_size (change_all c (tick_data None).rows)
              (flat_map (λ c. change_all (turn_data (tick_data None) least most c) (tick_data None).rows)
              (numbers_from (first + 1) count)),
          sum_by-cons row_size (changed c e ∷ []) [],
          sum_by-cons edge_size (changed c e) [],
        )
