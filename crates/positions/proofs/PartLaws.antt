-- Rows that are made in three parts, one after another.
use Rattle.std.proofs.Common.{◌≡◌, ◌∙◌, ℕ, ◌+◌, ◌≤◌, List, [], ◌++◌, ap, arith}
use Rattle.std.proofs.lemmas.List.Sums.{sum_by-append}
use Rattle.positions.specs.Tables.{Edge}
use Rattle.positions.specs.Rows.{DraftData, ChangeData, change_all, with_rows, rows_size, row_size, draft_size}

module _ (first between second : List (List (Edge ℕ))) where
  abbrev pub whole : List (List (Edge ℕ))
  whole = (first ++ between) ++ second

  module _ (d0 d1 : DraftData) (a : List (List (Edge ℕ))) (none : d0 ≡ record { rows = []; begun = [] })
      (put_a : d1 ≡ with_rows d0 a) (is_a : a ≡ first) where
    after-first : d1 ≡ record { rows = first; begun = [] }
    after-first = put_a ∙ ap (λ d. with_rows d a) none ∙ ap (λ xs. record { rows = xs; begun = [] }) is_a

    -- the second part is not too long unless the whole is
    pub between-within : (b : List (List (Edge ℕ))) → b ≡ between → draft_size d1 + rows_size b ≤ rows_size whole
    between-within b is_b =
        omega (
          arith,
          ap draft_size after-first,
          ap rows_size is_b,
          sum_by-append row_size (first ++ between) second,
          sum_by-append row_size first between,
        )

    module _ (d2 : DraftData) (b : List (List (Edge ℕ))) (put_b : d2 ≡ with_rows d1 b) (is_b : b ≡ between) where
      after-between : d2 ≡ record { rows = first ++ between; begun = [] }
      after-between =
          put_b ∙ ap (λ d. with_rows d b) after-first ∙ ap (λ xs. record { rows = first ++ xs; begun = [] }) is_b

      pub second-within : (c : List (List (Edge ℕ))) → c ≡ second → draft_size d2 + rows_size c ≤ rows_size whole
      second-within c is_c =
          omega (
            arith,
            ap draft_size after-between,
            ap rows_size is_c,
            sum_by-append row_size (first ++ between) second,
          )

      pub all-made : (d3 : DraftData) (c : List (List (Edge ℕ))) → d3 ≡ with_rows d2 c → c ≡ second → d3.rows ≡ whole
      all-made d3 c put_c is_c =
          ap (λ (d : DraftData). d.rows) (put_c ∙ ap (λ d. with_rows d c) after-between)
          ∙ ap (λ xs. (first ++ between) ++ xs) is_c

-- what becomes of rows, by a change and rows that are known
pub changed-made : (c d : ChangeData) (rows all : List (List (Edge ℕ))) → c ≡ d → rows ≡ all
    → change_all c rows ≡ change_all d all
changed-made c d rows all is same = ap (λ x. change_all x rows) is ∙ ap (change_all d) same
