-- Columns: blanks, and widths a row at a time.
use Rattle.std.proofs.Common.{◌≡◌, ℕ, suc, ◌+◌, ◌<◌, ◌≤◌, min, max, List, [], ◌∷◌, ◌++◌, length, get_or, drop}
use Rattle.std.proofs.Common.{map, refl, sym, ap, ◌∙◌, arith, append_assoc, append-nil}
use Rattle.std.proofs.Math.Seq.{drop-cons}
use Rattle.std.proofs.Math.ListN.{drop_of_length-le}
use Rattle.cli_names.specs.declared.column.Column.{Column}
use Rattle.cli_names.specs.declared.rows.Row.{Row}
use Rattle.cli_names.specs.Rows.{RowData, row_data}
use Rattle.cli_names.specs.declared.column.Column.TheVariants.{Path, Size, Range, Kind}
use Rattle.cli_names.specs.Tables.{cell, most, width_of, blanks, Widths, widths_of}

pub blank-more : (xs : List ℕ) (n m : ℕ) → suc n ≡ m → (xs ++ 32 ∷ []) ++ blanks n ≡ xs ++ blanks m
blank-more xs n m e = append_assoc xs (32 ∷ []) (blanks n) ∙ ap (λ (k : ℕ). xs ++ blanks k) e

pub blanks-none : (xs : List ℕ) (n : ℕ) → n ≡ 0 → xs ≡ xs ++ blanks n
blanks-none xs n e = sym (ap (λ (k : ℕ). xs ++ blanks k) e ∙ append-nil xs)

module _ (c : Column) where
  width-cons : (r : RowData) (rs : List RowData) → width_of c (r ∷ rs)
      ≡ max (min (length (cell c r)) (most c)) (width_of c rs)
  unfolding width_of
  width-cons r rs = refl

  pub width-none : (rs : List Row) (i : ℕ) → length rs ≤ i → width_of c (map row_data (drop i rs)) ≡ 0
  unfolding width_of
  width-none rs i le = rw (drop_of_length-le rs le) refl

  pub width-next : (rs : List Row) (i : ℕ) (r : Row) (w n : ℕ) → i < length rs → r ≡ get_or rs i r
      → n ≡ min (length (cell c (row_data r))) (most c)
      → max (max w n) (width_of c (map row_data (drop (i + 1) rs))) ≡ max w (width_of c (map row_data (drop i rs)))
  width-next rs i r w n lt is e =
      let later = width_of c (map row_data (drop (suc i) rs)) in
      let first : drop i rs ≡ r ∷ drop (suc i) rs =
      drop-cons rs i r lt ∙ ap (λ (x : Row). x ∷ drop (suc i) rs) (sym is) in
      let whole : width_of c (map row_data (drop i rs)) ≡ max n later =
      ap (λ (x : List Row). width_of c (map row_data x)) first
      ∙ width-cons (row_data r) (map row_data (drop (suc i) rs)) ∙ ap (λ (k : ℕ). max k later) (sym e) in
      let one : i + 1 ≡ suc i = omega arith in
      let rest : width_of c (map row_data (drop (i + 1) rs)) ≡ later =
      ap (λ (k : ℕ). width_of c (map row_data (drop k rs))) one in
      omega arith

pub widths-same : (rs : List RowData) (w : Widths) → w.path ≡ width_of Path rs → w.size ≡ width_of Size rs
    → w.range ≡ width_of Range rs → w.kind ≡ width_of Kind rs → w ≡ widths_of rs
widths-same rs w a b c d =
    ap (λ (n : ℕ). let x : Widths = record { path = n; size = w.size; range = w.range; kind = w.kind } in x) a
    ∙ ap (λ (n : ℕ). let x : Widths =
    record { path = width_of Path rs; size = n; range = w.range; kind = w.kind } in x) b
    ∙ ap (λ (n : ℕ). let x : Widths =
    record { path = width_of Path rs; size = width_of Size rs; range = n; kind = w.kind } in x) c
    ∙ ap (λ (n : ℕ). let x : Widths =
    record { path = width_of Path rs; size = width_of Size rs; range = width_of Range rs; kind = n } in x) d
