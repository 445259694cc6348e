-- The text of a table.
use Rattle.std.proofs.Common.{◌≡◌, ℕ, ◌<◌, List, [], ◌∷◌, ◌∙◌, length, map, Result, Ok, Err, refl, arith}
use Rattle.std.specs.Prelude.{IfOk}
use Rattle.std.specs.List.{flat_map}
use Rattle.cli_names.specs.declared.rows.Row.{Row}
use Rattle.cli_names.specs.Rows.{row_data}
use Rattle.cli_names.specs.Tables.{line_text, widths_of, table_text}

pub none-listed : (rs : List Row) → length rs ≡ 0 → rs ≡ []
none-listed [] e = refl
none-listed (r ∷ rs) e = absurd (omega arith)

pub table-some : (rs : List Row) (total : ℕ) → 0 < length rs → table_text (map row_data rs) total
    ≡ flat_map (line_text (widths_of (map row_data rs))) (map row_data rs)
unfolding table_text
table-some [] total lt = absurd (omega arith)
table-some (r ∷ rs) total lt = refl

-- a result that holds one text holds the same text
pub ok-same : {V E : Type 0} (items : V → List ℕ) (r : Result V E) (a b : List ℕ) → a ≡ b
    → IfOk r (λ v. items v ≡ a) → IfOk r (λ v. items v ≡ b)
ok-same items (Ok v) a b e h = h ∙ e
ok-same items (Err x) a b e h = h
