-- The rows of a joining.
use Rattle.std.proofs.Common.{◌≡◌, ◌∙◌, ℕ, ◌+◌, Bool, List, length, map, ap}
use Rattle.std.specs.List.{flat_map}
use Rattle.positions.specs.Tables.{Edge}
use Rattle.positions.specs.Rows.{TableData, ChangeData, change_all, moved}
use Rattle.positions.specs.Rows.{leading_data, crossing_data, lead_data}

module _ (fuses follows : Bool) (t g u : TableData) where
  abbrev pub leads : ChangeData → ℕ → List (List (Edge ℕ)) → List (List (Edge ℕ))
  leads c by rows = map (flat_map (lead_data fuses c by u)) rows

  abbrev pub past : ℕ
  past = length t.rows + length g.rows

  abbrev pub first_rows : List (List (Edge ℕ))
  first_rows = leads (leading_data follows t g u) past t.rows

  abbrev pub between_rows : List (List (Edge ℕ))
  between_rows = change_all (crossing_data t g u) g.rows

  abbrev pub second_rows : List (List (Edge ℕ))
  second_rows = change_all (moved past) u.rows

  pub firsts-made : (c : ChangeData) (by : ℕ) (rows : List (List (Edge ℕ))) → c ≡ leading_data follows t g u → by ≡ past
      → rows ≡ t.rows → leads c by rows ≡ first_rows
  firsts-made c by rows is placed same =
      ap (λ x. leads x by rows) is ∙ ap (λ n. leads (leading_data follows t g u) n rows) placed
      ∙ ap (leads (leading_data follows t g u) past) same
