use Rattle.std.proofs.Common.{ℕ, ◌≡◌, ◌+◌, ◌≤◌, ◌∙◌, List, [], map, ap, sym, length, arith}
use Rattle.std.specs.List.{flat_map}
use Rattle.positions.specs.Tables.{Edge}
use Rattle.positions.specs.Rows.{DraftData, TableData, couple_row, pair_data, pairs_data, with_rows}
use Rattle.positions.specs.Rows.{draft_size}
use Rattle.positions.specs.Rows.{rows_size}
use Rattle.positions.specs.Views.{rows_data}
use Rattle.positions.proofs.RowLaws.{long_on}
use Rattle.positions.proofs.NearLaws.{below_rows}
use Rattle.positions.proofs.pair.pair.Goals as goal

-- all pairs, by numbers and rows that are known
pairs-made : (m : ℕ) (t u : TableData) (fs ss : List (List (Edge ℕ))) → m ≡ length u.rows → fs ≡ t.rows → ss ≡ u.rows
    → flat_map (λ es. map (couple_row m es) ss) fs ≡ (pair_data t u).rows
pairs-made m t u fs ss second is_f is_s =
    ap (λ k. flat_map (λ es. map (couple_row k es) ss) fs) second
    ∙ ap (λ xs. flat_map (λ es. map (couple_row (length u.rows) es) xs) fs) is_s
    ∙ ap (flat_map (λ es. map (couple_row (length u.rows) es) u.rows)) is_f

pub put_all-requires-clause-first : goal.put_all-requires-clause-first
put_all-requires-clause-first c =
    below_rows c.len.result c.rows.result.now c.args.first.now c.rows.ensures.rows c.requires.first_placed
    (sym c.len.ensures)

pub put_all-requires-clause-second : goal.put_all-requires-clause-second
put_all-requires-clause-second c =
    below_rows c.len-2.result c.rows-2.result.now c.args.second.now c.rows-2.ensures.rows c.requires.second_placed
    (sym c.len-2.ensures)

pub returns-in_err-put_all-clause-err : goal.returns-in_err-put_all-clause-err
returns-in_err-put_all-clause-err c =
    let same =
    pairs-made c.len-2.result c.args.first.now c.args.second.now (rows_data c.rows.result.now)
    (rows_data c.rows-2.result.now) c.len-2.ensures c.rows.ensures.rows c.rows-2.ensures.rows in
    long_on _ _ _ _ c.from_residual.ensures.1 c.in_err-put_all.ensures.err
    (omega (arith, ap draft_size c.new-draft.ensures, ap rows_size same))

pub returns-clause-ok : goal.returns-clause-ok
returns-clause-ok c =
    let t : TableData = c.args.first.now in
    let u : TableData = c.args.second.now in
    let all : TableData = pair_data t u in
    let made : List (List (Edge ℕ)) =
    flat_map (λ es. map (couple_row c.len-2.result es) (rows_data c.rows-2.result.now))
    (rows_data c.rows.result.now) in
    let rows : c.put_all.new.draft.rows ≡ all.rows =
    ap (λ (d : DraftData). d.rows) (c.in_ok-put_all.ensures.ok ∙ ap (λ d. with_rows d made) c.new-draft.ensures)
    ∙ pairs-made c.len-2.result t u (rows_data c.rows.result.now) (rows_data c.rows-2.result.now) c.len-2.ensures
    c.rows.ensures.rows c.rows-2.ensures.rows in
    let starts : c.in_ok-starts.starts.items ≡ all.starts =
    c.in_ok-starts.ensures
    ∙ ap (λ k. pairs_data k c.starts.result.now c.starts-2.result.now) c.len-2.ensures
    ∙ ap (λ xs. pairs_data (length u.rows) xs c.starts-2.result.now) c.starts.ensures
    ∙ ap (pairs_data (length u.rows) t.starts) c.starts-2.ensures in
    c.table.ensures.made
    ∙ ap (λ xs. record { rows = xs; starts = c.in_ok-starts.starts.items; empty = c.admits_empty-empty.result }) rows
    ∙ ap (λ xs. record { rows = all.rows; starts = xs; empty = c.admits_empty-empty.result }) starts
    ∙ ap (λ b. record { rows = all.rows; starts = all.starts; empty = b }) c.admits_empty-empty.ensures
