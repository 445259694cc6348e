use Rattle.std.proofs.Common.{ℕ, ◌≡◌, ◌+◌, ◌*◌, ◌≤◌, ◌++◌, ◌∙◌, List, map, ap, sym, length, arith}
use Rattle.std.specs.List.{flat_map}
use Rattle.positions.specs.Tables.{Edge}
use Rattle.std.proofs.lemmas.List.Sums.{sum_by-append}
use Rattle.positions.specs.Rows.{ChangeData, TableData, change_all, moved, pair_row, both_data, draft_size}
use Rattle.positions.specs.Rows.{row_size}
use Rattle.positions.specs.Rows.{rows_size}
use Rattle.positions.specs.Views.{change_data, rows_data}
use Rattle.positions.proofs.RowLaws.{long_on}
use Rattle.positions.proofs.NearLaws.{near_rows, below_rows}
use Rattle.positions.proofs.PartLaws.{changed-made, between-within, second-within, all-made}
use Rattle.positions.proofs.conjunction.both.Goals as goal

-- all pairs, by numbers and rows that are known
pairs-made : (n m : ℕ) (t u : TableData) (fs ss : List (List (Edge ℕ))) → n ≡ length t.rows → m ≡ length u.rows
    → fs ≡ t.rows → ss ≡ u.rows →
    flat_map (λ es. map (pair_row n m es) ss) fs
    ≡ flat_map (λ es. map (pair_row (length t.rows) (length u.rows) es) u.rows) t.rows
pairs-made n m t u fs ss first second is_f is_s =
    ap (λ k. flat_map (λ es. map (pair_row k m es) ss) fs) first
    ∙ ap (λ k. flat_map (λ es. map (pair_row (length t.rows) k es) ss) fs) second
    ∙ ap (λ xs. flat_map (λ es. map (pair_row (length t.rows) (length u.rows) es) xs) fs) is_s
    ∙ ap (flat_map (λ es. map (pair_row (length t.rows) (length u.rows) es) u.rows)) is_f

abbrev pairs_of : TableData → TableData → List (List (Edge ℕ))
pairs_of t u = flat_map (λ es. map (pair_row (length t.rows) (length u.rows) es) u.rows) t.rows

pub put_all-requires-clause-first : goal.put_all-requires-clause-first
put_all-requires-clause-first c =
    below_rows c.len.result c.rows-firsts.result.now c.args.first.now c.rows-firsts.ensures.rows c.requires.first_placed
    (sym c.len.ensures)

pub put_all-requires-clause-second : goal.put_all-requires-clause-second
put_all-requires-clause-second c =
    below_rows c.len-2.result c.rows-seconds.result.now c.args.second.now c.rows-seconds.ensures.rows
    c.requires.second_placed (sym c.len-2.ensures)

pub returns-in_err-put_all-clause-err : goal.returns-in_err-put_all-clause-err
returns-in_err-put_all-clause-err c =
    let t : TableData = c.args.first.now in
    let u : TableData = c.args.second.now in
    let alone : List (List (Edge ℕ)) = change_all (moved (length t.rows * length u.rows)) t.rows in
    let last : List (List (Edge ℕ)) = change_all (moved (length t.rows * length u.rows + length t.rows)) u.rows in
    let same =
    pairs-made c.len.result c.len-2.result t u (rows_data c.rows-firsts.result.now)
    (rows_data c.rows-seconds.result.now) c.len.ensures c.len-2.ensures c.rows-firsts.ensures.rows
    c.rows-seconds.ensures.rows in
    long_on _ _ _ _ c.from_residual.ensures.1 c.in_err-put_all.ensures.err
    (omega (
      arith,
      ap draft_size c.new-draft.ensures,
      ap rows_size same,
      sum_by-append row_size (pairs_of t u ++ alone) last,
      sum_by-append row_size (pairs_of t u) alone,
    ))

product-of : (n m : ℕ) (t u : TableData) → n ≡ length t.rows → m ≡ length u.rows → n * m ≡ length t.rows * length u.rows
product-of n m t u first second = ap (λ k. k * m) first ∙ ap (λ k. length t.rows * k) second

sum-of : (n m : ℕ) (t u : TableData) → n ≡ length t.rows → m ≡ length u.rows
    → n * m + n ≡ length t.rows * length u.rows + length t.rows
sum-of n m t u first second =
    ap (λ k. k + n) (product-of n m t u first second) ∙ ap (λ k. length t.rows * length u.rows + k) first

pub put_rows-requires-clause-near : goal.put_rows-requires-clause-near
put_rows-requires-clause-near c =
    let t : TableData = c.args.first.now in
    let u : TableData = c.args.second.now in
    let product : c.first_alone.result ≡ length t.rows * length u.rows =
    c.first_alone.ensures ∙ product-of c.len.result c.len-2.result t u c.len.ensures c.len-2.ensures in
    let by = ap (λ (x : ChangeData). x.by) c.by_places-first_alone.ensures in
    near_rows c.by_places-first_alone.result.by c.rows-firsts.result.now t c.rows-firsts.ensures.rows
    c.requires.first_placed
    (let few = c.requires.few in omega (arith, by, product))

pub put_rows-requires-2-clause-near : goal.put_rows-requires-2-clause-near
put_rows-requires-2-clause-near c =
    let t : TableData = c.args.first.now in
    let u : TableData = c.args.second.now in
    let product : c.first_alone.result ≡ length t.rows * length u.rows =
    c.first_alone.ensures ∙ product-of c.len.result c.len-2.result t u c.len.ensures c.len-2.ensures in
    let sum : c.second_alone.result ≡ length t.rows * length u.rows + length t.rows =
    c.second_alone.ensures ∙ sum-of c.len.result c.len-2.result t u c.len.ensures c.len-2.ensures in
    let by = ap (λ (x : ChangeData). x.by) c.by_places-second_alone.ensures in
    near_rows c.by_places-second_alone.result.by c.rows-seconds.result.now u c.rows-seconds.ensures.rows
    c.requires.second_placed
    (let few = c.requires.few in omega (arith, by, sum))

pub returns-in_err-put_rows-clause-err : goal.returns-in_err-put_rows-clause-err
returns-in_err-put_rows-clause-err c =
    let t : TableData = c.args.first.now in
    let u : TableData = c.args.second.now in
    let product : c.first_alone.result ≡ length t.rows * length u.rows =
    c.first_alone.ensures ∙ product-of c.len.result c.len-2.result t u c.len.ensures c.len-2.ensures in
    long_on _ _ _ _ c.from_residual-in_err-put_rows.ensures.1 c.in_err-put_rows.ensures.err
    (between-within (pairs_of t u) (change_all (moved (length t.rows * length u.rows)) t.rows)
    (change_all (moved (length t.rows * length u.rows + length t.rows)) u.rows)
    c.new-draft.result c.put_all.new.draft
    (flat_map (λ es. map (pair_row c.len.result c.len-2.result es) (rows_data c.rows-seconds.result.now))
    (rows_data c.rows-firsts.result.now))
    c.new-draft.ensures c.in_ok-put_all.ensures.ok
    (pairs-made c.len.result c.len-2.result t u _ _ c.len.ensures c.len-2.ensures c.rows-firsts.ensures.rows
    c.rows-seconds.ensures.rows)
    (change_all (change_data c.by_places-first_alone.result) (rows_data c.rows-firsts.result.now))
    (changed-made _ _ _ _ (c.by_places-first_alone.ensures ∙ ap moved product) c.rows-firsts.ensures.rows))

pub returns-in_err-put_rows-2-clause-err : goal.returns-in_err-put_rows-2-clause-err
returns-in_err-put_rows-2-clause-err c =
    let t : TableData = c.args.first.now in
    let u : TableData = c.args.second.now in
    let product : c.first_alone.result ≡ length t.rows * length u.rows =
    c.first_alone.ensures ∙ product-of c.len.result c.len-2.result t u c.len.ensures c.len-2.ensures in
    let sum : c.second_alone.result ≡ length t.rows * length u.rows + length t.rows =
    c.second_alone.ensures ∙ sum-of c.len.result c.len-2.result t u c.len.ensures c.len-2.ensures in
    long_on _ _ _ _ c.from_residual-in_err-put_rows-2.ensures.1 c.in_err-put_rows-2.ensures.err
    (second-within (pairs_of t u) (change_all (moved (length t.rows * length u.rows)) t.rows)
    (change_all (moved (length t.rows * length u.rows + length t.rows)) u.rows)
    c.new-draft.result c.put_all.new.draft
    (flat_map (λ es. map (pair_row c.len.result c.len-2.result es) (rows_data c.rows-seconds.result.now))
    (rows_data c.rows-firsts.result.now))
    c.new-draft.ensures c.in_ok-put_all.ensures.ok
    (pairs-made c.len.result c.len-2.result t u _ _ c.len.ensures c.len-2.ensures c.rows-firsts.ensures.rows
    c.rows-seconds.ensures.rows)
    c.put_rows.new.self
    (change_all (change_data c.by_places-first_alone.result) (rows_data c.rows-firsts.result.now))
    c.in_ok-put_rows.ensures.ok
    (changed-made _ _ _ _ (c.by_places-first_alone.ensures ∙ ap moved product) c.rows-firsts.ensures.rows)
    (change_all (change_data c.by_places-second_alone.result) (rows_data c.rows-seconds.result.now))
    (changed-made _ _ _ _ (c.by_places-second_alone.ensures ∙ ap moved sum) c.rows-seconds.ensures.rows))

pub returns-clause-ok : goal.returns-clause-ok
returns-clause-ok c =
    let t : TableData = c.args.first.now in
    let u : TableData = c.args.second.now in
    let product : c.first_alone.result ≡ length t.rows * length u.rows =
    c.first_alone.ensures ∙ product-of c.len.result c.len-2.result t u c.len.ensures c.len-2.ensures in
    let sum : c.second_alone.result ≡ length t.rows * length u.rows + length t.rows =
    c.second_alone.ensures ∙ sum-of c.len.result c.len-2.result t u c.len.ensures c.len-2.ensures in
    let rows =
    all-made (pairs_of t u) (change_all (moved (length t.rows * length u.rows)) t.rows)
    (change_all (moved (length t.rows * length u.rows + length t.rows)) u.rows)
    c.new-draft.result c.put_all.new.draft
    (flat_map (λ es. map (pair_row c.len.result c.len-2.result es) (rows_data c.rows-seconds.result.now))
    (rows_data c.rows-firsts.result.now))
    c.new-draft.ensures c.in_ok-put_all.ensures.ok
    (pairs-made c.len.result c.len-2.result t u _ _ c.len.ensures c.len-2.ensures c.rows-firsts.ensures.rows
    c.rows-seconds.ensures.rows)
    c.put_rows.new.self
    (change_all (change_data c.by_places-first_alone.result) (rows_data c.rows-firsts.result.now))
    c.in_ok-put_rows.ensures.ok
    (changed-made _ _ _ _ (c.by_places-first_alone.ensures ∙ ap moved product) c.rows-firsts.ensures.rows)
    c.put_rows-2.new.self
    (change_all (change_data c.by_places-second_alone.result) (rows_data c.rows-seconds.result.now))
    c.in_ok-put_rows-2.ensures.ok
    (changed-made _ _ _ _ (c.by_places-second_alone.ensures ∙ ap moved sum) c.rows-seconds.ensures.rows) in
    let all : TableData = both_data t u in
    c.table.ensures.made
    ∙ ap (λ xs. record { rows = xs; starts = c.in_ok-starts.starts.items; empty = c.admits_empty-empty.result }) rows
    ∙ ap (λ xs. record { rows = all.rows; starts = xs; empty = c.admits_empty-empty.result }) c.in_ok-starts.ensures
    ∙ ap (λ b. record { rows = all.rows; starts = all.starts; empty = b }) c.admits_empty-empty.ensures
