use Rattle.std.proofs.Common.{◌≡◌, ◌∙◌, Bool, ap, sym, subst, length, arith}
use Rattle.positions.specs.Rows.{TableData, IsClosedTable, link_data, gap_data, rows_size}
use Rattle.positions.proofs.ResultLaws.{ok_same, err_same}
use Rattle.positions.proofs.SequenceLaws.{gap-placed, gap-length}
use Rattle.positions.proofs.delay.apart.Goals as goal

-- a joining, by what its parts are known to be
linked : (f f' a a' : Bool) (t g g' u : TableData) → f ≡ f' → a ≡ a' → g ≡ g' → link_data f a t g u
    ≡ link_data f' a' t g' u
linked f f' a a' t g g' u is_f is_a is_g =
    ap (λ b. link_data b a t g u) is_f ∙ ap (λ b. link_data f' b t g u) is_a ∙ ap (λ x. link_data f' a' t x u) is_g

pub link-requires-clause-between_placed : goal.link-requires-clause-between_placed
link-requires-clause-between_placed c =
    let few = c.requires.few in
    subst IsClosedTable (sym c.in_ok-between.ensures.ok) (gap-placed c.args.least c.args.most (omega arith))

pub link-requires-clause-few : goal.link-requires-clause-few
link-requires-clause-few c =
    let few = c.requires.few in
    let long = ap (λ (x : TableData). length x.rows) c.in_ok-between.ensures.ok in
    omega (arith, few, long, gap-length c.args.least c.args.most)

pub returns-clause-ok : goal.returns-clause-ok
returns-clause-ok c =
    ok_same c.link.result _ _ c.link.ensures.ok
    (linked _ _ _ _ c.args.first.now c.in_ok-between.between (gap_data c.args.least c.args.most) c.args.second.now
    c.is_fused-fuses.ensures c.is_later-follows.ensures c.in_ok-between.ensures.ok)

pub returns-clause-err : goal.returns-clause-err
returns-clause-err c =
    err_same c.link.result _ _ c.link.ensures.err
    (ap (λ (x : TableData). rows_size x.rows)
    (linked _ _ _ _ c.args.first.now c.in_ok-between.between (gap_data c.args.least c.args.most) c.args.second.now
    c.is_fused-fuses.ensures c.is_later-follows.ensures c.in_ok-between.ensures.ok))
