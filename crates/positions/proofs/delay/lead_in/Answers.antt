use Rattle.std.proofs.Common.{◌≡◌, ◌∙◌, true, false, ap, sym, subst, length, arith}
use Rattle.positions.specs.Rows.{TableData, IsClosedTable, link_data}
use Rattle.positions.proofs.ResultLaws.{ok_same}
use Rattle.positions.proofs.SequenceLaws.{ticks-placed, ticks-length}
use Rattle.positions.proofs.delay.lead_in.Goals as goal

linked : (t t' g g' u : TableData) → t ≡ t' → g ≡ g' → link_data false true t g u ≡ link_data false true t' g' u
linked t t' g g' u is_t is_g = ap (λ x. link_data false true x g u) is_t ∙ ap (λ x. link_data false true t' x u) is_g

pub link-requires-clause-first_placed : goal.link-requires-clause-first_placed
link-requires-clause-first_placed c =
    let few = c.requires.few in
    subst IsClosedTable (sym c.in_ok-delay.ensures.ok) (ticks-placed c.args.least c.args.most (omega arith))

pub link-requires-clause-few : goal.link-requires-clause-few
link-requires-clause-few c =
    let few = c.requires.few in
    let long = ap (λ (x : TableData). length x.rows) c.in_ok-delay.ensures.ok in
    let none = ap (λ (x : TableData). length x.rows) c.still-none.ensures in
    omega (arith, few, long, none, ticks-length c.args.least c.args.most)

pub returns-clause-ok : goal.returns-clause-ok
returns-clause-ok c =
    ok_same c.link.result _ _ c.link.ensures.ok
    (linked c.in_ok-delay.delay _ c.still-none.result _ c.args.body.now c.in_ok-delay.ensures.ok c.still-none.ensures)
