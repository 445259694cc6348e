use Rattle.std.proofs.Common.{◌≡◌, ◌∙◌, ◌-◌, ℕ, List, take, ap, arith}
use Rattle.std.specs.Prelude.{slice_index}
use Rattle.std.proofs.lemmas.List.{take_all}
use Rattle.cycle_window.specs.Ticks.{ticks_of, row_of}
use Rattle.cycle_window.specs.Held.{columns_in, places_in, clock_in}
use Rattle.cycle_window.proofs.window.Window.put_row.Goals as goal

pub returns-clause-row : goal.returns-clause-row
returns-clause-row c = λ c' over.
    let columns = columns_in c.args.self.now in
    let all = places_in columns in
    let wide = c.width-width.ensures in
    let whole : take (c.width-width.result - 0) all ≡ all =
    take_all (c.width-width.result - 0) all (omega (arith, wide)) in
    let k = slice_index (ticks_of c' (clock_in columns)) c.args.tick in
    c.put_part.ensures.part c' over ∙ ap (λ (xs : List ℕ). row_of c' xs k) whole
