use Rattle.std.proofs.Common.{◌∙◌, sym, ap, List, ℕ}
use Rattle.vcd_reader.specs.Header.{outer_scopes}
use Rattle.vcd_reader.proofs.ScopeLaws.{opened-top}
use Rattle.vcd_reader.proofs.scopes.outer_place.Goals as goal

pub returns-in-None-clause-outer : goal.returns-in-None-clause-outer
returns-in-None-clause-outer c =
    opened-top c.args.scopes.now ∙ ap (λ (xs : List (List ℕ)). outer_scopes xs) (sym c.in-None.ensures)
