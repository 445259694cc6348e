use Rattle.std.proofs.Common.{◌∙◌, sym, ap, List, ℕ, ◌++◌, ◌∷◌, []}
use Rattle.std.specs.List.{flat_map}
use Rattle.vcd_reader.proofs.ScopeLaws.{opened-top, front-some}
use Rattle.vcd_reader.proofs.scopes.first_of.Goals as goal

pub returns-in-None-clause-same : goal.returns-in-None-clause-same
returns-in-None-clause-same c =
    ap (λ (xs : List (List ℕ)). flat_map (λ s. s ++ 46 ∷ []) xs)
    (opened-top c.args.scopes.now ∙ sym c.in-None.ensures)

pub returns-in-Some-clause-top : goal.returns-in-Some-clause-top
returns-in-Some-clause-top c =
    λ e. absurd
    (front-some c.args.scopes.now c.args.place c.in-Some.scope.now c.in-Some.scope.now.dotted c.in-Some.ensures.1 e)
