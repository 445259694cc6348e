use Rattle.std.proofs.Common.{◌∙◌, ◌++◌, ◌∷◌, [], List, ℕ, ap}
use Rattle.vcd_reader.proofs.ScopeLaws.{name-dotted}
use Rattle.vcd_reader.proofs.scopes.with_dot.Goals as goal

pub returns-clause-name : goal.returns-clause-name
returns-clause-name c =
    name-dotted _ _
    (c.in_ok-push.ensures.items
    ∙ ap (λ (xs : List ℕ). xs ++ 46 ∷ []) (c.in_ok-extend_from_slice.ensures.items
    ∙ ap (λ (xs : List ℕ). xs ++ c.args.name.now) c.in_ok-front.ensures.items))
