use Rattle.std.proofs.Common.{◌≡◌, ◌++◌, ◌∷◌, [], map, drop}
use Rattle.std.specs.List.{flat_map}
use Rattle.vcd_declarations.proofs.header.push_front.Given as goal

abbrev pub invariant-loop-scope : goal.invariant-loop-scope
invariant-loop-scope l =
    l.text.items ++ flat_map (λ s. s ++ 46 ∷ []) (map (λ s. s.now) (drop l.scope-index l.scopes))
    ≡ l.initial.text.items ++ flat_map (λ s. s ++ 46 ∷ []) (map (λ s. s.now) l.scopes)
