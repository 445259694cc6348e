use Rattle.std.proofs.Common.{◌≡◌, ◌++◌, map, drop}
use Rattle.std.specs.Prelude.{not}
use Rattle.std.specs.List.{filter}
use Rattle.axi4_rules.specs.Texts.{is_empty}
use Rattle.axi4_rules.proofs.text.without_empty.Given as goal

abbrev pub invariant-loop-text : goal.invariant-loop-text
invariant-loop-text l =
    filter (λ t. not (is_empty t)) (map (λ t. t.now) l.texts)
    ≡ map (λ t. t.now) l.found.items ++ filter (λ t. not (is_empty t)) (map (λ t. t.now) (drop l.text-index l.texts))
