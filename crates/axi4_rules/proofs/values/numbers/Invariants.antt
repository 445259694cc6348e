use Rattle.std.proofs.Common.{◌≡◌, map, drop}
use Rattle.axi4_rules.specs.Lines.{all_numbers}
use Rattle.axi4_rules.proofs.ListLaws.{with_front}
use Rattle.axi4_rules.proofs.values.numbers.Given as goal

abbrev pub invariant-loop-text : goal.invariant-loop-text
invariant-loop-text l =
    all_numbers (map (λ t. t.now) l.texts)
    ≡ with_front l.found.items (all_numbers (map (λ t. t.now) (drop l.text-index l.texts)))
