use Rattle.std.proofs.Common.{◌≡◌, map, drop}
use Rattle.std.specs.List.{list_all}
use Rattle.axi4_rules.specs.Names.{is_word}
use Rattle.axi4_rules.proofs.names.are_words.Given as goal

abbrev pub invariant-loop-text : goal.invariant-loop-text
invariant-loop-text l =
    list_all is_word (map (λ w. w.now) l.texts) ≡ list_all is_word (map (λ w. w.now) (drop l.text-index l.texts))
