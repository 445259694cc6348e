use Rattle.std.proofs.Common.{◌≡◌, map, drop}
use Rattle.std.specs.List.{list_any}
use Rattle.diagnostics.specs.Strays.{is_word_before}
use Rattle.diagnostics.proofs.stray.is_one_before.Given as goal

-- what the words so far leave to the others
abbrev pub invariant-loop-word : goal.invariant-loop-word
invariant-loop-word l =
    list_any (is_word_before l.text l.at) (map (λ w. w.now) l.words)
    ≡ list_any (is_word_before l.text l.at) (map (λ w. w.now) (drop l.word-index l.words))
