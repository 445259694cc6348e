use Rattle.std.proofs.Common.{◌≡◌, map, drop}
use Rattle.std.specs.List.{list_any}
use Rattle.std.specs.Str.{bytes_eq}
use Rattle.diagnostics.proofs.items.is_among.Given as goal

-- what the words so far leave to the others
abbrev pub invariant-loop-word : goal.invariant-loop-word
invariant-loop-word l =
    list_any (bytes_eq l.text) (map (λ w. w.now) l.words)
    ≡ list_any (bytes_eq l.text) (map (λ w. w.now) (drop l.word-index l.words))
