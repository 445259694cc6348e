use Rattle.std.proofs.Common.{◌≡◌, map, drop}
use Rattle.std.specs.List.{list_any}
use Rattle.std.specs.Str.{bytes_eq}
use Rattle.lint_notes.proofs.reset_told.is_among.Given as goal

-- what the words so far leave to the others
abbrev pub invariant-loop-one : goal.invariant-loop-one
invariant-loop-one l =
    list_any (bytes_eq l.word) (map (λ w. w.now) l.words)
    ≡ list_any (bytes_eq l.word) (map (λ w. w.now) (drop l.one-index l.words))
