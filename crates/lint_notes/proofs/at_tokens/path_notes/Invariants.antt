use Rattle.std.proofs.Common.{◌≡◌, ◌++◌, drop, map}
use Rattle.lint_notes.specs.Told.{key_of, fact_key}
use Rattle.lint_notes.proofs.at_tokens.path_notes.Given as goal

-- the notes of the facts that are left still come
abbrev pub invariant-loop-fact : goal.invariant-loop-fact
invariant-loop-fact l =
    map key_of l.notes.items ++ map (fact_key l.text l.tokens) (drop l.fact-index l.facts)
    ≡ map (fact_key l.text l.tokens) l.facts
