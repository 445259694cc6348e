use Rattle.std.proofs.Common.{◌≡◌, ◌++◌, string_bytes, drop}
use Rattle.std.specs.Prelude.{codes}
use Rattle.std.specs.List.{flat_map}
use Rattle.lexer.specs.declared.token.Token.{Token}
use Rattle.types_names.proofs.path.push_words.Given as goal

-- the words so far
abbrev pub invariant-loop-word : goal.invariant-loop-word
invariant-loop-word l =
    string_bytes l.text ++ flat_map (λ (w : Token). codes "." ++ w.text.now) (drop l.word-index l.words)
    ≡ string_bytes l.fn.text ++ flat_map (λ (w : Token). codes "." ++ w.text.now) l.words
