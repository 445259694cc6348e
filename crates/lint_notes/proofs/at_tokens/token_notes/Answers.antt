use Rattle.std.proofs.Common.{◌∙◌, ◌++◌, List, ℕ, drop, map, ap}
use Rattle.std.proofs.lemmas.List.{take_rest}
use Rattle.lexer.specs.declared.token.Token.{Token}
use Rattle.lint_notes.specs.Told.{key_of, first_keys}
use Rattle.lint_notes.proofs.KeyLaws.{keys-more}
use Rattle.lint_notes.proofs.at_tokens.token_notes.Goals as goal

pub loop-place-preserved : goal.loop-place-preserved
loop-place-preserved c =
    let facts = c.args.facts.now in
    let tokens = c.args.tokens.now in
    let old = map key_of c.loop-place.notes.items in
    keys-more c.args.text.now facts tokens c.loop-place.place old (map key_of c.push_first.new.notes.items)
    c.loop-place-test.true c.loop-place.invariant
    (c.in_ok-push_first.ensures
    ∙ ap (λ (ts : List Token). old ++ first_keys c.as_bytes.result.now facts ts) (take_rest tokens c.loop-place.place)
    ∙ ap (λ (text : List ℕ). old ++ first_keys text facts (drop c.loop-place.place tokens)) c.as_bytes.ensures.value)
