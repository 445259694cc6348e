use Rattle.std.proofs.Common.{◌∙◌, ◌++◌, ◌+◌, List, ℕ, [], false, sym, ap, drop}
use Rattle.import_tokens.specs.declared.token.Kind.TheVariants as kinds
use Rattle.import_tokens.specs.declared.token.Token.{Token}
use Rattle.import_scopes.specs.Words.{word_places}
use Rattle.import_scopes.proofs.WordLaws.{word_here, no_word_here, word_more, words_all}
use Rattle.import_scopes.proofs.words.words_of.Goals as goal

nothing : Token
nothing = record { kind = kinds.Word; at = 0; made = false; text = record { ref_ptr = (0, 0); now = [] } }

pub loop-place-preserved : goal.loop-place-preserved
unfolding nothing
loop-place-preserved c =
    let tokens = c.args.tokens.now in
    let place = c.loop-place.place in
    word_more tokens c.loop-place.words.items _ place (word_places (place + 1) (drop (place + 1) tokens))
    (word_places 0 tokens) c.loop-place.invariant
    (word_here tokens place nothing c.loop-place-test.true
    (sym c.is_begun.ensures ∙ c.if-not-is_begun.false)) c.in_ok-push.ensures.items

pub loop-place-preserved-then-not-is_begun : goal.loop-place-preserved-then-not-is_begun
unfolding nothing
loop-place-preserved-then-not-is_begun c =
    let tokens = c.args.tokens.now in
    let place = c.loop-place.place in
    c.loop-place.invariant
    ∙ ap (λ (ws : List ℕ). c.loop-place.words.items ++ ws)
    (no_word_here tokens place nothing c.loop-place-test.true
    (sym c.is_begun.ensures ∙ c.if-not-is_begun.true))

pub returns : goal.returns
returns c =
    words_all c.args.tokens.now c.loop-place.words.items c.loop-place.place (word_places 0 c.args.tokens.now)
    c.loop-place-test.false c.loop-place.invariant
