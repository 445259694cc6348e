use Rattle.std.proofs.Common.{◌∙◌, ◌++◌, ◌+◌, false, List, ℕ, [], sym, ap, drop}
use Rattle.import_tokens.specs.declared.token.Kind.TheVariants as kinds
use Rattle.import_tokens.specs.declared.token.Token.{Token}
use Rattle.import_unrolling.specs.Unrolled.{word_bytes}
use Rattle.import_unrolling.proofs.KeepLaws.{word_here, no_word_here, bytes_more, bytes_all}
use Rattle.import_unrolling.proofs.keeping.bytes_of.Goals as goal

nothing : Token
nothing = record { kind = kinds.Word; at = 0; made = false; text = record { ref_ptr = (0, 0); now = [] } }

pub loop-token-preserved : goal.loop-token-preserved
unfolding nothing
loop-token-preserved c =
    let tokens = c.args.tokens.now in
    let place = c.loop-token.token-index in
    bytes_more c.loop-token.bytes.items _ _ (word_bytes (drop place tokens)) (word_bytes (drop (place + 1) tokens))
    (word_bytes tokens) c.loop-token.invariant
    (word_here tokens place nothing c.loop-token-test.true
    (sym c.begins_assertion.ensures ∙ c.if-not-begins_assertion.false)) c.in_ok-push.ensures.items

pub loop-token-preserved-then-not-begins_assertion :
    goal.loop-token-preserved-then-not-begins_assertion
unfolding nothing
loop-token-preserved-then-not-begins_assertion c =
    let tokens = c.args.tokens.now in
    let place = c.loop-token.token-index in
    c.loop-token.invariant
    ∙ ap (λ (bs : List ℕ). c.loop-token.bytes.items ++ bs)
    (no_word_here tokens place nothing c.loop-token-test.true
    (sym c.begins_assertion.ensures ∙ c.if-not-begins_assertion.true))

pub returns : goal.returns
returns c =
    bytes_all c.args.tokens.now c.loop-token.bytes.items c.loop-token.token-index (word_bytes c.args.tokens.now)
    c.loop-token-test.false c.loop-token.invariant
