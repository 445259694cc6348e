use Rattle.std.proofs.Common.{◌∙◌, [], false, sym}
use Rattle.import_tokens.specs.declared.token.Kind.TheVariants as kinds
use Rattle.import_tokens.specs.declared.token.Token.{Token}
use Rattle.import_unrolling.proofs.KeepLaws.{loop_here, no_loop_here, no_loop_left}
use Rattle.import_unrolling.proofs.keeping.has_loop.Goals as goal

nothing : Token
nothing = record { kind = kinds.Word; at = 0; made = false; text = record { ref_ptr = (0, 0); now = [] } }

pub returns-then-is_loop : goal.returns-then-is_loop
unfolding nothing
returns-then-is_loop c =
    sym (c.loop-token.invariant
    ∙ loop_here c.args.tokens.now c.loop-token.token-index nothing c.loop-token-test.true
    (sym c.is_loop.ensures ∙ c.if-is_loop.true))

pub loop-token-preserved : goal.loop-token-preserved
unfolding nothing
loop-token-preserved c =
    c.loop-token.invariant
    ∙ no_loop_here c.args.tokens.now c.loop-token.token-index nothing c.loop-token-test.true
    (sym c.is_loop.ensures ∙ c.if-is_loop.false)

pub returns : goal.returns
returns c =
    sym (c.loop-token.invariant
    ∙ no_loop_left c.args.tokens.now c.loop-token.token-index c.loop-token-test.false)
