use Rattle.std.proofs.Common.{◌+◌, ◌∷◌, [], ◌++◌, ap, ◌∙◌, refl, arith}
use Rattle.import_tokens.specs.declared.piece.Shape.TheVariants as shapes
use Rattle.import_tokens.specs.declared.token.Token.{Token}
use Rattle.import_tokens.proofs.ReadingLaws.{over_a_gap, over_a_token, over_a_mark, adds_one, reads_all}
use Rattle.import_tokens.proofs.expansions.Expansions.tokens.Goals as goal

pub loop-index-preserved-in-Gap : goal.loop-index-preserved-in-Gap
loop-index-preserved-in-Gap c =
    over_a_gap _ c.in_ok-pieces.pieces.items c.loop-index.index c.loop-index.tokens.items c.index.result.now
    c.loop-index.invariant (omega (arith, c.len.ensures)) c.index.ensures c.in-Gap.is

pub loop-index-preserved-in-Lexeme : goal.loop-index-preserved-in-Lexeme
loop-index-preserved-in-Lexeme c =
    over_a_token _ c.in_ok-pieces.pieces.items c.loop-index.index c.loop-index.tokens.items c.index.result.now
    c.loop-index.invariant (omega (arith, c.len.ensures)) c.index.ensures _ c.in-Lexeme.kind c.in-Lexeme.is
    (c.in_ok-push-in-Lexeme.ensures.items
    ∙ ap (λ (t : Token). c.loop-index.tokens.items ++ t ∷ []) c.written_token.ensures)

pub loop-index-preserved-in-Mark : goal.loop-index-preserved-in-Mark
loop-index-preserved-in-Mark c =
    over_a_mark _ c.in_ok-pieces.pieces.items c.loop-index.index (c.loop-index.index + 1) c.loop-index.tokens.items _
    c.index.result.now c.loop-index.invariant (omega (arith, c.len.ensures)) c.index.ensures (omega arith) (omega arith)
    (adds_one _ _ _ _ c.in_ok-push-in-Mark.ensures.items
    (ap (λ (t : Token). t.at) c.written_token-in-Mark.ensures)) (shapes.Mark c.in-Mark.field-0) c.in-Mark.is
    (λ from to h. h)

pub loop-index-preserved : goal.loop-index-preserved
loop-index-preserved c =
    over_a_mark _ c.in_ok-pieces.pieces.items c.loop-index.index c.step_in-step.result.after
    c.loop-index.tokens.items _ c.index.result.now c.loop-index.invariant (omega (arith, c.len.ensures)) c.index.ensures
    c.step_in-step.ensures.0
    (omega (arith, c.len-in-Directive.ensures, c.step_in-step.ensures.1)) c.in_ok-add_remains-in-Directive.ensures
    shapes.Directive c.in-Directive.is (λ from to h. h)

pub returns-clause-tokens : goal.returns-clause-tokens
returns-clause-tokens c =
    reads_all _ c.in_ok-pieces.pieces.items c.loop-index.index c.loop-index.tokens.items _ _ c.loop-index.invariant
    (omega (arith, c.len.ensures)) c.in_ok-push.ensures.items (record { at = refl; kind = refl; bytes = refl })
