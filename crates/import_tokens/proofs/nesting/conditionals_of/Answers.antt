use Rattle.std.proofs.Common.{false}
use Rattle.import_tokens.specs.Conditionals.{conditionals}
use Rattle.import_tokens.proofs.ConditionalLaws.{found_more, found_all}
use Rattle.import_tokens.proofs.nesting.conditionals_of.Goals as goal

pub loop-piece-preserved : goal.loop-piece-preserved
loop-piece-preserved c =
    found_more c.args.pieces.now c.loop-piece.piece-index _ c.loop-piece-test.true c.loop-piece.defining
    c.is_defining-defining.result c.turn_in.result c.loop-piece.found.items c.add_turn.new.found.items
    (conditionals false c.args.pieces.now) c.is_defining-defining.ensures c.turn_in.ensures c.loop-piece.invariant
    c.in_ok-add_turn.ensures

pub returns : goal.returns
returns c =
    found_all c.args.pieces.now c.loop-piece.piece-index c.loop-piece.defining c.loop-piece.found.items
    (conditionals false c.args.pieces.now) c.loop-piece-test.false c.loop-piece.invariant
