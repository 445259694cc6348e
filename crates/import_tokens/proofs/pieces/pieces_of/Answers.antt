use Rattle.std.proofs.Common.{refl}
use Rattle.import_tokens.proofs.PieceLaws.{piece_more, pieces_all}
use Rattle.import_tokens.proofs.pieces.pieces_of.Goals as goal

pub loop-at-preserved : goal.loop-at-preserved
loop-at-preserved c = record {
  inside = c.in-Some.ensures.inside.1;
  so_far =
      piece_more _ _ c.in_ok-push.ensures.items (record {
        at = refl;
        some = c.in-Some.ensures.inside.0;
        inside = c.in-Some.ensures.inside.1;
        bytes = refl;
        shape = c.in-Some.ensures.shape;
      }) c.loop-at.invariant.so_far;
}

pub returns-clause-pieces : goal.returns-clause-pieces
returns-clause-pieces c =
    pieces_all c.args.text.now c.loop-at.at c.loop-at.pieces.items c.loop-at.invariant.inside c.loop-at-test.false
    c.loop-at.invariant.so_far
