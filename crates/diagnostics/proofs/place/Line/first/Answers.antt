use Rattle.std.proofs.Common.{arith, refl}
use Rattle.std.proofs.lemmas.Str.{IsCharBoundary-start}
use Rattle.diagnostics.proofs.place.Line.first.Goals as goal

pub returns : goal.returns
returns c = record {
  number = refl;
  start = refl;
  reached = omega arith;
  cut = IsCharBoundary-start c.args.text.now c.utf8.text;
}
