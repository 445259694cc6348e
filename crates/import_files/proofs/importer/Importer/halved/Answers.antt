use Rattle.std.proofs.Common.{refl}
use Rattle.import_files.proofs.importer.Importer.halved.Goals as goal

pub returns : goal.returns
returns c = record {
  opening = c.both_meant.new.parts;
  opened = c.args.opened.now;
  there = refl;
  first = c.in_ok-first.first.property;
  second = c.in_ok-first.second.property;
  meaning = c.in_ok-first.ensures;
  first_says = c.in_ok-one.ensures;
  second_says = c.in_ok-other.ensures;
}
