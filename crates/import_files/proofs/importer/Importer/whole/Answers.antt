use Rattle.std.proofs.Common.{refl}
use Rattle.import_files.proofs.importer.Importer.whole.Goals as goal

pub returns : goal.returns
returns c = record {
  opening = c.meant.new.parts;
  opened = c.args.opened.now;
  there = refl;
  property = c.in_ok-lowered.lowered.property;
  meaning = c.in_ok-lowered.ensures;
  says = c.in_ok-text.ensures;
}
