use Rattle.std.proofs.Common.{◌-◌}
use Rattle.import_rewriting.proofs.make.+each_later.Given as goal

abbrev pub decreases-each_later : goal.decreases-each_later
decreases-each_later l = l.most - l.least
