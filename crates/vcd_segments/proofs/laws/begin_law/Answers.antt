use Rattle.vcd_segments.proofs.BeginLaws.{dump-begins, dump-goes-on, dump-fails, dump-ends}
use Rattle.vcd_segments.proofs.BeginLaws.{header-fails}
use Rattle.vcd_segments.proofs.laws.begin_law.Goals as goal

pub returns : goal.returns
returns c = record {
  begins = dump-begins;
  on = dump-goes-on;
  fails = dump-fails;
  ends = dump-ends;
  header = header-fails;
}
