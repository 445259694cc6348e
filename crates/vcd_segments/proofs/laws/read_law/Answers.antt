use Rattle.vcd_segments.proofs.ReadLaws.{chunk-goes-on, chunk-fails, last-chunk-ends, last-chunk-fails}
use Rattle.vcd_segments.proofs.laws.read_law.Goals as goal

pub returns : goal.returns
returns c = record {
  on = chunk-goes-on;
  fails = chunk-fails;
  ends = last-chunk-ends;
  last = last-chunk-fails;
}
