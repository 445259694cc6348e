use Rattle.std.proofs.Common.{◌≡◌, length, ◌-◌}
use Rattle.vcd_reader.specs.Index.{codes_in}
use Rattle.vcd_reader.specs.Readings.{IsReading}
use Rattle.vcd_reader.proofs.reading.Reading.read_to.Given as goal

abbrev pub invariant-items : goal.invariant-items
invariant-items l = record {
  read : IsReading (codes_in l.codes.variables.now) l.bytes l.reading;
  start : l.reading.start ≡ l.fn.self.start;
  first : l.reading.first ≡ l.fn.self.first;
}

abbrev pub decreases-items : goal.decreases-items
decreases-items l = length l.bytes - l.reading.at
