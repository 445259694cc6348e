use Rattle.vcd_reader.specs.Index.{codes_in}
use Rattle.vcd_reader.proofs.parts.read_part.Goals as goal

pub read_to-requires-2-clause-reading : goal.read_to-requires-2-clause-reading
read_to-requires-2-clause-reading c =
    c.new-2.ensures.reading (codes_in c.args.codes.now.variables.now) c.args.bytes.now
    c.in-Ok.ensures.reading.inside
