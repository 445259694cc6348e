use Rattle.std.proofs.Common.{◌≡◌, ◌∙◌, length, arith}
use Rattle.vcd_reader.specs.Index.{codes_in}
use Rattle.vcd_reader.proofs.ReadingLaws.{read-whole}
use Rattle.vcd_reader.proofs.one_thread.OneThreadBodyReader.read_body.Goals as goal

pub returns : goal.returns
returns c =
    let read = c.in_ok-reading.ensures in
    let bytes = c.args.bytes.now in
    let declared = codes_in c.args.codes.now.variables.now in
    let ended : c.in_ok-reading.reading.at ≡ length bytes = omega (arith, read.reached, read.reading.inside) in
    read-whole declared bytes c.args.start _ _ _ (read.start ∙ c.new.ensures.start) (read.first ∙ c.new.ensures.first)
    (c.in_ok-finish.ensures declared bytes read.reading ended)
