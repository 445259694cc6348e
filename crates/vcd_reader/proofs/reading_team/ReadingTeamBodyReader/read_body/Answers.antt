use Rattle.std.proofs.Common.{◌≡◌, length, arith}
use Rattle.vcd_reader.specs.Index.{codes_in}
use Rattle.vcd_reader.proofs.ReadingLaws.{read-whole}
use Rattle.vcd_reader.proofs.reading_team.ReadingTeamBodyReader.read_body.Goals as goal

pub returns-in_ok-finish-in-Ok : goal.returns-in_ok-finish-in-Ok
returns-in_ok-finish-in-Ok g c =
    let read = c.in-Ok.ensures in
    let bytes = c.args.bytes.now in
    let declared = codes_in c.args.codes.now.variables.now in
    let ended : c.in-Ok.reading.at ≡ length bytes = omega (arith, read.reached, read.reading.inside) in
    read-whole declared bytes c.args.start _ _ _ read.start read.first
    (c.in_ok-finish-in-Ok.ensures declared bytes read.reading ended)
