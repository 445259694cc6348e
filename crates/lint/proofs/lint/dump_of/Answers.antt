use Rattle.lint.proofs.ReadLaws.{reads-parses, all-stand}
use Rattle.lint.proofs.lint.dump_of.Goals as goal

pub returns-clause-parses : goal.returns-clause-parses
returns-clause-parses c = reads-parses c.args.bytes.now _ c.read_dump.result c.read_dump.ensures.accepted

pub returns-clause-refused : goal.returns-clause-refused
returns-clause-refused c = all-stand c.args.bytes.now _ c.read_dump.result c.read_dump.ensures.refused
