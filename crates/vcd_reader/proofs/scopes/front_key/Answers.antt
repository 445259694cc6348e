use Rattle.vcd_reader.proofs.ScopeLaws.{key-top}
use Rattle.vcd_reader.proofs.scopes.front_key.Goals as goal

pub returns-in-None : goal.returns-in-None
returns-in-None c = key-top c.args.scopes.now c.args.place c.in-None.ensures
