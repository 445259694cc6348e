use Rattle.vcd_reader.proofs.GrammarLaws.{reads-dump}
use Rattle.vcd_reader.proofs.FoundLaws.{finds-dump}
use Rattle.vcd_reader.proofs.laws.grammar_law.Goals as goal

pub returns : goal.returns
returns c = λ bytes contents. (reads-dump bytes contents, finds-dump bytes contents)
