use Rattle.vcd_declarations.proofs.PartLaws.{dump-declares}
use Rattle.vcd_declarations.proofs.laws.declarations_law.Goals as goal

pub returns : goal.returns
returns c = λ bytes contents read. dump-declares bytes contents ((c.grammar_law.ensures bytes contents).1 read)
