use Rattle.lexer.proofs.NumberLaws.{low_bits}
use Rattle.lexer.proofs.number.cut.Goals as goal

pub returns : goal.returns
returns c = low_bits c.args.value c.args.width c.requires.most
