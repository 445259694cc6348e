use Rattle.expressions.proofs.Meanings.{chains_compare_bits}
use Rattle.expressions.proofs.laws.chain_law.Goals as goal

pub returns : goal.returns
returns c = chains_compare_bits
