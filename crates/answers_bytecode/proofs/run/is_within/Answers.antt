use Rattle.std.proofs.Common.{arith}
use Rattle.std.proofs.Math.Pow.{pow_mono}
use Rattle.answers_bytecode.proofs.run.is_within.Goals as goal

pub returns-then-width-ge128 : goal.returns-then-width-ge128
returns-then-width-ge128 c = λ h. omega (arith, pow_mono {i = 128} {j = c.args.width} c.if-width-ge128.true)
