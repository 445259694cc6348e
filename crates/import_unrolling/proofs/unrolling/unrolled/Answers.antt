use Rattle.std.proofs.Common.{refl}
use Rattle.import_unrolling.proofs.KeepLaws.{unrolls_same}
use Rattle.import_unrolling.proofs.unrolling.unrolled.Goals as goal

pub returns-in_default : goal.returns-in_default
returns-in_default c = unrolls_same c.args.tokens.items _ refl
