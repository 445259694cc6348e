use Rattle.std.proofs.Common.{refl}
use Rattle.import_unrolling.proofs.KeepLaws.{unrolls_same}
use Rattle.import_unrolling.proofs.keeping.kept.Goals as goal

pub returns : goal.returns
returns c = unrolls_same c.args.tokens.items _ refl
