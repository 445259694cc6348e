use Rattle.std.proofs.Common.{◌≡◌, drop}
use Rattle.import_unrolling.specs.Unrolled.{has_loop}
use Rattle.import_unrolling.proofs.keeping.has_loop.Given as goal

abbrev pub invariant-loop-token : goal.invariant-loop-token
invariant-loop-token l = has_loop l.tokens ≡ has_loop (drop l.token-index l.tokens)
