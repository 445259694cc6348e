use Rattle.std.proofs.Common.{length}
use Rattle.std.specs.List.{Contains}
use Rattle.lexer.specs.declared.token.Token.{Token}
use Rattle.parser.proofs.fault.token_at.Given as goal

abbrev pub invariant-behind : goal.invariant-behind
invariant-behind l = (t : Token) → Contains l.left t → Contains l.tokens t

abbrev pub decreases-behind : goal.decreases-behind
decreases-behind l = length l.left
