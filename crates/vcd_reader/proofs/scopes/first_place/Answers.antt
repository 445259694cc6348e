use Rattle.std.proofs.Common.{sym, inr}
use Rattle.vcd_reader.proofs.ScopeLaws.{first-found}
use Rattle.vcd_reader.proofs.scopes.first_place.Goals as goal

pub returns-then-is_same_path : goal.returns-then-is_same_path
returns-then-is_same_path c =
    inr (first-found c.args.scopes.now c.in-Some.hint.now c.args.parent c.in-Some-scope_at.scope.now
    c.front_in.result.now c.args.front.now c.in-Some-scope_at.scope.now.dotted c.in-Some-scope_at.ensures.1
    c.in-Some-scope_at.ensures.0 c.front_in.ensures (sym c.if-is_same_path.ensures))
