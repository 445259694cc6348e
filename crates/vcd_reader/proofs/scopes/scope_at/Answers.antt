use Rattle.vcd_reader.proofs.ScopeLaws.{opened-top, opened-outside}
use Rattle.vcd_reader.proofs.scopes.scope_at.Goals as goal

pub returns-then-place-eq0 : goal.returns-then-place-eq0
returns-then-place-eq0 c = rw c.if-place-eq0.true (opened-top c.args.scopes.now)

pub returns-then-place-scopes : goal.returns-then-place-scopes
returns-then-place-scopes c = opened-outside c.args.scopes.now c.args.place c.if-place-scopes.true
