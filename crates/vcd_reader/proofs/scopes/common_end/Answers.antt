use Rattle.std.proofs.Common.{◌≡◌, ◌-◌, length, drop, sym, arith}
use Rattle.std.proofs.lemmas.List.{take_rest, length-drop}
use Rattle.vcd_reader.proofs.ScopeLaws.{common-same, common-none}
use Rattle.vcd_reader.proofs.scopes.common_end.Goals as goal

pub returns-then-eq-clause-same : goal.returns-then-eq-clause-same
returns-then-eq-clause-same c = λ xs ys.
    let m = length c.args.left.now - c.min-size.result in
    let n = length c.args.right.now - c.min-size.result in
    let same = rw (take_rest c.args.left.now m, take_rest c.args.right.now n) at c.if-eq.ensures in
    common-same xs ys c.args.left.now c.args.right.now m n (sym same)

pub returns-else-eq-clause-same : goal.returns-else-eq-clause-same
returns-else-eq-clause-same c = λ xs ys.
    let m = length c.args.left.now - c.min-size.result in
    let n = length c.args.right.now - c.min-size.result in
    let other = rw (take_rest c.args.left.now m, take_rest c.args.right.now n) at c.if-eq.ensures in
    let long : length (drop m c.args.left.now) ≡ length (drop n c.args.right.now) =
    omega (arith, length-drop m c.args.left.now, length-drop n c.args.right.now) in
    common-none xs ys c.args.left.now c.args.right.now m n long (sym other)
