use Rattle.std.proofs.Common.{◌≡◌, ◌++◌, take, reverse}
use Rattle.vcd_reader.proofs.scopes.push_reversed.Given as goal

abbrev pub invariant-loop-i : goal.invariant-loop-i
invariant-loop-i l = l.path.items ≡ l.fn.path.items ++ take l.i (reverse l.text)
