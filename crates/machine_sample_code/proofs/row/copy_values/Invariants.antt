use Rattle.std.proofs.Common.{◌≡◌, ◌+◌, ◌++◌, take, drop, length}
use Rattle.machine_sample_code.proofs.row.copy_values.Given as goal

abbrev pub invariant-loop-index : goal.invariant-loop-index
invariant-loop-index l = record {
  long : length l.row ≡ length l.initial.row;
  copied : l.row ≡ take l.at l.initial.row ++ take l.index l.values ++ drop (l.at + l.index) l.initial.row;
}
