use Rattle.std.proofs.Common.{◌≡◌, ◌+◌, ◌++◌, map, take, vec_len, vec_capacity}
use Rattle.cycle_window.specs.Samples.{value_at}
use Rattle.cycle_window.proofs.picks.push_picked.Given as goal

abbrev pub invariant-loop-pick : goal.invariant-loop-pick
invariant-loop-pick l = record {
  values : l.values.items ≡ l.fn.values.items ++ map (value_at l.all l.tick) (take l.pick-index l.picks);
  len : vec_len l.values ≡ vec_len l.fn.values + l.pick-index;
  capacity : vec_capacity l.values ≡ vec_capacity l.fn.values;
}
