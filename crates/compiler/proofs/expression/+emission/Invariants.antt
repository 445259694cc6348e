use Rattle.std.proofs.Common.{◌≡◌, ◌+◌, ◌<◌, map, drop, IsTrue}
use Rattle.expressions.specs.Nodes.{seen_node, step_of, all_typed, all_parts_typed}
use Rattle.expressions.specs.Chains.{AllNarrow}
use Rattle.compiler.specs.Chains.{sums_code, shifts_code, compares_code, connects_code}
use Rattle.compiler.specs.Chains.{parts_code, chain_reach, parts_reach}
use Rattle.compiler.specs.Slots.{slots_in}
use Rattle.compiler.specs.Written.{written}
use Rattle.compiler.proofs.expression.+emission.Given as goal

abbrev pub invariant-combine_all-loop-step : goal.invariant-combine_all-loop-step
invariant-combine_all-loop-step l = record {
  same : written l.code (sums_code (slots_in l.slots) l.width l.back (map step_of (drop l.step-index
      l.steps)))
      ≡ written l.initial.code (sums_code (slots_in l.slots) l.width l.back (map step_of l.steps));
  typed : IsTrue (all_typed (map step_of (drop l.step-index l.steps)));
  narrow : AllNarrow l.width (map step_of (drop l.step-index l.steps));
  near : l.back + chain_reach (map step_of (drop l.step-index l.steps)) < 65536;
}

abbrev pub invariant-shift_all-loop-step : goal.invariant-shift_all-loop-step
invariant-shift_all-loop-step l = record {
  same : written l.code (shifts_code (slots_in l.slots) l.back (map step_of (drop l.step-index
      l.steps)))
      ≡ written l.initial.code (shifts_code (slots_in l.slots) l.back (map step_of l.steps));
  typed : IsTrue (all_typed (map step_of (drop l.step-index l.steps)));
  near : l.back + chain_reach (map step_of (drop l.step-index l.steps)) < 65536;
}

abbrev pub invariant-compare_all-loop-step : goal.invariant-compare_all-loop-step
invariant-compare_all-loop-step l = record {
  same : written l.code (compares_code (slots_in l.slots) l.left l.back (map step_of (drop
      l.step-index l.steps)))
      ≡ written l.initial.code (compares_code (slots_in l.slots) l.initial.left l.back (map step_of
      l.steps));
  typed : IsTrue (all_typed (map step_of (drop l.step-index l.steps)));
  near : l.back + chain_reach (map step_of (drop l.step-index l.steps)) < 65536;
}

abbrev pub invariant-connect_all-loop-step : goal.invariant-connect_all-loop-step
invariant-connect_all-loop-step l = record {
  same : written l.code (connects_code (slots_in l.slots) l.left l.back (map step_of (drop
      l.step-index l.steps)))
      ≡ written l.initial.code (connects_code (slots_in l.slots) l.initial.left l.back (map step_of
      l.steps));
  typed : IsTrue (all_typed (map step_of (drop l.step-index l.steps)));
  near : l.back + chain_reach (map step_of (drop l.step-index l.steps)) < 65536;
}

abbrev pub invariant-join_all-loop-part : goal.invariant-join_all-loop-part
invariant-join_all-loop-part l = record {
  same : written l.code (parts_code (slots_in l.slots) l.back (map seen_node (drop l.part-index
      l.parts)))
      ≡ written l.initial.code (parts_code (slots_in l.slots) l.back (map seen_node l.parts));
  typed : IsTrue (all_parts_typed (map seen_node (drop l.part-index l.parts)));
  near : l.back + parts_reach (map seen_node (drop l.part-index l.parts)) < 65536;
}
