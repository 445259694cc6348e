use Rattle.std.proofs.Common.{◌≡◌, map, drop, IsTrue}
use Rattle.expressions.specs.Nodes.{seen_node, step_of, all_typed, all_parts_typed}
use Rattle.expressions.specs.Rows.{samples_of}
use Rattle.expressions.specs.Chains.{sums_from, shifts_from, compares_from, connects_from, concats_from, total_of}
use Rattle.expressions.specs.Chains.{tested_width, AllNarrow}
use Rattle.expressions.proofs.evaluate.+evaluation.Given as goal

abbrev pub invariant-combine_all-loop-step : goal.invariant-combine_all-loop-step
invariant-combine_all-loop-step l = record {
  width : l.sum.width ≡ l.first.width;
  value : sums_from (samples_of l.rows) l.tick l.first.width l.sum.value (map step_of (drop l.step-index l.steps))
      ≡ sums_from (samples_of l.rows) l.tick l.first.width l.first.value (map step_of l.steps);
  typed : IsTrue (all_typed (map step_of (drop l.step-index l.steps)));
  narrow : AllNarrow l.first.width (map step_of (drop l.step-index l.steps));
}

abbrev pub invariant-shift_all-loop-step : goal.invariant-shift_all-loop-step
invariant-shift_all-loop-step l = record {
  width : l.shifted.width ≡ l.fn.first.width;
  value : shifts_from (samples_of l.rows) l.tick l.fn.first.width l.shifted.value
      (map step_of (drop l.step-index l.steps)) ≡ shifts_from (samples_of l.rows) l.tick l.fn.first.width
      l.fn.first.value (map step_of l.steps);
  typed : IsTrue (all_typed (map step_of (drop l.step-index l.steps)));
}

abbrev pub invariant-compare_all-loop-step : goal.invariant-compare_all-loop-step
invariant-compare_all-loop-step l = record {
  width : tested_width l.left.width (map step_of (drop l.step-index l.steps))
      ≡ tested_width l.fn.first.width (map step_of l.steps);
  value : compares_from (samples_of l.rows) l.tick l.left.width l.left.value (map step_of (drop l.step-index l.steps))
      ≡ compares_from (samples_of l.rows) l.tick l.fn.first.width l.fn.first.value (map step_of l.steps);
  typed : IsTrue (all_typed (map step_of (drop l.step-index l.steps)));
}

abbrev pub invariant-connect_all-loop-step : goal.invariant-connect_all-loop-step
invariant-connect_all-loop-step l = record {
  width : tested_width l.left.width (map step_of (drop l.step-index l.steps))
      ≡ tested_width l.fn.first.width (map step_of l.steps);
  value : connects_from (samples_of l.rows) l.tick l.left.value (map step_of (drop l.step-index l.steps))
      ≡ connects_from (samples_of l.rows) l.tick l.fn.first.value (map step_of l.steps);
  typed : IsTrue (all_typed (map step_of (drop l.step-index l.steps)));
}

abbrev pub invariant-join_all-loop-part : goal.invariant-join_all-loop-part
invariant-join_all-loop-part l = record {
  width : total_of l.bits.width (map seen_node (drop l.part-index l.parts))
      ≡ total_of l.fn.first.width (map seen_node l.parts);
  value : concats_from (samples_of l.rows) l.tick l.bits.value (map seen_node (drop l.part-index l.parts))
      ≡ concats_from (samples_of l.rows) l.tick l.fn.first.value (map seen_node l.parts);
  typed : IsTrue (all_parts_typed (map seen_node (drop l.part-index l.parts)));
}
