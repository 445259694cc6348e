use Rattle.std.proofs.Common.{ℕ, ◌<◌, ◌^◌}
use Rattle.std.specs.Prelude.{slice_index}
use Rattle.answers_bytecode.proofs.run.is_row.Given as goal

abbrev pub invariant-loop-index : goal.invariant-loop-index
invariant-loop-index l = (k : ℕ) → k < l.index → slice_index l.row k < 2 ^ slice_index l.widths k
