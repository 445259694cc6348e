use Rattle.std.proofs.Common.{◌≡◌, ℕ, ◌<◌, length, get_or}
use Rattle.bytecode_programs.specs.Views.{section_data}
use Rattle.machine.specs.Bases.{base_at}
use Rattle.machine.proofs.bases.bases_of.Given as goal

abbrev pub invariant-loop-p : goal.invariant-loop-p
invariant-loop-p l = record {
  here : l.base ≡ base_at (section_data l.section).blocks l.p;
  all : length l.bases.items ≡ l.p;
  each : (k : ℕ) → k < l.p → get_or l.bases.items k 0 ≡ base_at (section_data l.section).blocks k;
}
