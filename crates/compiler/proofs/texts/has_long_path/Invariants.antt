use Rattle.std.proofs.Common.{◌≡◌, take, false}
use Rattle.std.specs.List.{list_any}
use Rattle.compiler.specs.Faults.{is_long_path}
use Rattle.compiler.proofs.texts.has_long_path.Given as goal

abbrev pub invariant-loop-place : goal.invariant-loop-place
invariant-loop-place l = list_any (is_long_path l.signals) (take l.place-index l.places) ≡ false
