use Rattle.std.proofs.Common.{◌≡◌, ℕ, ◌<◌, false, get_or}
use Rattle.cli_names.specs.Spelled.{is_dot}
use Rattle.cli_names.proofs.spelled.first_word.Given as goal

abbrev pub invariant-loop-i : goal.invariant-loop-i
invariant-loop-i l = (k : ℕ) → k < l.i → is_dot (get_or l.path k 0) ≡ false
