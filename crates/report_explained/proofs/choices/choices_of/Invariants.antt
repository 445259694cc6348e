use Rattle.std.proofs.Common.{◌≡◌, ◌++◌, drop}
use Rattle.report_explained.specs.Chosen.{chosen_from}
use Rattle.report_explained.proofs.choices.choices_of.Given as goal

-- those of the lines that are left still come
abbrev pub invariant-loop-place : goal.invariant-loop-place
invariant-loop-place l =
    l.choices.items ++ chosen_from l.wanted l.place (drop l.place l.lines) ≡ chosen_from l.wanted 0 l.lines
