use Rattle.std.proofs.Common.{◌≡◌, take}
use Rattle.report_lines.specs.Tallies.{is_holds, is_vacuous, is_fails, is_disabled}
use Rattle.machine_batches.specs.Streaks.{attempts_in_all}
use Rattle.verdicts.specs.Counts.{count_of}
use Rattle.verdicts.proofs.counts.batch_counts.Given as goal

-- the streaks so far are counted
abbrev pub invariant-loop-streak : goal.invariant-loop-streak
invariant-loop-streak l = record {
  holds : l.holds ≡ count_of is_holds (attempts_in_all (take l.streak-index l.streak-items));
  vacuous : l.vacuous ≡ count_of is_vacuous (attempts_in_all (take l.streak-index l.streak-items));
  fails : l.fails ≡ count_of is_fails (attempts_in_all (take l.streak-index l.streak-items));
  disabled : l.disabled
      ≡ count_of is_disabled (attempts_in_all (take l.streak-index l.streak-items));
}
