use Rattle.workers.proofs.runs.job_report.Given as goal

abbrev pub ghosts-run_in : goal.ghosts-run_in
ghosts-run_in g a = record {
  holds = a.blanks.holds.name;
  vacuous = a.blanks.vacuous.name;
  fails = a.blanks.fails.name;
  disabled = a.blanks.disabled.name;
  shares = a.workers;
}
