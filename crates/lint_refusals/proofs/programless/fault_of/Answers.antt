use Rattle.lint_refusals.proofs.programless.fault_of.Goals as goal

pub returns-in-Ok : goal.returns-in-Ok
returns-in-Ok c = record {
  faultless = c.in-Ok.ensures.faultless;
  program = c.in-Ok._program;
  of = c.in-Ok.ensures.made;
  accepted = c.in-Ok.ensures.accepted;
}
