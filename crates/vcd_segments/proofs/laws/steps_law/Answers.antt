use Rattle.vcd_segments.proofs.StepLaws.{steps-come, steps-go-on, dump-has-steps}
use Rattle.vcd_segments.proofs.LeadLaws.{tokens-lead}
use Rattle.vcd_segments.proofs.laws.steps_law.Goals as goal

pub returns : goal.returns
returns c = record {
  come = steps-come;
  on = steps-go-on;
  lead = tokens-lead;
  dump = dump-has-steps;
}
