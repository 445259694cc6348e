use Rattle.std.proofs.Common.{string_bytes}
use Rattle.report_page.specs.Pictures.{DrawsSteps}
use Rattle.report_page.proofs.wave.push_steps.Given as goal

-- steps alone so far
abbrev pub invariant-loop-place : goal.invariant-loop-place
invariant-loop-place l = DrawsSteps (string_bytes l.fn.text) (string_bytes l.text)
