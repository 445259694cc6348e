use Rattle.std.proofs.Common.{take}
use Rattle.std.specs.List.{AllZip}
use Rattle.report_explained.specs.Told.{IsToldOf, StandsAt}
use Rattle.report_explained.proofs.failed_attempt.told_of.Given as goal

-- what is told so far
abbrev pub invariant-loop-place : goal.invariant-loop-place
invariant-loop-place l = record {
  told : AllZip (IsToldOf l.lines) (take l.place l.explanations) l.told.items;
  stand : AllZip StandsAt (take l.place l.standings) l.told.items;
}
