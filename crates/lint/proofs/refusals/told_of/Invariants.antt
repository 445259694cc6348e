use Rattle.std.proofs.Common.{string_bytes, take}
use Rattle.lint.specs.Reached.{IsReached}
use Rattle.lint.specs.Tells.{TellsEach}
use Rattle.lint.proofs.refusals.told_of.Given as goal

-- those so far, and the line that is reached
abbrev pub invariant-loop-refusal : goal.invariant-loop-refusal
invariant-loop-refusal l = record {
  told : TellsEach l.origin.parts.now l.origin.added.now (take l.refusal-index l.refusals) (string_bytes l.text);
  reached : IsReached l.origin.parts.now l.reached;
}
