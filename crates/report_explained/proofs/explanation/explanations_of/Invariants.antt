use Rattle.std.proofs.Common.{◌≡◌, take, map}
use Rattle.std.specs.List.{AllByRecursion}
use Rattle.report_explained.specs.Explained.{IsExplained, choice_of, counters_of}
use Rattle.report_explained.proofs.explanation.explanations_of.Given as goal

-- the explanations so far
abbrev pub invariant-loop-choice : goal.invariant-loop-choice
invariant-loop-choice l = record {
  are : map choice_of l.explanations.items ≡ take l.choice-index l.choices;
  say : AllByRecursion (IsExplained l.judged.suite.now (counters_of l.judged) l.judged.rows.now) l.explanations.items;
}
