use Rattle.std.proofs.Common.{◌≡◌, All, map, take}
use Rattle.import_files.specs.Imported.{OutcomeSays}
use Rattle.import_files.proofs.outcomes.outcomes_of.Given as goal

-- the words of the outcomes so far, and what is written of them
abbrev pub invariant-loop-place : goal.invariant-loop-place
invariant-loop-place l = record {
  words : map (λ one. one.word) l.outcomes.items ≡ take l.place l.file.words.items;
  said : All (OutcomeSays l.reading) l.outcomes.items;
  reading : l.importer.reading ≡ l.reading;
}
