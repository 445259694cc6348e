use Rattle.std.proofs.Common.{◌≡◌, take}
use Rattle.std.specs.Prelude.{flat_map}
use Rattle.import_files.specs.Imported.{written_text}
use Rattle.import_files.proofs.text.text_of.Given as goal

-- what is written of the outcomes so far
abbrev pub invariant-loop-outcome : goal.invariant-loop-outcome
invariant-loop-outcome l =
    l.text.items ≡ flat_map written_text (take l.outcome-index l.imported.outcomes.items)
