use Rattle.std.proofs.Common.{◌≡◌, ◌++◌, take}
use Rattle.std.specs.Prelude.{flat_map}
use Rattle.import_text.specs.Texts.{after_dot}
use Rattle.import_text.proofs.text.push_dotted.Given as goal

-- what is added of the words so far
abbrev pub invariant-loop-word : goal.invariant-loop-word
invariant-loop-word l =
    l.out.items ≡ l.initial.out.items ++ flat_map after_dot (take l.word-index l.words)
