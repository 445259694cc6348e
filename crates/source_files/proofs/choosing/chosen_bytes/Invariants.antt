use Rattle.std.proofs.Common.{◌≡◌, ◌++◌, map, drop}
use Rattle.source_files.specs.Heads.{head_of}
use Rattle.source_files.specs.Chosen.{chosen_text}
use Rattle.source_files.proofs.choosing.chosen_bytes.Given as goal

-- what is left so far, and then of what follows
abbrev pub invariant-loop-one : goal.invariant-loop-one
invariant-loop-one l =
    l.out.items ++ chosen_text l.patterns l.bytes l.at (map head_of (drop l.one-index l.named))
    ≡ chosen_text l.patterns l.bytes 0 (map head_of l.named)
