use Rattle.std.proofs.Common.{◌≡◌, drop}
use Rattle.source_files.specs.Heads.{from}
use Rattle.source_files.proofs.heads.from.Given as goal

-- the tokens so far stand before the byte
abbrev pub invariant-loop-place : goal.invariant-loop-place
invariant-loop-place l =
    from l.start l.tokens ≡ from l.start (drop l.place l.tokens)
