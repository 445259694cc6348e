use Rattle.std.proofs.Common.{◌≡◌, map, string_bytes, take}
use Rattle.diagnostics.specs.Nearest.{gap}
use Rattle.diagnostics.proofs.names.gaps.Given as goal

-- the names so far
abbrev pub invariant-loop-other : goal.invariant-loop-other
invariant-loop-other l =
    l.gaps.items ≡ map (λ other. gap l.most l.name (string_bytes other)) (take l.other-index l.names)
