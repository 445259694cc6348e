use Rattle.std.proofs.Common.{◌≡◌, ℕ, List, map, drop}
use Rattle.types_names.specs.Scopes.{look_up}
use Rattle.types_names.specs.Entries.{first_of}
use Rattle.types_names.specs.Views.{widths_of}
use Rattle.types_names.proofs.names.Names.push_all.Given as goal

-- what is left decides
abbrev pub invariant-loop-name : goal.invariant-loop-name
invariant-loop-name l =
    (q : List ℕ)
    → first_of (widths_of l.self q) (look_up (map (λ n. (n.0.now, n.1)) (drop l.name-index l.names)) q)
    ≡ first_of (widths_of l.fn.self q) (look_up (map (λ n. (n.0.now, n.1)) l.names) q)
