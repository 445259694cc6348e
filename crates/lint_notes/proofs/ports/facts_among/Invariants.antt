use Rattle.std.proofs.Common.{◌≡◌, ◌++◌, drop, map}
use Rattle.vcd_reader.specs.Held.{variables_of}
use Rattle.lint_notes.specs.Ports.{fact_paths, wrong_paths, said_data}
use Rattle.lint_notes.proofs.ports.facts_among.Given as goal

-- the paths of the signals that are left still come
abbrev pub invariant-loop-said : goal.invariant-loop-said
invariant-loop-said l =
    fact_paths l.facts.items
    ++ wrong_paths (variables_of l.dump) l.port (map said_data (drop l.said-index l.rows))
    ≡ wrong_paths (variables_of l.dump) l.port (map said_data l.rows)
