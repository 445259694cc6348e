use Rattle.std.proofs.Common.{◌≡◌, map}
use Rattle.axi4_rules.specs.Ports.{ports_in}
use Rattle.axi4_rules.specs.Seen.{line_data}
use Rattle.axi4_rules.proofs.LineLaws.{behind, left}
use Rattle.axi4_rules.proofs.read.read_lines.Given as goal

abbrev pub invariant-loop-index : goal.invariant-loop-index
invariant-loop-index l =
    ports_in 1 (map (λ t. t.now) l.lines) ≡ behind (map line_data l.ports.items) (left l.lines l.index)
