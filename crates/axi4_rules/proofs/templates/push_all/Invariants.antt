use Rattle.std.proofs.Common.{◌≡◌, ◌++◌, map, take, string_bytes}
use Rattle.std.specs.Prelude.{codes}
use Rattle.std.specs.List.{flat_map}
use Rattle.axi4_rules.specs.Rules.{filled}
use Rattle.axi4_rules.specs.Rows.{fills}
use Rattle.axi4_rules.proofs.templates.push_all.Given as goal

abbrev pub invariant-loop-word : goal.invariant-loop-word
invariant-loop-word l =
    string_bytes l.line
    ≡ string_bytes l.fn.line ++ flat_map (λ w. filled (fills l.filling) w ++ codes " ")
    (map (λ w. w.now) (take l.word-index l.words))
