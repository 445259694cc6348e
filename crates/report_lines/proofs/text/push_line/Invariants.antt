use Rattle.std.proofs.Common.{◌++◌, string_bytes, take}
use Rattle.std.specs.Prelude.{codes}
use Rattle.std.specs.List.{flat_map}
use Rattle.report_lines.specs.Texts.{Grows, counts_text, fail_text}
use Rattle.report_lines.proofs.text.push_line.Given as goal

-- the line and the failures so far
abbrev pub invariant-loop-failure : goal.invariant-loop-failure
invariant-loop-failure l =
    Grows (string_bytes l.fn.text) (string_bytes l.text)
    ((codes "monitor " ++ l.name ++ counts_text l.fn.of.counts) ++ flat_map (fail_text l.name)
    (take l.failure-index l.failure-items))
