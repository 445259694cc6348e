use Rattle.std.proofs.Common.{string_bytes, take}
use Rattle.std.specs.Prelude.{flat_map}
use Rattle.report_forms.specs.Grown.{Grows}
use Rattle.report_explained.specs.ExplainedText.{next_end}
use Rattle.report_explained.proofs.text.push_next_ends.Given as goal

-- the ends so far
abbrev pub invariant-loop-end : goal.invariant-loop-end
invariant-loop-end l =
    Grows (string_bytes l.fn.text) (string_bytes l.text) (flat_map (next_end l.back) (take l.end-index l.ends))
