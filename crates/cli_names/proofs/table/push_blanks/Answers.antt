use Rattle.std.proofs.Common.{◌-◌, ◌++◌, ℕ, List, ap, ◌∙◌, arith}
use Rattle.cli_names.specs.Tables.{blanks}
use Rattle.cli_names.proofs.ColumnLaws.{blank-more, blanks-none}
use Rattle.cli_names.proofs.table.push_blanks.Goals as goal

pub loop-more-preserved : goal.loop-more-preserved
loop-more-preserved c =
    ap (λ (xs : List ℕ). xs ++ blanks (c.loop-more.more - 1)) c.in_ok-push.ensures.items
    ∙ blank-more c.loop-more.out.items (c.loop-more.more - 1) c.loop-more.more (omega arith)
    ∙ c.loop-more.invariant

pub returns : goal.returns
returns c = record { is = blanks-none c.loop-more.out.items c.loop-more.more (omega arith) ∙ c.loop-more.invariant }
