use Rattle.std.proofs.Common.{ℕ, subst}
use Rattle.report_lines.specs.Texts.{Grows}
use Rattle.report_lines.proofs.Pieces.{and_then}
use Rattle.cli_names.specs.Tables.{blanks}
use Rattle.cli_names.proofs.table.push_right.Goals as goal

pub returns : goal.returns
returns c =
    and_then
    (subst (λ (n : ℕ). Grows c.args.out.now.items c.push_blanks.new.out.items (blanks n))
    c.saturating_sub.ensures c.in_ok-push_blanks.ensures)
    c.in_ok-push_text.ensures
