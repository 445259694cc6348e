-- The text of a report.
use Rattle.std.specs.Prelude.{◌≡◌, ℕ, List, ◌++◌, codes}
use Rattle.std.specs.List.{flat_map}
use Rattle.std.specs.Fmt.{decimal}
use Rattle.report_lines.specs.declared.line.Counts.{Counts}
use Rattle.report_lines.specs.declared.line.Failure.{Failure}
use Rattle.report_lines.specs.Lines.{LineData, ReportData}

-- a text that grew by a piece
pub record Grows (old new piece : List ℕ) : Type 0 where
  pub is : new ≡ old ++ piece

-- a label and a number in decimal
abbrev pub field_text : List ℕ → ℕ → List ℕ
field_text label n = label ++ decimal n

-- holds H vacuous V fails F disabled D open O
unfoldable pub counts_text : Counts → List ℕ
counts_text c =
    field_text (codes " holds ") c.holds ++ field_text (codes " vacuous ") c.vacuous
    ++ field_text (codes " fails ") c.fails ++ field_text (codes " disabled ") c.disabled
    ++ field_text (codes " open ") c.still_open ++ codes "\n"

-- fail NAME start S clock T
unfoldable pub fail_text : List ℕ → Failure → List ℕ
fail_text name f =
    codes "fail " ++ name ++ field_text (codes " start ") f.start
    ++ field_text (codes " clock ") f.clock ++ codes "\n"

-- monitor NAME and its counts, and then its fails
unfoldable pub line_text : LineData → List ℕ
line_text l =
    codes "monitor " ++ l.name ++ counts_text l.counts ++ flat_map (fail_text l.name) l.fails

-- the whole report, each line ended by a line feed
unfoldable pub report_text : ReportData → List ℕ
report_text r =
    field_text (codes "svamon 1\nclocks ") r.clocks ++ codes "\n"
    ++ flat_map line_text r.lines ++ codes "total" ++ counts_text r.total
