-- A report as a page of HTML.
use Rattle.std.specs.Prelude.{◌≡◌, ℕ, List, [], ◌++◌, if◌then◌else◌, codes, string_bytes}
use Rattle.std.specs.Prelude.{flat_map, slice_get, Option, None, Some}
use Rattle.std.specs.Prelude.{String}
use Rattle.std.specs.Global.{Global}
use Rattle.std.specs.Prelude.{Bool, false, ◌||◌, nat_eq, [], ◌∷◌}
use Rattle.std.specs.List.{AllZip, starts_with}
use Rattle.report_lines.specs.declared.line.Counts.{Counts}
use Rattle.report_lines.specs.declared.line.Failure.{Failure}
use Rattle.report_lines.specs.Lines.{LineData, ReportData}
use Rattle.report_forms.specs.Provenances.{ProvenanceData}
use Rattle.report_forms.specs.Outcomes.{has_failed, is_untried}
use Rattle.report_forms.specs.Escapes.{escaped}
use Rattle.report_forms.specs.JunitForm.{number_text, clock_text}
use Rattle.report_explained.specs.declared.failed_attempt.FailedAttempt.{FailedAttempt}
use Rattle.report_page.specs.Pictures.{IsPicture}

-- where the report comes from, and its sums
unfoldable pub intro_text : ProvenanceData → ReportData → List ℕ
intro_text p r =
    codes "<h1>" ++ escaped p.dump ++ codes "</h1>\n<p>" ++ escaped p.text
    ++ number_text (codes "; clocks: ") r.clocks
    ++ number_text (codes "; attempts that hold: ") r.total.holds
    ++ number_text (codes ", are vacuous: ") r.total.vacuous
    ++ number_text (codes ", fail: ") r.total.fails
    ++ number_text (codes ", are disabled: ") r.total.disabled
    ++ number_text (codes ", are open: ") r.total.still_open ++ codes "</p>\n"

-- what a row is of: an assertion that failed, one that was never tried, or else one that held
abbrev pub class_text : LineData → List ℕ
class_text l =
    if has_failed l then codes "fails" else if is_untried l then codes "untried" else codes "holds"

-- a name, as a link to the section of the first failure where there is one
unfoldable pub name_text : List ℕ → Option Failure → List ℕ
name_text name None = escaped name
name_text name (Some f) =
    codes "<a href=\"#" ++ escaped name ++ number_text (codes "-") f.start ++ codes "\">"
    ++ escaped name ++ codes "</a>"

-- how many attempts came to each verdict
unfoldable pub counts_text : Counts → List ℕ
counts_text c =
    number_text (codes "</td><td class=\"good\">") c.holds
    ++ number_text (codes "</td><td>") c.vacuous
    ++ number_text (codes "</td><td class=\"bad\">") c.fails
    ++ number_text (codes "</td><td>") c.disabled
    ++ number_text (codes "</td><td>") c.still_open ++ codes "</td><td>"

-- the clock and the time of the first failure
abbrev pub first_text : ProvenanceData → Option Failure → List ℕ
first_text p None = []
first_text p (Some f) = clock_text p (codes "clock ") f.clock

-- the row of an assertion
unfoldable pub row_text : ProvenanceData → LineData → List ℕ
row_text p l =
    codes "<tr class=\"" ++ class_text l ++ codes "\"><td>"
    ++ name_text l.name (slice_get l.fails 0) ++ counts_text l.counts
    ++ first_text p (slice_get l.fails 0) ++ codes "</td></tr>\n"

-- what is told of a failed attempt before its picture
pub record PictureHead : Type 0 where
  pub name : List ℕ
  pub text : List ℕ
  pub line : ℕ
  pub column : ℕ
  pub failed : ℕ
  pub failure : Failure

abbrev pub head_of : FailedAttempt → PictureHead
head_of p = record {
  name = p.name.now;
  text = p.standing.path.now;
  line = p.standing.line;
  column = p.standing.column;
  failed = p.failed;
  failure = p.failure;
}

-- what a section begins with: the assertion and its place, when the attempt began and was decided,
-- and how many failed
unfoldable pub section_head : ProvenanceData → PictureHead → List ℕ
section_head p h =
    codes "<section id=\"" ++ escaped h.name ++ number_text (codes "-") h.failure.start
    ++ codes "\">\n<h2>" ++ escaped h.name
    ++ codes "</h2>\n<p>" ++ escaped h.text ++ number_text (codes ":") h.line
    ++ number_text (codes ":") h.column
    ++ clock_text p (codes ": began at clock ") h.failure.start
    ++ clock_text p (codes ", decided at clock ") h.failure.clock
    ++ number_text (codes "; failed attempts: ") h.failed ++ codes "</p>\n"

-- A section of a failed attempt: its head, and then its picture, and why it failed.
pub record IsSection (p : ProvenanceData) (a : FailedAttempt) (section : List ℕ) : Type 0 where
  pub picture : List ℕ
  pub is_picture : IsPicture p a picture
  pub is : section ≡ section_head p (head_of a) ++ picture

-- the section of a failed attempt in memory
abbrev pub IsSectionOf : ProvenanceData → FailedAttempt → String Global → Type 0
IsSectionOf p a section = IsSection p a (string_bytes section)

-- whether a text stands somewhere in another one
unfoldable pub has_text : List ℕ → List ℕ → Bool
has_text text [] = starts_with nat_eq [] text
has_text text (b ∷ bs) = starts_with nat_eq (b ∷ bs) text || has_text text bs

-- Neither a row of an assertion nor a section stands there, and no comment begins there that would
-- hide one.
abbrev pub IsPlain : List ℕ → Type 0
IsPlain text =
    (has_text (codes "<tr class") text ≡ false) × (has_text (codes "<section") text ≡ false)
    × (has_text (codes "<!--") text ≡ false)

-- what stands between the parts of a page
pub record Between : Type 0 where
  pub head : List ℕ
  pub style : List ℕ
  pub table : List ℕ
  pub table_end : List ℕ
  pub end : List ℕ

pub record ArePlain (b : Between) : Type 0 where
  pub head : IsPlain b.head
  pub style : IsPlain b.style
  pub table : IsPlain b.table
  pub table_end : IsPlain b.table_end
  pub end : IsPlain b.end

-- A page: the dump's path as its title, where the report comes from and its sums, a row for each
-- assertion, and a section for each failed attempt that is shown, in their orders; and no other row
-- and section.
pub record IsPage (p : ProvenanceData) (r : ReportData) (pictures : List FailedAttempt)
    (page : List ℕ) : Type 0 where
  pub between : Between
  pub plain : ArePlain between
  pub sections : List (List ℕ)
  pub each : AllZip (IsSection p) pictures sections
  pub is : page ≡ between.head ++ escaped p.dump ++ between.style ++ intro_text p r ++ between.table
      ++ flat_map (row_text p) r.lines ++ between.table_end ++ flat_map (λ s. s) sections
      ++ between.end
