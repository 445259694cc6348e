-- A failed attempt as a picture (SVG): its marks, what these are labelled with, and why it failed.
-- Where the marks stand is left open.
use Rattle.std.specs.Prelude.{◌≡◌, ℕ, Bool, true, false, if◌then◌else◌, List, [], ◌∷◌, ◌++◌}
use Rattle.std.specs.Prelude.{Option, Some, None, codes, decimal, nat_eq, string_bytes}
use Rattle.std.specs.List.{AllZip, flat_map}
use Rattle.report_forms.specs.Escapes.{escaped}
use Rattle.report_forms.specs.Grown.{Grows}
use Rattle.report_forms.specs.JunitForm.{number_text}
use Rattle.report_forms.specs.Provenances.{ProvenanceData, time_at}
use Rattle.report_explained.specs.Arrows.{back_of}
use Rattle.report_explained.specs.ExplainedText.{ends_text}
use Rattle.report_explained.specs.SheetText.{IsValueText}
use Rattle.report_explained.specs.declared.arrow.Arrow.{Arrow}
use Rattle.report_explained.specs.declared.arrow.Arrow.TheVariants.{Alone, Overlapped, Following}
use Rattle.report_explained.specs.declared.failed_attempt.FailedAttempt.{FailedAttempt}
use Rattle.report_explained.specs.declared.sheet.Sheet.{Sheet}
use Rattle.report_explained.specs.declared.sheet.SheetRow.{SheetRow}
use Rattle.report_page.specs.declared.canvas.Anchor.{Anchor}
use Rattle.report_page.specs.declared.canvas.Anchor.TheVariants.{Start, Middle}
use Rattle.report_page.specs.declared.canvas.Class.{Class}
use Rattle.report_page.specs.declared.canvas.Class.TheVariants as classes

abbrev pub anchor_text : Anchor → List ℕ
anchor_text Start = codes "start"
anchor_text Middle = codes "middle"

abbrev pub class_text : Class → List ℕ
class_text classes.Attempt = codes "at"
class_text classes.Frame = codes "box"
class_text classes.End = codes "end"
class_text classes.Grid = codes "grid"
class_text classes.Clock = codes "clock"
class_text classes.Faint = codes "faint"
class_text classes.Name = codes "name"
class_text classes.Value = codes "value"

-- a step of a wave: on from the last one, or anew
pub record Step : Type 0 where
  pub goes_on : Bool
  pub left : ℕ
  pub right : ℕ
  pub level : ℕ

abbrev pub step_text : Step → List ℕ
step_text s =
    if s.goes_on then number_text (codes "V") s.level ++ number_text (codes "H") s.right
    else number_text (codes "M") s.left ++ number_text (codes " ") s.level
    ++ number_text (codes "H") s.right

-- a mark: a rectangle, a line from the top down, a label, or a wave
pub data Mark : Type 0 where
  frame : Class → ℕ → ℕ → ℕ → ℕ → Mark
  upright : Class → ℕ → ℕ → ℕ → Mark
  label : Class → Anchor → ℕ → ℕ → List ℕ → Mark
  wave : List Step → Mark

unfoldable pub mark_text : Mark → List ℕ
mark_text (frame c x y width height) =
    codes "<rect class=\"" ++ class_text c ++ number_text (codes "\" x=\"") x
    ++ number_text (codes "\" y=\"") y ++ number_text (codes "\" width=\"") width
    ++ number_text (codes "\" height=\"") height ++ codes "\"/>\n"
mark_text (upright c x top bottom) =
    codes "<path class=\"" ++ class_text c ++ number_text (codes "\" d=\"M") x
    ++ number_text (codes " ") top ++ number_text (codes "V") bottom ++ codes "\"/>\n"
mark_text (label c a x y text) =
    codes "<text class=\"" ++ class_text c ++ codes "\" text-anchor=\"" ++ anchor_text a
    ++ number_text (codes "\" x=\"") x ++ number_text (codes "\" y=\"") y ++ codes "\">"
    ++ escaped text ++ codes "</text>\n"
mark_text (wave steps) =
    codes "<path class=\"wave\" d=\"" ++ flat_map step_text steps ++ codes "\"/>\n"

-- the texts of the labels among marks
abbrev pub labels_of : List Mark → List (List ℕ)
labels_of [] = []
labels_of (frame c x y width height ∷ ms) = labels_of ms
labels_of (upright c x top bottom ∷ ms) = labels_of ms
labels_of (label c a x y text ∷ ms) = text ∷ labels_of ms
labels_of (wave steps ∷ ms) = labels_of ms

-- A text that grew by marks with these labels.
pub record Draws (old new : List ℕ) (labels : List (List ℕ)) : Type 0 where
  pub marks : List Mark
  pub labelled : labels_of marks ≡ labels
  pub grown : Grows old new (flat_map mark_text marks)

-- a text that grew by steps of a wave
pub record DrawsSteps (old new : List ℕ) : Type 0 where
  pub steps : List Step
  pub grown : Grows old new (flat_map step_text steps)

-- the label of a box: its value
pub record IsValueLabel (width value : ℕ) (labels : List (List ℕ)) : Type 0 where
  pub text : List ℕ
  pub is_value : IsValueText width value text
  pub is : labels ≡ text ∷ []

-- a cell without a value has no box
abbrev pub AreCellLabels : ℕ → Option ℕ → List (List ℕ) → Type 0
AreCellLabels width None labels = labels ≡ []
AreCellLabels width (Some value) labels = IsValueLabel width value labels

-- the labels of the boxes of a row of several bits
pub record AreBoxLabels (width : ℕ) (cells : List (Option ℕ)) (labels : List (List ℕ)) :
    Type 0 where
  pub pieces : List (List (List ℕ))
  pub each : AllZip (AreCellLabels width) cells pieces
  pub are : labels ≡ flat_map (λ p. p) pieces

-- a row of one bit is a wave, which has no labels
abbrev pub AreValuesBy : Bool → ℕ → List (Option ℕ) → List (List ℕ) → Type 0
AreValuesBy true width cells labels = labels ≡ []
AreValuesBy false width cells labels = AreBoxLabels width cells labels

abbrev pub AreValueLabels : SheetRow → List (List ℕ) → Type 0
AreValueLabels row = AreValuesBy (nat_eq row.width 1) row.width row.cells.items

-- the labels of a row: what it is called, and its values
pub record AreRowLabels (row : SheetRow) (labels : List (List ℕ)) : Type 0 where
  pub values : List (List ℕ)
  pub are_values : AreValueLabels row values
  pub are : labels ≡ string_bytes row.label ∷ values

-- a text that grew by marks whose labels are such ones
pub record DrawsAs (Are : List (List ℕ) → Type 0) (old new : List ℕ) : Type 0 where
  pub labels : List (List ℕ)
  pub are : Are labels
  pub draws : Draws old new labels

abbrev pub DrawsCell : ℕ → Option ℕ → List ℕ → List ℕ → Type 0
DrawsCell width cell = DrawsAs (AreCellLabels width cell)

abbrev pub DrawsBoxes : ℕ → List (Option ℕ) → List ℕ → List ℕ → Type 0
DrawsBoxes width cells = DrawsAs (AreBoxLabels width cells)

abbrev pub DrawsValues : SheetRow → List ℕ → List ℕ → Type 0
DrawsValues row = DrawsAs (AreValueLabels row)

abbrev pub DrawsRow : SheetRow → List ℕ → List ℕ → Type 0
DrawsRow row = DrawsAs (AreRowLabels row)

-- the labels of rows
pub record AreRowsLabels (rows : List SheetRow) (labels : List (List ℕ)) : Type 0 where
  pub pieces : List (List (List ℕ))
  pub each : AllZip AreRowLabels rows pieces
  pub are : labels ≡ flat_map (λ p. p) pieces

abbrev pub DrawsRows : List SheetRow → List ℕ → List ℕ → Type 0
DrawsRows rows = DrawsAs (AreRowsLabels rows)

-- a clock and its time
abbrev pub clock_labels : ProvenanceData → ℕ → List (List ℕ)
clock_labels p clock = decimal clock ∷ decimal (time_at p clock) ∷ []

-- the labels of the heads: what they are, and each clock with its time
abbrev pub head_labels : ProvenanceData → List ℕ → List (List ℕ)
head_labels p clocks = codes "clock" ∷ codes "time" ∷ flat_map (clock_labels p) clocks

-- the labels of a picture: those of the heads, and those of the rows
pub record ArePictureLabels (p : ProvenanceData) (sheet : Sheet) (labels : List (List ℕ)) :
    Type 0 where
  pub rows : List (List ℕ)
  pub are_rows : AreRowsLabels sheet.rows.items rows
  pub are : labels ≡ head_labels p sheet.clocks.items ++ rows

abbrev pub DrawsPicture : ProvenanceData → Sheet → List ℕ → List ℕ → Type 0
DrawsPicture p sheet = DrawsAs (ArePictureLabels p sheet)

unfoldable pub begin_text : ℕ → ℕ → List ℕ
begin_text width height =
    number_text (codes "<div class=\"scroll\"><svg role=\"img\" width=\"") width
    ++ number_text (codes "\" height=\"") height ++ codes "\">\n"

-- which ends the antecedent had, and from which one the consequent can't match any more
unfoldable pub led_text : Arrow → FailedAttempt → List ℕ
led_text arrow a =
    codes "The antecedent ended at clock" ++ ends_text (back_of arrow) a.ends.now
    ++ number_text (codes "; from clock ") a.broken
    ++ codes " no match of the consequent is possible"

-- why the attempt failed
abbrev pub told_by : Arrow → FailedAttempt → List ℕ
told_by Alone a = codes "No match is possible"
told_by Overlapped a = led_text Overlapped a
told_by Following a = led_text Following a

unfoldable pub told_text : FailedAttempt → List ℕ
told_text a =
    codes "<p class=\"told\">" ++ told_by a.arrow a
    ++ number_text (codes " after clock ") a.failure.clock ++ codes ".</p>\n</section>\n"

-- The picture of a failed attempt, and why it failed.
pub record IsPicture (p : ProvenanceData) (a : FailedAttempt) (picture : List ℕ) : Type 0 where
  pub width : ℕ
  pub height : ℕ
  pub marks : List Mark
  pub labelled : ArePictureLabels p a.sheet.now (labels_of marks)
  pub is : picture
      ≡ begin_text width height ++ flat_map mark_text marks ++ codes "</svg></div>\n"
      ++ told_text a
