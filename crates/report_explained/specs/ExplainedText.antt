-- Explanations as text.
use Rattle.std.specs.Prelude.{◌≡◌, ℕ, ◌+◌, ◌-◌, List, [], ◌∷◌, ◌++◌, Bool, true, false, not, ◌==◌}
use Rattle.std.specs.Prelude.{nat_lt}
use Rattle.std.specs.Prelude.{length, codes, string_bytes, String}
use Rattle.std.specs.Global.{Global}
use Rattle.std.specs.List.{AllZip, flat_map}
use Rattle.report_forms.specs.JunitForm.{number_text, clock_text}
use Rattle.report_forms.specs.Provenances.{ProvenanceData}
use Rattle.report_explained.specs.declared.arrow.Arrow.{Arrow}
use Rattle.report_explained.specs.declared.arrow.Arrow.TheVariants.{Alone, Overlapped, Following}
use Rattle.report_explained.specs.Arrows.{back_of}
use Rattle.report_explained.specs.SheetText.{IsSheetText}
use Rattle.report_explained.specs.declared.failed_attempt.FailedAttempt.{FailedAttempt}

-- the letter of a plural
abbrev pub plural : Bool → List ℕ
plural true = codes "s"
plural false = codes ""

-- FAIL NAME  PATH:LINE:COLUMN   began at clock S (#T), decided at clock C (#T); N failed attempts
unfoldable pub head_text : ProvenanceData → FailedAttempt → List ℕ
head_text p a =
    codes "FAIL " ++ a.name.now ++ codes "  " ++ a.standing.path.now
    ++ number_text (codes ":") a.standing.line ++ number_text (codes ":") a.standing.column
    ++ clock_text p (codes "   began at clock ") a.failure.start
    ++ clock_text p (codes ", decided at clock ") a.failure.clock
    ++ number_text (codes "; ") a.failed ++ codes " failed attempt" ++ plural (not (a.failed == 1))
    ++ codes "\n"

-- an end after another one
abbrev pub next_end : ℕ → ℕ → List ℕ
next_end back end = number_text (codes ", ") (end - back)

-- the ends of the antecedent, so many clocks before those from which the consequent was asked
abbrev pub ends_text : ℕ → List ℕ → List ℕ
ends_text back [] = []
ends_text back (end ∷ ends) =
    number_text (codes " ") (end - back) ++ flat_map (next_end back) ends

-- from where no match of the consequent is possible any more
abbrev pub from_text : Bool → ℕ → List ℕ
from_text true broken = number_text (codes "; from clock ") broken
from_text false broken = codes "; from there"

-- which ends the antecedent had, and from which of them the consequent can't match any more
unfoldable pub led_text : FailedAttempt → List ℕ
led_text a =
    codes "  antecedent ended at clock" ++ plural (nat_lt 1 (length a.ends.now))
    ++ ends_text (back_of a.arrow) a.ends.now
    ++ from_text (nat_lt 1 (length a.ends.now + back_of a.arrow)) a.broken
    ++ number_text (codes " no match of the consequent is possible after clock ") a.failure.clock
    ++ codes "\n"

-- where there is no antecedent
unfoldable pub alone_text : FailedAttempt → List ℕ
alone_text a =
    number_text (codes "  no match is possible after clock ") a.failure.clock ++ codes "\n"

abbrev pub cause_by : Arrow → FailedAttempt → List ℕ
cause_by Alone a = alone_text a
cause_by Overlapped a = led_text a
cause_by Following a = led_text a

-- why the attempt failed
abbrev pub cause_text : FailedAttempt → List ℕ
cause_text a = cause_by a.arrow a

-- The text of a failed attempt: its head, its sheet, and why it failed.
pub record IsSection (p : ProvenanceData) (a : FailedAttempt) (section : List ℕ) : Type 0 where
  pub sheet : List ℕ
  pub is_sheet : IsSheetText p a.sheet.now sheet
  pub is : section ≡ head_text p a ++ sheet ++ cause_text a

-- the same in memory
abbrev pub IsSectionOf : ProvenanceData → FailedAttempt → String Global → Type 0
IsSectionOf p a section = IsSection p a (string_bytes section)

-- The texts of failed attempts, one after another.
pub record IsExplainedText (p : ProvenanceData) (attempts : List FailedAttempt) (text : List ℕ) :
    Type 0 where
  pub sections : List (List ℕ)
  pub each : AllZip (IsSection p) attempts sections
  pub is : text ≡ flat_map (λ s. s) sections
