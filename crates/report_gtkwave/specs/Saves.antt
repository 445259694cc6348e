-- A save file of GTKWave (version 3.3): lines `[dumpfile]` and `[timestart]`; a line with `*`, the
-- zoom, the primary marker and the 26 named ones, -1 where one isn't set; and traces, each a line
-- with its path and bits, after `@` and how it is shown (28 is in binary, 22 in hexadecimal, 200 a
-- comment, which begins with `-`).
use Rattle.std.specs.Prelude.{◌≡◌, ℕ, zero, suc, ◌+◌, ◌-◌, ◌*◌, List, [], ◌∷◌, ◌++◌, Bool, true}
use Rattle.std.specs.Prelude.{false, if◌then◌else◌, codes, decimal, nat_le, nat_lt, take}
use Rattle.std.specs.Prelude.{length, slice_index, string_bytes}
use Rattle.std.specs.List.{flat_map}
use Rattle.std.specs.Str.{bytes_eq}
use Rattle.report_explained.specs.declared.cells.RowSource.{RowSource}
use Rattle.report_explained.specs.declared.cells.RowSource.TheVariants.{Signal, Counter, Listed}
use Rattle.report_explained.specs.declared.sheet.SheetRow.{SheetRow}
use Rattle.report_explained.specs.declared.failed_attempt.FailedAttempt.{FailedAttempt}
use Rattle.report_forms.specs.JunitForm.{number_text, clock_text}
use Rattle.report_forms.specs.Provenances.{ProvenanceData, time_at}
use Rattle.report_gtkwave.specs.Waves.{WaveName, suffix_in}

-- a byte as it stands on a line: `?` for one that is no character there
abbrev pub line_byte : ℕ → List ℕ
line_byte b = if nat_lt b 32 then codes "?" else b ∷ []

-- a text on one line
abbrev pub on_line : List ℕ → List ℕ
on_line text = flat_map line_byte text

-- the time of a clock in GTKWave's unit, of which so many are one of the dump
abbrev pub wave_time : ProvenanceData → ℕ → ℕ → ℕ
wave_time p unit clock = time_at p clock * unit

abbrev pub time_text : ProvenanceData → ℕ → ℕ → List ℕ
time_text p unit clock = number_text (codes " ") (wave_time p unit clock)

-- the first clock that is told of the first attempt
abbrev pub first_clock : List FailedAttempt → ℕ
first_clock [] = 0
first_clock (a ∷ told) = slice_index a.sheet.now.clocks.items 0

-- the dump, and the time with which the view begins
unfoldable pub head_text : ProvenanceData → ℕ → List FailedAttempt → List ℕ
head_text p unit told =
    codes "[*] Failed attempts, by svamon explain\n[dumpfile] \"" ++ on_line p.dump
    ++ number_text (codes "\"\n[timestart] ") (wave_time p unit (first_clock told)) ++ codes "\n"

-- the zoom: so many units to 200 pixels, as a power of two
unfoldable pub zoom_text : ℕ → List ℕ
zoom_text power = number_text (codes "*-") power ++ codes ".000000"

-- the primary marker: where the first attempt was decided
abbrev pub primary_text : ProvenanceData → ℕ → List FailedAttempt → List ℕ
primary_text p unit [] = codes " -1"
primary_text p unit (a ∷ told) = time_text p unit a.failure.clock

-- two named markers: where an attempt began, and where it was decided
abbrev pub pair_text : ProvenanceData → ℕ → FailedAttempt → List ℕ
pair_text p unit a = time_text p unit a.failure.start ++ time_text p unit a.failure.clock

-- so many pairs that aren't set
unfoldable pub unset_text : ℕ → List ℕ
unset_text zero = []
unset_text (suc count) = codes " -1 -1" ++ unset_text count

-- the primary marker, and 26 named ones
unfoldable pub markers_text : ProvenanceData → ℕ → List FailedAttempt → List ℕ
markers_text p unit told =
    primary_text p unit told ++ flat_map (pair_text p unit) (take 13 told)
    ++ unset_text (13 - length told)

-- the letters of the two named markers of an attempt of a number, A and B of 0, as far as there are
-- letters; the second one by 1
abbrev pub letter_text : ℕ → ℕ → List ℕ
letter_text n second = if nat_lt n 13 then (65 + n * 2 + second) ∷ codes ": " else []

-- an assertion, and where it stands
unfoldable pub name_text : FailedAttempt → List ℕ
name_text a =
    codes "@200\n-" ++ on_line a.name.now ++ codes "  " ++ on_line a.standing.path.now
    ++ number_text (codes ":") a.standing.line ++ number_text (codes ":") a.standing.column
    ++ codes "\n-"

-- the comment of the attempt of a number, with the letters of its markers
unfoldable pub comment_text : ProvenanceData → ℕ → FailedAttempt → List ℕ
comment_text p n a =
    name_text a
    ++ letter_text n 0 ++ clock_text p (codes "began at clock ") a.failure.start ++ codes "\n-"
    ++ letter_text n 1 ++ clock_text p (codes "decided at clock ") a.failure.clock
    ++ codes "\n"

-- how a value of so many bits is shown
abbrev pub format_text : ℕ → List ℕ
format_text width = if nat_le width 1 then codes "@28\n" else codes "@22\n"

-- a signal, with its path and its bits
unfoldable pub signal_text : List WaveName → SheetRow → List ℕ
signal_text ws row =
    format_text row.width ++ string_bytes row.label ++ suffix_in ws (string_bytes row.label)
    ++ codes "\n"

-- the row of a signal, and nothing of what is none of the dump
abbrev pub text_by : RowSource → List ℕ → List ℕ
text_by (Signal place) text = text
text_by (Counter place) text = []
text_by (Listed place) text = []

abbrev pub row_text : List WaveName → SheetRow → List ℕ
row_text ws row = text_by row.source (signal_text ws row)

-- whether the attempt after the first one is of the same assertion
abbrev pub is_same_next : List FailedAttempt → Bool
is_same_next [] = false
is_same_next (a ∷ []) = false
is_same_next (a ∷ b ∷ told) = bytes_eq a.name.now b.name.now

-- the first of some attempts, which has this number: its comment, and after the last one of its
-- assertion the signals that this reads
abbrev pub group_text : ProvenanceData → List WaveName → ℕ → List FailedAttempt → List ℕ
group_text p ws n [] = []
group_text p ws n (a ∷ told) =
    comment_text p n a
    ++ (if is_same_next (a ∷ told) then [] else flat_map (row_text ws) a.sheet.now.rows.items)

-- attempts, the first of which has this number
unfoldable pub groups_text : ProvenanceData → List WaveName → ℕ → List FailedAttempt → List ℕ
groups_text p ws n [] = []
groups_text p ws n (a ∷ told) = group_text p ws n (a ∷ told) ++ groups_text p ws (suc n) told

-- A save file that shows failed attempts.
pub record IsSave (p : ProvenanceData) (ws : List WaveName) (unit : ℕ) (told : List FailedAttempt)
    (save : List ℕ) : Type 0 where
  pub power : ℕ
  pub is : save ≡ head_text p unit told ++ zoom_text power ++ markers_text p unit told
      ++ codes "\n" ++ groups_text p ws 0 told
