-- The line of a program and that of its assertion's verdicts.
use Rattle.std.specs.Prelude.{◌≡◌, ℕ, ◌<◌, Bool, List, [], ◌++◌, length, map, slice_index_or}
use Rattle.std.specs.List.{range_with_len}
use Rattle.signals.specs.declared.verdict.Verdict.{Verdict}
use Rattle.signals.specs.declared.verdict.Verdict.TheVariants.{Holds, Vacuous, Fails, Disabled}
use Rattle.signals.specs.declared.verdict.Verdict.TheVariants.{Open}
use Rattle.signals.specs.declared.verdict.Decided.{Decided}
use Rattle.report_lines.specs.Lines.{line_data_of}
use Rattle.bytecode_programs.specs.Values.{ProgramData}
use Rattle.verifier.specs.Programs.{IsAccepted}
use Rattle.assertions.specs.declared.sequence.Boolean.{Boolean}
use Rattle.assertions.specs.Segments.{Seq}
use Rattle.assertions.specs.Attempts.{Antecedent, IsVerdict}
use Rattle.machine_sections.specs.Monitors.{program_monitor}
use Rattle.machine_sections.specs.History.{SamplesAs}
use Rattle.machine_sections.specs.Laws.{Watches, Fills, all_fallen, open_starts}
use Rattle.machine_batches.specs.Lines.{line_over, IsLineOver}

-- the verdict falls before this clock, if it falls
abbrev pub FallsBefore : ℕ → Verdict → Type 0
FallsBefore end (Holds t) = t < end
FallsBefore end (Vacuous t) = t < end
FallsBefore end (Fails t) = t < end
FallsBefore end (Disabled t) = t < end
FallsBefore end Open = Unit {0}

-- the attempts that are open over so many ticks, by start
abbrev pub still_open : (ℕ → Verdict) → ℕ → List Decided
still_open verdict count =
    map (λ c. record { start = c; verdict = Open }) (open_starts verdict count)

-- Where verdict c is that on the attempt that begins at tick c, the line of the attempts by the
-- clock at which they are decided, then start, with the open ones after them, is that of the
-- verdicts by start.
abbrev pub LinesAreOne : Type 0
LinesAreOne =
    (name : List ℕ) (verdict : ℕ → Verdict) (count : ℕ) →
    ((c : ℕ) → c < count → FallsBefore count (verdict c)) →
    line_over name (all_fallen verdict count ++ still_open verdict count)
    ≡ line_data_of name (map verdict (range_with_len 0 count))

-- the row of a tick
abbrev pub row_of : List (List ℕ) → ℕ → List ℕ
row_of rows k = slice_index_or rows k []

-- One verdict for each of so many ticks, in order: that on the attempt that begins there.
pub record AreVerdicts (value : Boolean → ℕ → Bool) (off : ℕ → Bool)
    (r : Antecedent Boolean) (s : Seq Boolean) (count : ℕ) (verdicts : List Verdict) : Type 0
  where
    pub long : length verdicts ≡ count
    pub each : (c : ℕ) → c < count →
        IsVerdict value off r s count c (slice_index_or verdicts c Open)

-- Where the sample code sets atoms on which the sections of an accepted program follow an
-- antecedent and a consequent, its line over rows is that of the verdicts.
abbrev pub LineByMeaning : Type 0
LineByMeaning =
    (p : ProgramData) (rows : List (List ℕ)) (counters : ℕ → List ℕ) (atoms : ℕ → List Bool)
    (value : Boolean → ℕ → Bool) (r : Antecedent Boolean) (s : Seq Boolean)
    (verdicts : List Verdict) → IsAccepted p →
    SamplesAs p (row_of rows) counters atoms (length rows) → Watches p atoms value r s →
    Fills value s → AreVerdicts value (program_monitor p atoms).off r s (length rows) verdicts →
    IsLineOver p rows (line_data_of p.header.name verdicts)
