-- Reports over segments, and over what is kept.
use Rattle.std.proofs.Common.{◌≡◌, ℕ, List, [], Bool, refl, sym, subst}
use Rattle.std.specs.List.{flat_map}
use Rattle.assertions.specs.declared.suite.Suite.{Suite}
use Rattle.vcd_reader.specs.Variables.{code_number}
use Rattle.vcd_reader.specs.Dump.{Contents}
use Rattle.report_lines.specs.Lines.{ReportData}
use Rattle.report_suites.specs.Reported.{IsBound, OverRows, Reports, rows_of}
use Rattle.cli.specs.Reported.{SaysSuite, HasReport}
use Rattle.vcd_segments.specs.Segments.{Segment, small_dump, with_steps, kept_steps, AreRead, Follow}
use Rattle.vcd_segments.specs.Laws.{RowsJoin, RowsAreKept}
use Rattle.laws_one_report.proofs.FrontLaws.{bound-by}

pub segments-report : RowsJoin → (c : Contents) (segments : List Segment) (reads : ℕ → Bool)
    (text : List ℕ) (suite : Suite) (clock : ℕ) (signals : List ℕ) (report : ReportData)
    → SaysSuite c text suite → IsBound c suite clock signals
    → AreRead c.variables (code_number c.variables clock) signals reads
    → Follow reads [] segments → c.steps ≡ flat_map (λ (s : Segment). s.steps) segments
    → OverRows suite
    (flat_map (λ (s : Segment). rows_of (small_dump c s) clock signals) segments) report
    → HasReport c text report
segments-report join c segments reads text suite clock signals report says bound are follow cut over
    = record {
      suite = suite;
      says = says;
      reports = record {
        clock = clock;
        signals = signals;
        bound = bound;
        over = subst (λ (rows : List (List ℕ)). OverRows suite rows report)
            (sym (join c segments signals (code_number c.variables clock) reads are follow cut)) over;
      };
    }

pub kept-report : RowsAreKept → (c : Contents) (reads : ℕ → Bool) (text : List ℕ) (suite : Suite)
    (report : ReportData) → SaysSuite c text suite
    → ((clock : ℕ) (signals : List ℕ) → IsBound c suite clock signals
    → AreRead c.variables (code_number c.variables clock) signals reads)
    → Reports (with_steps c (kept_steps reads c.steps)) suite report → HasReport c text report
kept-report kept c reads text suite report says are r =
    let bound = bound-by (with_steps c (kept_steps reads c.steps)) c text refl suite r.clock r.signals
    r.bound in
    record {
      suite = suite;
      says = says;
      reports = record {
        clock = r.clock;
        signals = r.signals;
        bound = bound;
        over = subst (λ (rows : List (List ℕ)). OverRows suite rows report)
            (sym (kept c r.signals (code_number c.variables r.clock) reads
            (are r.clock r.signals bound))) r.over;
      };
    }
