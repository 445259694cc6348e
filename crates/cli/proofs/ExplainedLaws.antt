-- Why nothing is explained, and what explanations in memory come to.
use Rattle.std.proofs.Common.{◌≡◌, ◌∙◌, ℕ, List, Bool, true, false, length, map, refl, sym, ap, subst, drop, get_or}
use Rattle.std.specs.Prelude.{Result, Ok, Err, IfOk, IfErr, OnOk, string_bytes}
use Rattle.std.specs.Io.KnownBytes.{Appends}
use Rattle.assertions.specs.declared.suite.Suite.{Suite}
use Rattle.vcd_reader.specs.Dump.{Contents, GaveDump}
use Rattle.report_lines.specs.declared.write.ReportFault.TheVariants as reports
use Rattle.report_lines.specs.Lines.{line}
use Rattle.report_lines.specs.Shown.{data_of}
use Rattle.report_explained.specs.declared.failed_attempt.FailedAttempt.{FailedAttempt}
use Rattle.report_explained.specs.declared.selection.Wanted.{Wanted}
use Rattle.report_explained.specs.ExplainedText.{IsExplainedText}
use Rattle.report_forms.specs.Provenances.{ProvenanceData}
use Rattle.cli_faults.specs.declared.fault.Fault.{Fault}
use Rattle.cli_faults.specs.declared.fault.Fault.TheVariants.{
  Vcd,
  Lex,
  Parse,
  Typing,
  Compile,
  BadSize,
  BadWorkers,
  BadJob,
  Window,
  Port,
  Report,
  Code,
  Refused,
  NoAssertion,
  NotText,
  Words,
  File,
  Memory,
}
use Rattle.cli_faults.specs.Runs.{Run, IsUnwritten, WhyNotWritten}
use Rattle.cli.specs.declared.explained.Explained.{Explained}
use Rattle.cli.specs.declared.page.Paths.{Paths}
use Rattle.cli.specs.Reported.{SaysSuite}
use Rattle.cli.specs.Outcomes.{WhyNoItems, WhyNoneByPrograms, WhyCheckRefused}
use Rattle.cli.specs.Explained.{Explains, TellsFailures, IsPageOver, IsUnnamed, WhyNotExplained, IsExplanation}
use Rattle.cli.specs.Explained.{WhyExplainRefused, IsExplainedOver, IsToldIn, IsTextOf, IsPageOf}
use Rattle.cli.proofs.RunLaws.{refused_check}

-- what refuses a report refuses its explanations
pub not_explained : (c : Contents) (text : List ℕ) (w : Wanted) (e : Fault) → WhyNoneByPrograms c text e
    → WhyNotExplained c text w e
not_explained c text w (NoAssertion name) h = absurd h
not_explained c text w e h = h

-- so does a name that no assertion has
pub unnamed : (c : Contents) (text : List ℕ) (w : Wanted) (suite : Suite) → SaysSuite c text suite → (e : Fault)
    → IsUnnamed suite w e → WhyNotExplained c text w e
unnamed c text w suite says (NoAssertion name) h = record { suite = suite; says = says; unnamed = h }
unnamed c text w suite says Memory h = tt
unnamed c text w suite says (Vcd e) h = absurd h
unnamed c text w suite says (Lex e) h = absurd h
unnamed c text w suite says (Parse e) h = absurd h
unnamed c text w suite says (Typing e) h = absurd h
unnamed c text w suite says (Compile e) h = absurd h
unnamed c text w suite says BadSize h = absurd h
unnamed c text w suite says BadWorkers h = absurd h
unnamed c text w suite says BadJob h = absurd h
unnamed c text w suite says (Window e) h = absurd h
unnamed c text w suite says (Port e) h = absurd h
unnamed c text w suite says (Report e) h = absurd h
unnamed c text w suite says (Code e) h = absurd h
unnamed c text w suite says (Refused e) h = absurd h
unnamed c text w suite says (NotText n) h = absurd h
unnamed c text w suite says (Words e) h = absurd h
unnamed c text w suite says (File n) h = absurd h

-- explanations in memory and what is told of them
pub explains : (c : Contents) (text : List ℕ) (w : Wanted) (e : Explained) (told : List FailedAttempt)
    → IsExplainedOver c text w e → IsToldIn e told
    → Explains c text w (data_of e.trace.report) e.trace.times.items told
explains c text w e told over told_in = record {
  suite = e.trace.suite;
  rows = e.trace.rows;
  traced = over.traced;
  asked = over.asked;
  lines = e.trace.report.lines.items;
  lines_are = refl;
  explanations = e.explanations.items;
  items = over.items;
  spelled = over.spelled;
  explained = over.explained;
  told_of = told_in;
}

pub tells : (c : Contents) (text : List ℕ) (w : Wanted) (e : Explained) (out : List ℕ) (count : ℕ)
    → IsExplainedOver c text w e → IsTextOf e out count → TellsFailures c text w out count
tells c text w e out count over is = record {
  report = data_of e.trace.report;
  from = is.from;
  told = is.told;
  explains = subst (λ (ts : List ℕ). Explains c text w (data_of e.trace.report) ts is.told) (sym is.times)
      (explains c text w e is.told over is.told_in);
  is_text = is.is_text;
  counted = is.counted;
}

pub text_told : (e : Explained) (told slice : List FailedAttempt) (out : List ℕ) (count : ℕ) (from : ProvenanceData)
    → IsToldIn e told → slice ≡ told → from.times ≡ e.trace.times.items → count ≡ length told
    → IsExplainedText from slice out → IsTextOf e out count
text_told e told slice out count from told_in same times counted is = record {
  told = told;
  told_in = told_in;
  from = from;
  times = times;
  is_text = subst (λ (ts : List FailedAttempt). IsExplainedText from ts out) same is;
  counted = counted;
}

pub paged : (c : Contents) (text : List ℕ) (w : Wanted) (e : Explained) (paths : Paths) (page : List ℕ)
    → IsExplainedOver c text w e → IsPageOf e paths page
    → IsPageOver c text w (data_of e.trace.report) paths e.trace.times.items page
paged c text w e paths page over is = record {
  told = is.told;
  explains = explains c text w e is.told over is.told_in;
  is_page = is.is_page;
}

module _ (r : Run) (w : Wanted) (c : Contents)
    (gave : GaveDump r.source_before.remaining r.source_after.remaining c)
    (reads : r.source_after.failures ≡ r.source_before.failures) where
  -- nothing is explained, and nothing was written
  pub refused_explain : IsUnwritten r → (e : Fault) → WhyNotExplained c r.text w e → WhyExplainRefused r w e
  refused_explain unwritten (NoAssertion name) h =
      record { contents = c; gave = gave; why = h; reads = reads; unwritten = unwritten }
  refused_explain unwritten (Report e) h = absurd h
  refused_explain unwritten e h = refused_check r c gave reads unwritten e h

  -- the text was made, and not all of it was written
  pub cut_explain : (out : List ℕ) (count : ℕ) → TellsFailures c r.text w out count → (e : Fault)
      → WhyNotWritten r.sink_before r.sink_after out e → WhyExplainRefused r w e
  cut_explain out count told (Report reports.Write) h = record {
    contents = c;
    gave = gave;
    out = out;
    count = count;
    tells = told;
    front = h.1;
    reads = reads;
    writes = h.0;
  }
  cut_explain out count told (Report reports.Memory) h = absurd h
  cut_explain out count told Memory h =
      record { reads = reads; unwritten = record { held = h.1; counted = h.0 } }
  cut_explain out count told (Vcd e) h = absurd h
  cut_explain out count told (Lex e) h = absurd h
  cut_explain out count told (Parse e) h = absurd h
  cut_explain out count told (Typing e) h = absurd h
  cut_explain out count told (Compile e) h = absurd h
  cut_explain out count told BadSize h = absurd h
  cut_explain out count told BadWorkers h = absurd h
  cut_explain out count told BadJob h = absurd h
  cut_explain out count told (Window e) h = absurd h
  cut_explain out count told (Port e) h = absurd h
  cut_explain out count told (Code e) h = absurd h
  cut_explain out count told (Refused e) h = absurd h
  cut_explain out count told (NoAssertion n) h = absurd h
  cut_explain out count told (NotText n) h = absurd h
  cut_explain out count told (Words e) h = absurd h
  cut_explain out count told (File n) h = absurd h
