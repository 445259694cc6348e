-- Two reports on the same bytes and the same text are one.
use Rattle.std.proofs.Common.{
  ◌≡◌,
  ℕ,
  ◌<◌,
  List,
  [],
  ◌∷◌,
  length,
  map,
  Option,
  Some,
  refl,
  sym,
  ap,
  ◌∙◌,
  subst,
  arith,
  string_bytes,
}
use Rattle.std.specs.Prelude.{slice_index_or}
use Rattle.std.specs.List.{AllZip}
use Rattle.std.proofs.Math.Path.{fun_ext}
use Rattle.std.proofs.lemmas.List.{ext_get_or}
use Rattle.signals.specs.declared.verdict.Verdict.{Verdict}
use Rattle.signals.specs.declared.verdict.Verdict.TheVariants as outcome
use Rattle.expressions.specs.declared.expr.Expr.{Expr}
use Rattle.expressions.specs.Terms.{Samples}
use Rattle.expressions.specs.Tables.{column}
use Rattle.expressions.specs.Counters.{counter_samples, counter_at}
use Rattle.assertions.specs.declared.sequence.Boolean.{Boolean}
use Rattle.assertions.specs.declared.assertion.Assertion.{Assertion}
use Rattle.assertions.specs.declared.signal.Signal.{Signal}
use Rattle.assertions.specs.declared.suite.Suite.{Suite}
use Rattle.assertions.specs.Shapes.{shape, value_in, off_in}
use Rattle.assertions.proofs.Verdicts.{IsVerdict-only}
use Rattle.assertions.specs.Verdicts.{antecedent_of, IsVerdictOn}
use Rattle.laws_one_report.specs.Same.{AreAlike, SaySame}
use Rattle.laws_one_report.proofs.SameLaws.{say_same}
use Rattle.vcd_reader.specs.Variables.{Declared, variable_named}
use Rattle.vcd_reader.specs.Dump.{Contents, dump_of}
use Rattle.report_lines.specs.Lines.{LineData, ReportData, line_data_of, report_of}
use Rattle.suite_over_dump.specs.Suites.{scope_over}
use Rattle.report_suites.specs.Judged.{AreVerdictsOn, AreLines}
use Rattle.cli.specs.Reported.{SaysSuite, HasReport, IsReport}
use Rattle.report_suites.specs.Reported.{IsBound, rows_of, OverRows, Reports}
use Rattle.laws_one_report.proofs.ItemLaws.{same_ok, other_suite}
use Rattle.report_suites.proofs.ReportLaws.{named_by, same_places}

-- an attempt has one verdict
one_verdict :
    (booleans : List Expr) (read : Samples) (ticks : ℕ) (a : Assertion) (clock : ℕ) (v w : Verdict)
    → IsVerdictOn booleans read ticks a clock v → IsVerdictOn booleans read ticks a clock w
    → v ≡ w
one_verdict booleans read ticks a clock v w h k =
    let value = value_in booleans a.booleans.items read in
    let off = off_in booleans a.booleans.items read a.disabling in
    sym (IsVerdict-only Boolean value off (antecedent_of a) (shape a.consequent) ticks clock v h)
    ∙ IsVerdict-only Boolean value off (antecedent_of a) (shape a.consequent) ticks clock w k

-- so lists of verdicts on assertions that are alike are one
same_verdicts :
    (booleans others : List Expr) (read : Samples) (ticks : ℕ) (a b : Assertion)
    (vs ws : List Verdict) → AreAlike booleans others a b
    → AreVerdictsOn booleans read ticks a vs → AreVerdictsOn others read ticks b ws
    → vs ≡ ws
same_verdicts booleans others read ticks a b vs ws alike h k =
    ext_get_or outcome.Open vs ws (h.long ∙ sym k.long) (λ clock below.
    let inside : clock < ticks = omega (arith, h.long, below) in
    let v = slice_index_or vs clock outcome.Open in
    one_verdict others read ticks b clock v (slice_index_or ws clock outcome.Open)
    ((alike.verdicts read ticks clock v).0 (h.each clock inside)) (k.each clock inside))

-- and so are lines
same_lines : (booleans others : List Expr) (read : Samples) (ticks : ℕ) (us ws : List Assertion)
    (ls ms : List LineData) → AllZip (AreAlike booleans others) us ws
    → AreLines booleans read ticks us ls → AreLines others read ticks ws ms → ls ≡ ms
same_lines booleans others read ticks [] [] [] [] alike h k = refl
same_lines booleans others read ticks [] [] [] (m ∷ ms) alike h k = elim k [ ]
same_lines booleans others read ticks [] [] (l ∷ ls) ms alike h k = elim h [ ]
same_lines booleans others read ticks [] (w ∷ ws) ls ms alike h k = elim alike [ ]
same_lines booleans others read ticks (u ∷ us) [] ls ms alike h k = elim alike [ ]
same_lines booleans others read ticks (u ∷ us) (w ∷ ws) [] ms alike h k = elim h [ ]
same_lines booleans others read ticks (u ∷ us) (w ∷ ws) (l ∷ ls) [] alike h k = elim k [ ]
same_lines booleans others read ticks (u ∷ us) (w ∷ ws) (l ∷ ls) (m ∷ ms) alike h k =
    let verdicts =
    same_verdicts booleans others read ticks u w h.0.verdicts k.0.verdicts alike.0 h.0.judged
    k.0.judged in
    let line : l ≡ m =
    h.0.is ∙ ap (λ (n : List ℕ). line_data_of n h.0.verdicts) alike.0.name
    ∙ ap (line_data_of (string_bytes w.name)) verdicts ∙ sym k.0.is in
    ap (λ (x : LineData). x ∷ ls) line
    ∙ ap (λ (xs : List LineData). m ∷ xs)
    (same_lines booleans others read ticks us ws ls ms alike.1 h.1 k.1)

-- The reports of two suites that say the same over the same rows are one.
same_over : (one other : Suite) (rows : List (List ℕ)) (r q : ReportData) → SaySame one other
    → OverRows one rows r → OverRows other rows q → r ≡ q
same_over one other rows r q same h k =
    let counts : counter_at (column rows) one.counters.items
    ≡ counter_at (column rows) other.counters.items =
    fun_ext (λ place. fun_ext (λ tick. same.counters (column rows) place tick)) in
    let read = counter_samples (column rows) other.counters.items in
    let judged : AreLines one.booleans.items read (length rows) one.assertions.items h.lines =
    subst (λ (f : ℕ → ℕ → ℕ).
    AreLines one.booleans.items (record { signal_at = column rows; counter_at = f })
    (length rows) one.assertions.items h.lines) counts h.judged in
    h.is ∙ ap (report_of (length rows))
    (same_lines one.booleans.items other.booleans.items read (length rows) one.assertions.items
    other.assertions.items h.lines k.lines same.assertions judged k.judged) ∙ sym k.is

-- The variables that paths name are one.
same_some : (m n : ℕ) → Some m ≡ Some n → m ≡ n
same_some m n h = cc

same_clock : (c : Contents) (one other : Suite) (v w : ℕ) (vs ws : List ℕ) → SaySame one other
    → IsBound c one v vs → IsBound c other w ws → v ≡ w
same_clock c one other v w vs ws same h k =
    same_some v w (sym h.clock_named ∙ ap (variable_named c.variables) same.clock ∙ k.clock_named)

names_by_paths : (vs : List Declared) (ss : List Signal)
    → named_by vs ss ≡ map (variable_named vs) (map (λ (s : Signal). string_bytes s.path) ss)
names_by_paths vs [] = refl
names_by_paths vs (s ∷ ss) =
    ap (λ (os : List (Option ℕ)). variable_named vs (string_bytes s.path) ∷ os)
    (names_by_paths vs ss)

same_signals : (c : Contents) (one other : Suite) (v w : ℕ) (vs ws : List ℕ) → SaySame one other
    → IsBound c one v vs → IsBound c other w ws → vs ≡ ws
same_signals c one other v w vs ws same h k =
    same_places vs ws
    (sym h.signals_named ∙ names_by_paths c.variables one.names.items
    ∙ ap (map (variable_named c.variables)) same.paths
    ∙ sym (names_by_paths c.variables other.names.items) ∙ k.signals_named)

same_reports : (c : Contents) (one other : Suite) (r q : ReportData) → SaySame one other
    → Reports c one r → Reports c other q → r ≡ q
same_reports c one other r q same h k =
    let clock = same_clock c one other h.clock k.clock h.signals k.signals same h.bound k.bound in
    let signals =
    same_signals c one other h.clock k.clock h.signals k.signals same h.bound k.bound in
    let rows : rows_of c h.clock h.signals ≡ rows_of c k.clock k.signals =
    ap (λ (v : ℕ). rows_of c v h.signals) clock ∙ ap (rows_of c k.clock) signals in
    same_over one other (rows_of c k.clock k.signals) r q same
    (subst (λ (t : List (List ℕ)). OverRows one t r) rows h.over) k.over

-- A text says one suite over a dump, and so has one report.
pub same_suites : (c : Contents) (text : List ℕ) (one other : Suite) → SaysSuite c text one
    → SaysSuite c text other → SaySame one other
same_suites c text one other h k =
    let first = other_suite c.variables text h.items k.items one h.spelled k.spelled h.typed.says in
    say_same (scope_over c.variables k.items) k.items one other first k.typed.says

pub same_report : (bytes text : List ℕ) (one other : ReportData) → IsReport bytes text one
    → IsReport bytes text other → one ≡ other
same_report bytes text one other h k =
    let contents = same_ok h.contents k.contents (dump_of bytes) h.dump k.dump in
    let has : HasReport k.contents text one =
    subst (λ (c : Contents). HasReport c text one) contents h.has in
    same_reports k.contents has.suite k.has.suite one other
    (same_suites k.contents text has.suite k.has.suite has.says k.has.says) has.reports
    k.has.reports
