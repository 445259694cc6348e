-- The line of a program is that of its assertion.
use Rattle.std.proofs.Common.{
  ◌≡◌,
  ◌∙◌,
  inl,
  inr,
  ℕ,
  ◌≤◌,
  Bool,
  List,
  [],
  ◌∷◌,
  ◌++◌,
  length,
  map,
  Option,
  Some,
  None,
  refl,
  ap,
  sym,
  subst,
  arith,
}
use Rattle.std.specs.Prelude.{string_bytes}
use Rattle.std.specs.List.{AllByRecursion, AllZip, range_with_len}
use Rattle.std.specs.Option.{option_map}
use Rattle.std.proofs.lemmas.List.FromFn.{get_or-map-range_with_len, length-map-range_with_len}
use Rattle.signals.specs.declared.verdict.Verdict.TheVariants as outcome
use Rattle.assertions.specs.declared.sequence.Boolean.{Boolean}
use Rattle.assertions.specs.declared.signal.Signal.{Signal}
use Rattle.assertions.specs.declared.assertion.Assertion.{Assertion}
use Rattle.assertions.specs.declared.suite.Suite.{Suite}
use Rattle.assertions.specs.Segments.{Seq}
use Rattle.assertions.specs.Attempts.{Antecedent, IsVerdict, verdict}
use Rattle.assertions.specs.Shapes.{shape, value_in, off_in}
use Rattle.assertions.specs.Verdicts.{antecedent_of}
use Rattle.assertions.proofs.Verdicts.{IsVerdict-verdict}
use Rattle.expressions.specs.Tables.{column}
use Rattle.expressions.specs.Terms.{Samples}
use Rattle.expressions.specs.Counters.{counter_samples}
use Rattle.bytecode_programs.specs.Values.{ProgramData}
use Rattle.machine_checked.specs.Outcomes.{Ran, done, trapped}
use Rattle.machine_checked.specs.Machine.{Outcome}
use Rattle.machine_checked.specs.Runs.{open_ones}
use Rattle.vcd_reader.specs.Variables.{Declared, variable_named, size_of}
use Rattle.vcd_reader.specs.Dump.{Contents}
use Rattle.cycle_window.specs.Bound.{first_refused}
use Rattle.report_lines.specs.Lines.{LineData, ReportData, line_data_of, report_of}
use Rattle.std.proofs.lemmas.List.{length-map}
use Rattle.workers.specs.Reports.{IsJobReport}
use Rattle.compiler_laws.specs.LineLaws.{AreVerdicts}
use Rattle.machine_batches.specs.Lines.{line_over, IsLineOver}
use Rattle.cycle_window.specs.Ticks.{ticks_of, row_of}
use Rattle.vcd_reader.specs.declared.dump.Dump.{Dump}
use Rattle.vcd_reader.specs.Held.{HoldsContents, variables_of, steps_in, high_of}
use Rattle.vcd_reader.specs.Stored.{stored_step}
use Rattle.cycle_window.specs.declared.clocks.Clocks.{Clocks}
use Rattle.cycle_window.specs.Held.{code_in, ticks_in, AreClocksOf}
use Rattle.workers_core.specs.declared.job.Job.{Job}
use Rattle.workers_core.specs.Values.{Says, job_value}
use Rattle.workers_core.specs.Lines.{AreLinesOf}
use Rattle.workers_core.specs.Jobs.{sampled}
use Rattle.workers_core.specs.Wanted.{wanted_in}
use Rattle.compiler_laws.specs.ProgramLaws.{AreVerdictsOver}
use Rattle.compiler_laws.proofs.Decides.{programs-decide}
use Rattle.report_programs.specs.Lines.{IsWatched, AreVariables, rows_at, IsLineOf, IsReportOf}
use Rattle.report_programs.specs.Faults.{IsMadeOf}
use Rattle.report_programs.proofs.RowLaws.{own-rows, are-rows, none-refused}

-- what a run says, if it meets no trap
outcome_or : Outcome → Ran Outcome → Outcome
outcome_or o (done x left) = x
outcome_or o (trapped t) = o

abbrev told : ProgramData → Outcome → LineData
told p o = line_over p.header.name (o.decided ++ open_ones o.state.standing.attempts)

-- a program has one line over rows
one-line : (p : ProgramData) (rows : List (List ℕ)) (l m : LineData) → IsLineOver p rows l
    → IsLineOver p rows m → l ≡ m
unfolding outcome_or
one-line p rows l m a b =
    let first : Outcome = record { state = a.last; decided = a.decided } in
    a.is ∙ ap (λ (r : Ran Outcome). told p (outcome_or first r)) (sym a.ran ∙ b.ran) ∙ sym b.is

-- each attempt has a verdict
verdicts-are : (value : Boolean → ℕ → Bool) (off : ℕ → Bool) (r : Antecedent Boolean) (s : Seq Boolean) (count : ℕ) →
    AreVerdicts value off r s count (map (verdict value off r s count) (range_with_len 0 count))
verdicts-are value off r s count = record {
  long = length-map-range_with_len (verdict value off r s count) 0 count;
  each = λ c below.
      subst (IsVerdict value off r s count c)
      (sym (get_or-map-range_with_len (verdict value off r s count) 0 count c c outcome.Open below
      (omega arith)))
      (IsVerdict-verdict Boolean value off r s count c);
}

-- the line of a program of the assertion is the assertion's
is-line : (c : Contents) (code : ℕ) (suite : Suite) (a : Assertion) (p : ProgramData)
    (signals : List ℕ) (l : LineData) →
    IsMadeOf suite a p → AreVariables c suite signals →
    AllByRecursion (IsWatched c.variables) suite.names.items →
    IsLineOver p (map (row_of c (sampled c.variables p)) (ticks_of c code)) l →
    IsLineOf suite (rows_at c signals code) a l
is-line c code suite a p signals l made named watched ran =
    let of = made.of in
    let rows = rows_at c signals code in
    let read : Samples = counter_samples (column rows) suite.counters.items in
    let value : Boolean → ℕ → Bool = value_in suite.booleans.items a.booleans.items read in
    let off : ℕ → Bool = off_in suite.booleans.items a.booleans.items read a.disabling in
    let verdicts =
    map (verdict value off (antecedent_of a) (shape a.consequent) (length rows))
    (range_with_len 0 (length rows)) in
    let judged : AreVerdictsOver suite rows a verdicts =
    verdicts-are value off (antecedent_of a) (shape a.consequent) (length rows) in
    record {
      verdicts = verdicts;
      judged = judged;
      is =
          one-line p (rows_at c (sampled c.variables p) code) l
          (line_data_of (string_bytes a.name) verdicts) ran
          (subst (λ (rs : List (List ℕ)).
          IsLineOver p rs (line_data_of (string_bytes a.name) verdicts))
          (sym (own-rows c code suite p signals of.layout.signals named watched of.slots))
          (programs-decide suite a p made.accepted of rows
          (are-rows c suite signals code named watched) verdicts judged));
    }

-- the lines of the programs of assertions are the assertions'
pub are-lines : (c : Contents) (code : ℕ) (suite : Suite) (signals : List ℕ) →
    AreVariables c suite signals → AllByRecursion (IsWatched c.variables) suite.names.items →
    (all : List Assertion) (ps : List ProgramData) (ls : List LineData) →
    AllZip (IsMadeOf suite) all ps →
    AllZip (λ p l. IsLineOver p (map (row_of c (sampled c.variables p)) (ticks_of c code)) l) ps
    ls → AllZip (IsLineOf suite (rows_at c signals code)) all ls
are-lines c code suite signals named watched [] [] [] made ran = tt
are-lines c code suite signals named watched [] [] (l ∷ ls) made ran = absurd ran
are-lines c code suite signals named watched [] (p ∷ ps) ls made ran = absurd made
are-lines c code suite signals named watched (a ∷ all) [] ls made ran = absurd made
are-lines c code suite signals named watched (a ∷ all) (p ∷ ps) [] made ran = absurd ran
are-lines c code suite signals named watched (a ∷ all) (p ∷ ps) (l ∷ ls) made ran = (
  is-line c code suite a p signals l made.0 named watched ran.0,
  are-lines c code suite signals named watched all ps ls made.1 ran.1,
)

-- signals that are watched have variables
pub record HaveVariables (vs : List Declared) (ss : List Signal) : Type 0 where
  pub variables : List ℕ
  pub are : map (λ (s : Signal). variable_named vs (string_bytes s.path)) ss
      ≡ map (λ (v : ℕ). Some v) variables

record HasVariable (o : Option ℕ) : Type 0 where
  place : ℕ
  is : o ≡ Some place

has-variable : (f : ℕ → ℕ) (o : Option ℕ) (w : ℕ) → option_map f o ≡ Some w → HasVariable o
has-variable f None w e = absurd cc
has-variable f (Some v) w e = record { place = v; is = refl }

pub have-variables : (vs : List Declared) (ss : List Signal) → AllByRecursion (IsWatched vs) ss
    → HaveVariables vs ss
have-variables vs [] h = record { variables = []; are = refl }
have-variables vs (s ∷ ss) h =
    let first = has-variable (size_of vs) (variable_named vs (string_bytes s.path)) s.width h.0 in
    let rest = have-variables vs ss h.1 in
    record {
      variables = first.place ∷ rest.variables;
      are =
          ap (λ (o : Option ℕ).
          o ∷ map (λ (s : Signal). variable_named vs (string_bytes s.path)) ss) first.is
          ∙ ap (λ (os : List (Option ℕ)). Some first.place ∷ os) rest.are;
    }

-- no signal of the programs is refused
pub none-unfit : (vs : List Declared) (suite : Suite) (signals : List ℕ) →
    map (λ (s : Signal). variable_named vs (string_bytes s.path)) suite.names.items
    ≡ map (λ (v : ℕ). Some v) signals →
    AllByRecursion (IsWatched vs) suite.names.items →
    (all : List Assertion) (ps : List ProgramData) → AllZip (IsMadeOf suite) all ps →
    first_refused vs (wanted_in ps) ≡ None
none-unfit vs suite signals named watched [] [] made = refl
none-unfit vs suite signals named watched [] (p ∷ ps) made = absurd made
none-unfit vs suite signals named watched (a ∷ all) [] made = absurd made
none-unfit vs suite signals named watched (a ∷ all) (p ∷ ps) made =
    none-refused vs suite signals named watched made.0.of.layout.signals p.signals (wanted_in ps)
    made.0.of.slots
    ∙ none-unfit vs suite signals named watched all ps made.1

-- the lines of a job of a suite's programs are the suite's
pub all-lines :
    (j : Job) (d : Dump) (k : Clocks) (suite : Suite) (ps : List ProgramData) (ls : List LineData)
    (c : Contents) (signals : List ℕ) →
    j.programs.items ≡ ps → j.dump ≡ d → j.clocks ≡ k →
    AllZip (IsMadeOf suite) suite.assertions.items ps →
    AllByRecursion (IsWatched (variables_of d)) suite.names.items →
    HoldsContents d c → AreVariables c suite signals →
    (Says (job_value j) c → AreLinesOf (job_value j) c ls) →
    AllZip (IsLineOf suite (rows_at c signals (code_in k))) suite.assertions.items ls
all-lines j d k suite ps ls c signals programs dump clocks made watched holds named lines =
    let says : Says (job_value j) c = record {
      variables = ap variables_of dump ∙ holds.variables;
      steps = ap (λ (x : Dump). map (stored_step (high_of x)) (steps_in x)) dump ∙ holds.steps;
    } in
    let seen =
    subst (λ (vs : List Declared). AllByRecursion (IsWatched vs) suite.names.items)
    holds.variables watched in
    let own = subst (AllZip (IsMadeOf suite) suite.assertions.items) (sym programs) made in
    subst (λ (x : Clocks).
    AllZip (IsLineOf suite (rows_at c signals (code_in x))) suite.assertions.items ls) clocks
    (are-lines c (code_in j.clocks) suite signals named seen suite.assertions.items j.programs.items
    ls own (lines says))

-- so is their report
pub all-reported :
    (j : Job) (d : Dump) (k : Clocks) (suite : Suite) (r : ReportData)
    (c : Contents) (signals : List ℕ) →
    j.dump ≡ d → j.clocks ≡ k →
    AllZip (IsMadeOf suite) suite.assertions.items j.programs.items → AreClocksOf d k →
    AllByRecursion (IsWatched (variables_of d)) suite.names.items →
    HoldsContents d c → AreVariables c suite signals →
    (Says (job_value j) c → IsJobReport (job_value j) c r) →
    IsReportOf suite (rows_at c signals (code_in k)) r
all-reported j d k suite r c signals dump clocks made of watched holds named told =
    let says : Says (job_value j) c = record {
      variables = ap variables_of dump ∙ holds.variables;
      steps = ap (λ (x : Dump). map (stored_step (high_of x)) (steps_in x)) dump ∙ holds.steps;
    } in
    let many : length (ticks_in j.clocks) ≡ length (rows_at c signals (code_in k)) =
    ap (λ (x : Clocks). length (ticks_in x)) clocks ∙ ap length (of c holds)
    ∙ sym (length-map (ticks_of c (code_in k)) (row_of c signals)) in
    record {
      lines = all-lines j d k suite j.programs.items r.lines c signals refl dump clocks made watched holds named
          (λ said. (told said).lines);
      is = (told says).is ∙ ap (λ (n : ℕ). report_of n r.lines) many;
    }
