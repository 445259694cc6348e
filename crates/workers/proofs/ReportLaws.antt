-- The report of one program, of its job's line.
use Rattle.std.proofs.Common.{
  ◌≡◌,
  ℕ,
  ◌+◌,
  ◌^◌,
  ◌<◌,
  List,
  [],
  ◌∷◌,
  length,
  map,
  Option,
  Some,
  None,
  All,
  refl,
  sym,
  ap,
  ◌∙◌,
  subst,
  arith,
}
use Rattle.std.specs.List.{AllZip, filter_map}
use Rattle.std.proofs.Math.Nat.{min-eq_left}
use Rattle.std.proofs.lemmas.List.{length-map}
use Rattle.std.proofs.lemmas.List.Elements.{All-get_or}
use Rattle.bytecode_programs.specs.Values.{SlotData, ProgramData}
use Rattle.vcd_reader.specs.declared.dump.Dump.{Dump}
use Rattle.vcd_reader.specs.Variables.{Declared, variable_named, code_number}
use Rattle.vcd_reader.specs.Dump.{Contents}
use Rattle.vcd_reader.specs.Held.{HoldsContents, variables_of, steps_in, high_of}
use Rattle.vcd_reader.specs.Stored.{stored_step}
use Rattle.cycle_window.specs.declared.clocks.Clocks.{Clocks}
use Rattle.cycle_window.specs.Bound.{
  Misfit,
  Refused,
  IsClock,
  misfit,
  or_refused,
  first_refused,
  places_of,
}
use Rattle.cycle_window.specs.Ticks.{ticks_of, row_of}
use Rattle.cycle_window.specs.Held.{ticks_in, code_in}
use Rattle.report_lines.specs.declared.line.Counts.{Counts}
use Rattle.report_lines.specs.declared.line.Line.{Line}
use Rattle.report_lines.specs.Lines.{LineData, ReportData, line, held_count, total_of, report_of}
use Rattle.machine_batches.specs.Lines.{IsLineOver, attempts_of}
use Rattle.machine_batches.specs.Reported.{IsBoundClock, HasSignals, rows_of, ReportsRun, wanted_slot}
use Rattle.machine_batches.proofs.BoundLaws.{bound}
use Rattle.workers_core.specs.declared.job.Job.{Job}
use Rattle.workers_core.specs.Jobs.{sampled}
use Rattle.workers_core.specs.Values.{JobValue, Says, job_value, rows_over}
use Rattle.workers_core.specs.Lines.{AreLinesOf}
use Rattle.workers.specs.Reports.{IsJobReport}
use Rattle.workers_core.proofs.CoreRoundLaws.{ForContents, same-traced}
use Rattle.workers_core.proofs.LineLaws.{job-traced}

record Named (o : Option ℕ) (rest : Option Refused) : Type 0 where
  variable : ℕ
  is : o ≡ Some variable
  later : rest ≡ None

-- where no signal is refused, the first is not, and names a variable
no-later : (m : Option Misfit) (path : List ℕ) (rest : Option Refused)
    → or_refused m path rest ≡ None → rest ≡ None
no-later None path rest none = none
no-later (Some m) path rest none = absurd cc

first-named :
    (vs : List Declared) (o : Option ℕ) (width : ℕ) (path : List ℕ) (rest : Option Refused)
    → or_refused (misfit vs o width) path rest ≡ None → Named o rest
first-named vs None width path rest none = absurd cc
first-named vs (Some v) width path rest none =
    record { variable = v; is = refl; later = no-later (misfit vs (Some v) width) path rest none }

all-named : (vs : List Declared) (ss : List SlotData) →
    first_refused vs (map wanted_slot ss) ≡ None →
    map Some (filter_map (λ (s : SlotData). variable_named vs s.path) ss)
    ≡ places_of vs (map wanted_slot ss)
all-named vs [] none = refl
all-named vs (s ∷ ss) none =
    let one =
    first-named vs (variable_named vs s.path) s.width s.path
    (first_refused vs (map wanted_slot ss)) none in
    rw one.is (ap (λ (os : List (Option ℕ)). Some one.variable ∷ os) (all-named vs ss one.later))

-- a job of one program has one line
pub record HasLine (j : JobValue) (c : Contents) (p : ProgramData) (ls : List LineData) :
    Type 0 where
  pub line : LineData
  pub are : ls ≡ line ∷ []
  pub ran : IsLineOver p (rows_over j c p) line

one-of : (R : ProgramData → LineData → Type 0) (p : ProgramData) (ls : List LineData)
    → AllZip R (p ∷ []) ls → (l : LineData) × (ls ≡ l ∷ []) × R p l
one-of R p [] h = absurd h
one-of R p (l ∷ []) h = (l, refl, h.0)
one-of R p (l ∷ m ∷ ls) h = absurd h.1

pub has-line : (j : JobValue) (c : Contents) (p : ProgramData) (ls : List LineData)
    → j.programs ≡ p ∷ [] → AreLinesOf j c ls → HasLine j c p ls
has-line j c p ls is lines =
    let rule : ProgramData → LineData → Type 0 = λ q l. IsLineOver q (rows_over j c q) l in
    let one = one-of rule p ls (subst (λ (ps : List ProgramData). AllZip rule ps ls) is lines) in
    record { line = one.0; are = one.1; ran = one.2 }

-- the job's dump has these contents
pub says : (j : Job) (d : Dump) (c : Contents) → j.dump ≡ d → HoldsContents d c
    → Says (job_value j) c
says j d c dump holds = record {
  variables = ap variables_of dump ∙ holds.variables;
  steps = ap (λ (x : Dump). map (stored_step (high_of x)) (steps_in x)) dump ∙ holds.steps;
}

-- the report of the line over all rows
pub reports :
    (j : Job) (d : Dump) (clocks : Clocks) (c : Contents) (p : ProgramData) (r : ReportData) →
    j.programs.items ≡ p ∷ [] → j.dump ≡ d → j.clocks ≡ clocks → HoldsContents d c →
    IsClock (variables_of d) p.header.clock (code_in clocks) → HasSignals (variables_of d) p →
    (Says (job_value j) c → IsJobReport (job_value j) c r) → ReportsRun c p r
reports j d clocks c p r programs dump at holds (v, is_named, bit, code) signals told =
    let said = says j d c dump holds in
    let ls = r.lines in
    let one = has-line (job_value j) c p ls programs (told said).lines in
    let variables = sampled c.variables p in
    let none : HasSignals c.variables p =
    subst (λ (vs : List Declared). HasSignals vs p) holds.variables signals in
    let coded : code_in j.clocks ≡ code_number c.variables v =
    ap code_in at ∙ code ∙ ap (λ (vs : List Declared). code_number vs v) holds.variables in
    let rows : rows_over (job_value j) c p ≡ rows_of c v variables =
    ap (λ (k : ℕ). map (row_of c variables) (ticks_of c k)) coded in
    let ticks : ticks_in j.clocks ≡ ticks_of c (code_number c.variables v) =
    (job-traced j).ticks c said ∙ ap (ticks_of c) coded in
    let all : length (ticks_in j.clocks) ≡ length (rows_of c v variables) =
    ap length ticks
    ∙ sym (length-map (ticks_of c (code_number c.variables v)) (row_of c variables)) in
    record {
      clock = v;
      variables = variables;
      bound_clock = subst (λ (vs : List Declared). IsBoundClock vs p.header.clock v) holds.variables
          (record { named = is_named; bit = bit });
      bound = bound c.variables p.signals (map wanted_slot p.signals) variables refl
          (all-named c.variables p.signals none) none;
      line = one.line;
      ran = subst (λ (rs : List (List ℕ)). IsLineOver p rs one.line) rows one.ran;
      is = (told said).is ∙ ap (λ (k : ℕ). report_of k ls) all
          ∙ ap (report_of (length (rows_of c v variables))) one.are;
    }

-- a total of one line is that line's
held : (n : ℕ) → n < 2 ^ 64 → held_count (n + 0) ≡ n
held n below = min-eq_left (omega (arith, below)) ∙ omega arith

one-total : (l : Counts) (n : ℕ) → n < 2 ^ 64 → attempts_of l ≡ n
    → attempts_of (total_of (record { name = []; counts = l; fails = [] } ∷ [])) ≡ n
one-total l n below is =
    let h = held l.holds (omega (arith, is, below)) in
    let v = held l.vacuous (omega (arith, is, below)) in
    let f = held l.fails (omega (arith, is, below)) in
    let d = held l.disabled (omega (arith, is, below)) in
    let o = held l.still_open (omega (arith, is, below)) in
    omega (arith, h, v, f, d, o, is)

all-counted : (R : ProgramData → LineData → Type 0) (p : ProgramData) (ls : List Line) (n : ℕ)
    → n < 2 ^ 64 → AllZip R (p ∷ []) (map line ls) → All (λ l. attempts_of l.counts ≡ n) ls
    → attempts_of (total_of (map line ls)) ≡ n
all-counted R p [] n below h all = absurd h
all-counted R p (l ∷ []) n below h all =
    one-total l.counts n below
    (All-get_or (λ (x : Line). attempts_of x.counts ≡ n) (l ∷ []) 0 l (omega arith) all)
all-counted R p (l ∷ m ∷ ls) n below h all = absurd h.1

-- an attempt for each clock
pub counted :
    (j : Job) (p : ProgramData) (ls : List Line) (r : ReportData) →
    j.programs.items ≡ p ∷ [] → r.lines ≡ map line ls → length (ticks_in j.clocks) < 2 ^ 64 →
    ForContents (job_value j) (λ c. IsJobReport (job_value j) c r) →
    All (λ l. attempts_of l.counts ≡ length (ticks_in j.clocks)) ls →
    attempts_of r.total ≡ r.clocks
counted j p ls r programs lines below told all =
    same-traced (job_value j) (attempts_of r.total) r.clocks (job-traced j) (λ c said.
    let rule : ProgramData → LineData → Type 0 = λ q l. IsLineOver q (rows_over (job_value j) c q) l in
    let n = length (ticks_in j.clocks) in
    let are =
    subst (λ (ps : List ProgramData). AllZip rule ps (map line ls)) programs
    (subst (λ (ds : List LineData). AllZip rule j.programs.items ds) lines (told c said).lines) in
    ap (λ (d : ReportData). attempts_of d.total) (told c said).is
    ∙ ap (λ (ds : List LineData). attempts_of (total_of ds)) lines
    ∙ all-counted rule p ls n below are all
    ∙ sym (ap (λ (d : ReportData). d.clocks) (told c said).is))
