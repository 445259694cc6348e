-- The batches of a program of an assertion have its verdicts.
use Rattle.std.proofs.Common.{
  ◌≡◌,
  ◌∙◌,
  ℕ,
  zero,
  suc,
  ◌<◌,
  ◌≤◌,
  Bool,
  List,
  [],
  ◌∷◌,
  length,
  take,
  map,
  Option,
  Some,
  slice_get,
  refl,
  sym,
  ap,
  subst,
  arith,
}
use Rattle.std.specs.Prelude.{Contains, slice_index, slice_index_or, string_bytes}
use Rattle.std.specs.List.{AllByRecursion, AllZip, filter_map}
use Rattle.std.proofs.lemmas.List.{length-map, get_or-map, same_lists}
use Rattle.std.proofs.lemmas.List.Elements.{All-weaker, All-contains_itself, recursion_from_All}
use Rattle.expressions.specs.declared.name.Origin.TheVariants as origins
use Rattle.signals.specs.declared.verdict.Verdict.{Verdict}
use Rattle.assertions.specs.declared.sequence.Boolean.{Boolean}
use Rattle.assertions.specs.declared.assertion.Assertion.{Assertion}
use Rattle.assertions.specs.declared.suite.Suite.{Suite}
use Rattle.assertions.specs.Attempts.{IsVerdict, verdict}
use Rattle.assertions.specs.Shapes.{shape}
use Rattle.assertions.specs.Verdicts.{antecedent_of}
use Rattle.assertions.proofs.Verdicts.{IsVerdict-only}
use Rattle.bytecode_programs.specs.Values.{ProgramData, SlotData}
use Rattle.verifier.specs.Programs.{IsAccepted}
use Rattle.vcd_reader.specs.Variables.{variable_named}
use Rattle.vcd_reader.specs.Dump.{Contents}
use Rattle.cycle_window.specs.Ticks.{ticks_of, sample, row_of}
use Rattle.machine_sections.specs.Monitors.{program_monitor}
use Rattle.machine_sections.specs.History.{SamplesAs}
use Rattle.machine_sections.specs.Laws.{open_starts, starts_of}
use Rattle.machine_checked.specs.Outcomes.{done}
use Rattle.machine_checked.specs.Machine.{State, opening, clocks}
use Rattle.machine_batches.specs.Batches.{batch_of}
use Rattle.compiler_laws.specs.LineLaws.{row_of as row_at}
use Rattle.assertions.specs.Reads.{Reads}
use Rattle.compiler.specs.Programs.{IsSlotOf, IsProgramOf}
use Rattle.compiler.proofs.ListLaws.{some-one}
use Rattle.compiler_laws.specs.ProgramLaws.{AreSuiteRows, picked_row}
use Rattle.compiler_laws.proofs.Samples as made
use Rattle.compiler_laws.proofs.Decides as decides
use Rattle.workers_core.specs.States.{MonitorState, BatchState, monitor_clock}
use Rattle.workers_core.specs.Jobs.{sampled}
use Rattle.workers_core.specs.Values.{CoreValue, rows_over}
use Rattle.workers_core.specs.Following.{FollowsMachine}
use Rattle.laws_headline.specs.Headline.{
  AreVerdictsOf,
  fallen_between,
  ReadTheDump,
  PublishesVerdicts,
  DecidesAsMeant,
}
use Rattle.laws_headline.proofs.Cuts as cuts

module _ (suite : Suite) (a : Assertion) (p : ProgramData) (of : IsProgramOf suite a p)
    (rows : List (List ℕ)) (fit : AreSuiteRows suite rows) (accepted : IsAccepted p)
    (verdict_at : ℕ → Verdict) (are : AreVerdictsOf suite rows a verdict_at) where
  abbrev own : List (List ℕ)
  own = map (picked_row of.layout.signals) rows

  long : length rows ≡ length own
  long = sym (length-map rows (picked_row of.layout.signals))

  abbrev value : Boolean → ℕ → Bool
  value = decides.value suite a p of rows fit

  abbrev atoms : ℕ → List Bool
  atoms = made.atoms suite a p of rows fit

  samples : SamplesAs p (row_at own) (made.counters suite a p of rows fit) atoms (length own)
  samples =
      subst (λ n. SamplesAs p (row_at own) (made.counters suite a p of rows fit) atoms n) long
      (made.samples suite a p of rows fit accepted)

  -- the verdict that is computed
  abbrev meant : ℕ → Verdict
  meant =
      verdict value (program_monitor p atoms).off (antecedent_of a) (shape a.consequent) (length own)

  same : (c : ℕ) → c < length own → meant c ≡ verdict_at c
  same c below =
      IsVerdict-only Boolean value (program_monitor p atoms).off (antecedent_of a)
      (shape a.consequent) (length own) c (verdict_at c)
      (subst (λ n. IsVerdict value (program_monitor p atoms).off (antecedent_of a)
      (shape a.consequent) n c (verdict_at c)) long
      (subst (λ (off : ℕ → Bool).
      IsVerdict value off (antecedent_of a) (shape a.consequent) (length rows) c
      (verdict_at c)) (decides.same-off suite a p of rows fit)
      (are c (omega (arith, below, long)))))

  pub batch-is : (x y : ℕ) → x ≤ y → y ≤ length rows
      → batch_of p own x y ≡ fallen_between verdict_at (length rows) x y
  batch-is x y le within =
      cuts.batch-falls p own (made.counters suite a p of rows fit) atoms value (antecedent_of a)
      (shape a.consequent) accepted samples
      (decides.watches suite a p of rows fit) (decides.fills suite a p of rows fit) x y le
      (omega (arith, within, long))
      ∙ cuts.between-same meant verdict_at (length own) x y same
      ∙ ap (λ n. fallen_between verdict_at n x y) (sym long)

  pub live-is : (n : ℕ) (last : State) → n ≡ length rows
      → clocks p (opening p) (take n own) ≡ done last 0
      → starts_of last.standing.attempts ≡ open_starts verdict_at (length rows)
  live-is n last is h =
      cuts.open-live p own (made.counters suite a p of rows fit) atoms value (antecedent_of a)
      (shape a.consequent) accepted samples
      (decides.watches suite a p of rows fit) (decides.fills suite a p of rows fit) n last
      (is ∙ long) h
      ∙ cuts.open-same meant verdict_at (length own) same
      ∙ ap (open_starts verdict_at) (sym long)

-- the rows of a program over the dump are picked from rows that have its values of what the program holds
module _ (c : Contents) (code : ℕ) (suite : Suite) (a : Assertion) (rows : List (List ℕ))
    (read : ReadTheDump c code suite a rows) where
  abbrev named : SlotData → Option ℕ
  named s = variable_named c.variables s.path

  abbrev Reading : ℕ → Type 0
  Reading place = Reads suite a origins.Signal place

  cells : (k : ℕ) → k < length rows → (places : List ℕ) (slots : List SlotData) → AllByRecursion Reading places
      → AllZip (IsSlotOf suite) places slots
      → map (sample c (slice_index (ticks_of c code) k)) (filter_map named slots)
      ≡ picked_row places (slice_index_or rows k [])
  cells k lt [] [] reads h = refl
  cells k lt [] (s ∷ slots) reads h = absurd h
  cells k lt (p ∷ places) [] reads h = absurd h
  cells k lt (p ∷ places) (s ∷ slots) reads h =
      let one = read.columns p h.0.signal reads.0 h.0.is in
      let is : named s ≡ Some one.variable = ap (variable_named c.variables) h.0.path ∙ one.named in
      let tick = slice_index (ticks_of c code) k in
      let first : sample c tick one.variable ≡ slice_index (slice_index_or rows k []) p = sym (one.each k lt) in
      rw is (ap (λ (n : ℕ). n ∷ map (sample c tick) (filter_map named slots)) first
      ∙ ap (λ (ns : List ℕ). slice_index (slice_index_or rows k []) p ∷ ns) (cells k lt places slots reads.1 h.1))

  row-same : (p : ProgramData) (places : List ℕ) → AllByRecursion Reading places
      → AllZip (IsSlotOf suite) places p.signals → (k : ℕ) → k < length rows
      → row_of c (sampled c.variables p) (slice_index (ticks_of c code) k)
      ≡ picked_row places (slice_index_or rows k [])
  unfolding row_of
  row-same p places reads slots k lt = cells k lt places p.signals reads slots

  pub own-rows : (p : ProgramData) (of : IsProgramOf suite a p)
      → map (row_of c (sampled c.variables p)) (ticks_of c code) ≡ map (picked_row of.layout.signals) rows
  own-rows p of =
      let ticks = ticks_of c code in
      let variables = sampled c.variables p in
      let places = of.layout.signals in
      let reads : AllByRecursion Reading places =
      recursion_from_All Reading places
      (All-weaker (Contains places) Reading (λ place at. (of.reads_signals.exactly place).0 at) places
      (All-contains_itself places)) in
      let left : length (map (row_of c variables) ticks) ≡ length ticks = length-map ticks (row_of c variables) in
      let right : length (map (picked_row places) rows) ≡ length rows = length-map rows (picked_row places) in
      same_lists (map (row_of c variables) ticks) (map (picked_row places) rows) (left ∙ sym read.ticks ∙ sym right)
      (λ k d lt.
      let below : k < length ticks = omega (arith, lt, left) in
      let within : k < length rows = omega (arith, below, read.ticks) in
      get_or-map (row_of c variables) ticks k 0 d below
      ∙ row-same p places reads of.slots k within
      ∙ sym (get_or-map (picked_row places) rows k [] d within))

-- the monitor of a program
record Runs (ms : List MonitorState) (i : ℕ) (p : ProgramData) : Type 0 where
  monitor : MonitorState
  at : slice_get ms i ≡ Some monitor
  is : monitor.program ≡ p

runs : (ms : List MonitorState) (i : ℕ) (p : ProgramData)
    → slice_get (map (λ (m : MonitorState). m.program) ms) i ≡ Some p → Runs ms i p
runs [] i p h = absurd cc
runs (m ∷ ms) zero p h = let e : m.program ≡ p = cc in record { monitor = m; at = refl; is = e }
runs (m ∷ ms) (suc i) p h =
    let r = runs ms i p h in record { monitor = r.monitor; at = r.at; is = r.is }

pub as-meant : (v : CoreValue) (c : Contents) → FollowsMachine v c → DecidesAsMeant v c
as-meant v c follows number p is suite a of rows read verdict_at are =
    let run =
    runs v.state.monitors number p
    (ap (λ (ps : List ProgramData). slice_get ps number) follows.programs ∙ is) in
    let accepted : IsAccepted p =
    subst IsAccepted run.is (follows.accepted number run.monitor run.at) in
    let own : rows_over v.job c p ≡ map (picked_row of.layout.signals) rows =
    own-rows c v.job.code suite a rows read p of in
    record {
      batches = λ n b at mine.
          let found = follows.batches n b at in
          let q : ProgramData = found.0 in
          let program : q ≡ p =
          some-one q p (sym found.1.program ∙ ap (slice_get v.job.programs) mine ∙ is) in
          found.1.decided
          ∙ ap (λ (x : ProgramData). batch_of x (rows_over v.job c x) b.first b.end) program
          ∙ ap (λ (rs : List (List ℕ)). batch_of p rs b.first b.end) own
          ∙ batch-is suite a p of rows read.fit accepted verdict_at are b.first b.end found.1.order
          (omega (arith, found.1.within, read.ticks));
      live = λ m at here.
          let one : run.monitor ≡ m = some-one run.monitor m (sym run.at ∙ at) in
          let program : m.program ≡ p = ap (λ (x : MonitorState). x.program) (sym one) ∙ run.is in
          live-is suite a p of rows read.fit accepted verdict_at are (monitor_clock m) m.state here
          (ap (λ (rs : List (List ℕ)). clocks p (opening p) (take (monitor_clock m) rs)) (sym own)
          ∙ ap (λ (x : ProgramData). clocks x (opening x) (take (monitor_clock m) (rows_over v.job c x)))
          (sym program)
          ∙ follows.monitors number m at);
    }
