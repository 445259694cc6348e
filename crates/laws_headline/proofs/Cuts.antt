-- What a program that runs by the meaning decides between two clocks.
use Rattle.std.proofs.Common.{
  ◌≡◌,
  ◌∙◌,
  ℕ,
  zero,
  suc,
  ◌+◌,
  ◌-◌,
  ◌<◌,
  ◌≤◌,
  Bool,
  true,
  List,
  [],
  ◌∷◌,
  ◌++◌,
  length,
  take,
  map,
  refl,
  sym,
  ap,
  subst,
  arith,
}
use Rattle.std.specs.Prelude.{slice_index_or}
use Rattle.std.specs.List.{range_with_len, flat_map}
use Rattle.std.proofs.lemmas.List.{append_cancel_left, append_assoc, get_or-take, length-take-le}
use Rattle.signals.specs.declared.verdict.Verdict.{Verdict}
use Rattle.signals.specs.declared.verdict.Decided.{Decided}
use Rattle.bytecode_programs.specs.Values.{ProgramData}
use Rattle.verifier.specs.Programs.{IsAccepted}
use Rattle.assertions.specs.declared.sequence.Boolean.{Boolean}
use Rattle.assertions.specs.Segments.{Seq}
use Rattle.assertions.specs.Attempts.{Antecedent, verdict}
use Rattle.machine_checked.specs.Outcomes.{Ran, done, and_then}
use Rattle.machine_checked.specs.Machine.{State, Outcome, opening, clocks}
use Rattle.machine_checked.specs.Runs.{outcome_behind, run_from}
use Rattle.machine_sections.specs.Monitors.{program_monitor}
use Rattle.machine_sections.specs.Standing.{select_ticks, falls_at, is_open, falling}
use Rattle.machine_sections.specs.History.{SamplesAs}
use Rattle.machine_sections.specs.Laws.{Watches, Fills, fallen, open_starts, starts_of, all_fallen}
use Rattle.machine_sections.proofs.Selections.{map-same, select-same}
use Rattle.machine_sections.proofs.Histories.{listed}
use Rattle.machine_sections.proofs.Deciding.{falling-fallen}
use Rattle.machine_sections.proofs.Rows.{by-meaning}
use Rattle.machine_batches.proofs.BatchLaws.{joined, later}
use Rattle.machine_batches.proofs.CutLaws.{cuts, ends-as}
use Rattle.machine_batches.specs.Batches.{rows_between, batch_of, decided_in}
use Rattle.machine_batches.proofs.JoinLaws.{came, split-at}
use Rattle.compiler_laws.specs.LineLaws.{row_of}
use Rattle.laws_headline.specs.Headline.{fallen_between}

-- lists of what falls, clock by clock, that are the same
flat-same : (f g : ℕ → List Decided) (i k : ℕ) → ((j : ℕ) → i ≤ j → j < i + k → f j ≡ g j)
    → flat_map f (range_with_len i k) ≡ flat_map g (range_with_len i k)
flat-same f g i zero same = refl
flat-same f g i (suc k) same =
    ap (λ x. x ++ flat_map f (range_with_len (i + 1) k)) (same i (omega arith) (omega arith))
    ∙ ap (λ xs. g i ++ xs)
    (flat-same f g (i + 1) k (λ j from below. same j (omega arith) (omega arith)))

-- the clocks from i on, cut after so many
flat-cut : (f : ℕ → List Decided) (i j k : ℕ)
    → flat_map f (range_with_len i j) ++ flat_map f (range_with_len (i + j) k)
    ≡ flat_map f (range_with_len i (j + k))
flat-cut f i zero k =
    let e : i + zero ≡ i = omega arith in
    let n : k ≡ zero + k = omega arith in
    ap (λ m. flat_map f (range_with_len m k)) e ∙ ap (λ m. flat_map f (range_with_len i m)) n
flat-cut f i (suc j) k =
    let e : i + suc j ≡ i + 1 + j = omega arith in
    let n : suc (j + k) ≡ suc j + k = omega arith in
    append_assoc (f i) (flat_map f (range_with_len (i + 1) j))
    (flat_map f (range_with_len (i + suc j) k))
    ∙ ap (λ m. f i ++ (flat_map f (range_with_len (i + 1) j) ++ flat_map f (range_with_len m k))) e
    ∙ ap (λ xs. f i ++ xs) (flat-cut f (i + 1) j k)
    ∙ ap (λ m. flat_map f (range_with_len i m)) n

pub between-same : (v w : ℕ → Verdict) (n a b : ℕ) → ((c : ℕ) → c < n → v c ≡ w c)
    → fallen_between v n a b ≡ fallen_between w n a b
between-same v w n a b same =
    flat-same (fallen v n) (fallen w n) a (b - a)
    (λ k from below.
    select-same (λ c. falls_at k (v c)) (λ c. falls_at k (w c))
    (λ c. record { start = c; verdict = v c }) (λ c. record { start = c; verdict = w c }) 0 n
    (λ c low high. ap (falls_at k) (same c (omega arith)))
    (λ c low high falls. ap (λ x. record { start = c; verdict = x }) (same c (omega arith))))

pub open-same : (v w : ℕ → Verdict) (n : ℕ) → ((c : ℕ) → c < n → v c ≡ w c)
    → open_starts v n ≡ open_starts w n
open-same v w n same =
    select-same (λ c. is_open (v c)) (λ c. is_open (w c)) (λ c. c) (λ c. c) 0 n
    (λ c low high. ap is_open (same c (omega arith)))
    (λ c low high on. refl)

module _ (p : ProgramData) (rows : List (List ℕ)) (counters : ℕ → List ℕ) (atoms : ℕ → List Bool)
    (value : Boolean → ℕ → Bool) (r : Antecedent Boolean) (s : Seq Boolean) (accepted : IsAccepted p)
    (samples : SamplesAs p (row_of rows) counters atoms (length rows))
    (watches : Watches p atoms value r s) (fills : Fills value s) where
  abbrev v : ℕ → ℕ → Verdict
  v = verdict value (program_monitor p atoms).off r s

  abbrev over : ℕ → Verdict
  over = v (length rows)

  -- what falls at so many clocks from i on
  abbrev falls : ℕ → ℕ → List Decided
  falls i k = flat_map (fallen over (length rows)) (range_with_len i k)

  -- the first rows
  first-rows : (n : ℕ) → n ≤ length rows → map (row_of rows) (range_with_len 0 n) ≡ take n rows
  first-rows n le =
      let long : length (take n rows) ≡ n = length-take-le n rows le in
      map-same (row_of rows) (row_of (take n rows)) 0 n
      (λ k from below. sym (get_or-take n rows k [] (omega arith)))
      ∙ ap (λ m. map (row_of (take n rows)) (range_with_len 0 m)) (sym long)
      ∙ listed (take n rows) []

  record Comes (n : ℕ) : Type 0 where
    last : State
    ran : run_from p (opening p) (take n rows)
        ≡ done (record { state = last; decided = falls 0 n }) 0
    live : starts_of last.standing.attempts ≡ open_starts (v n) n

  comes : (n : ℕ) → n ≤ length rows → Comes n
  comes n le =
      let some : SamplesAs p (row_of rows) counters atoms n =
      record { opening = samples.opening; each = λ k below. samples.each k (omega arith) } in
      let judged =
      by-meaning p (row_of rows) counters atoms value r s n accepted some watches fills in
      let all : all_fallen (v n) n ≡ falls 0 n =
      flat-same (fallen (v n) n) (fallen over (length rows)) 0 n (λ k from below.
      sym (falling-fallen p atoms value r s accepted watches fills n k (omega arith))
      ∙ falling-fallen p atoms value r s accepted watches fills (length rows) k
      (omega arith)) in
      record {
        last = judged.last;
        ran =
            ap (run_from p (opening p)) (sym (first-rows n le))
            ∙ judged.ran
            ∙ ap (λ ds. done (record { state = judged.last; decided = ds }) 0) all;
        live = judged.live;
      }

  ends : (n : ℕ) (le : n ≤ length rows)
      → clocks p (opening p) (take n rows) ≡ done (comes n le).last 0
  ends n le =
      ends-as p (opening p) (take n rows)
      ∙ ap (λ (x : Ran Outcome). and_then x (λ o left. done o.state left)) (comes n le).ran

  -- the batch of a run of clocks
  pub batch-falls : (a b : ℕ) → a ≤ b → b ≤ length rows
      → batch_of p rows a b ≡ fallen_between over (length rows) a b
  batch-falls a b ab le =
      let la : a ≤ length rows = omega (arith, ab, le) in
      let part = rows_between rows a b in
      let first = comes a la in
      let whole = comes b le in
      let before : Outcome = record { state = first.last; decided = falls 0 a } in
      let after : Outcome = record { state = whole.last; decided = falls 0 b } in
      let run : later p part before 0 ≡ done after 0 =
      ap (λ (x : Ran Outcome). and_then x (later p part)) (sym first.ran)
      ∙ sym (cuts p (opening p) (take a rows) part)
      ∙ ap (run_from p (opening p)) (split-at a b rows ab)
      ∙ whole.ran in
      let m = came (run_from p first.last part) (joined (falls 0 a)) after run in
      let told : falls 0 a ++ m.first.decided ≡ falls 0 b = ap decided_in m.then in
      let e : a + (b - a) ≡ b = omega arith in
      let z : 0 + a ≡ a = omega arith in
      ap (λ (x : Ran State). decided_in (and_then x (λ q left. run_from p q part))) (ends a la)
      ∙ ap decided_in m.is
      ∙ append_cancel_left (falls 0 a) m.first.decided (falls a (b - a))
      (told ∙ ap (falls 0) (sym e) ∙ sym (flat-cut (fallen over (length rows)) 0 a (b - a))
      ∙ ap (λ i. falls 0 a ++ falls i (b - a)) z)

  -- the attempts that are live after the last clock
  pub open-live : (n : ℕ) (last : State) → n ≡ length rows
      → clocks p (opening p) (take n rows) ≡ done last 0
      → starts_of last.standing.attempts ≡ open_starts over (length rows)
  open-live n last is h =
      let le : n ≤ length rows = omega (arith, is) in
      let c = comes n le in
      let same : done c.last 0 ≡ done last 0 = sym (ends n le) ∙ h in
      let state : c.last ≡ last = cc in
      ap (λ (q : State). starts_of q.standing.attempts) (sym state)
      ∙ c.live
      ∙ ap (λ k. open_starts (v k) k) is
