-- Runs of the checked machine that meet no trap.
use Rattle.std.proofs.Common.{
  ◌≡◌,
  ℕ,
  ◌+◌,
  ◌-◌,
  ◌≤◌,
  List,
  [],
  ◌∷◌,
  ◌++◌,
  length,
  take,
  drop,
  refl,
  sym,
  ap,
  ◌∙◌,
  subst,
  arith,
  length-append,
}
use Rattle.std.proofs.lemmas.List.{length-drop, length-take-le, take_all}
use Rattle.signals.specs.declared.verdict.Decided.{Decided}
use Rattle.bytecode_programs.specs.Values.{ProgramData}
use Rattle.verifier.specs.Programs.{IsAccepted}
use Rattle.machine_checked.specs.Outcomes.{Ran, done, trapped, and_then, Meets}
use Rattle.machine_checked.specs.Machine.{State, Outcome, opening, clock, clocks}
use Rattle.machine_checked.specs.Runs.{run_from, Decides}
use Rattle.machine_checked.specs.Bounds.{IsReached}
use Rattle.machine_checked.proofs.Machine.{never}
use Rattle.machine_batches.proofs.BatchLaws.{joined, later}
use Rattle.machine_batches.proofs.CutLaws.{ends-as}
use Rattle.machine_batches.proofs.CountLaws.{CountsAll, clock-counts}
use Rattle.machine_batches.specs.Batches.{rows_between, decided_in, batch_of}
use Rattle.machine_batches.proofs.JoinLaws.{clocks-append, split-at}

-- A run without a trap: a clock for each row, and each attempt that was live or began there is
-- decided or live.
pub record Runs (p : ProgramData) (s : State) (rows : List (List ℕ)) : Type 0 where
  pub outcome : Outcome
  pub ran : run_from p s rows ≡ done outcome 0
  pub now : outcome.state.standing.now ≡ s.standing.now + length rows
  pub count : length outcome.state.standing.attempts + length outcome.decided
      ≡ length s.standing.attempts + length rows

abbrev Any : State → ℕ → Type 0
Any s left = Unit {0}

-- a clock that came to a value
record Clocked (p : ProgramData) (s : State) (row : List ℕ) (rows : List (List ℕ)) : Type 0 where
  outcome : Outcome
  left : ℕ
  ran : clock p s row ≡ done outcome left
  goes : Meets Any (clocks p outcome.state rows)

clocked : (p : ProgramData) (s : State) (row : List ℕ) (rows : List (List ℕ)) (r : Ran Outcome)
    → clock p s row ≡ r → Meets Any (and_then r (λ o left. clocks p o.state rows))
    → Clocked p s row rows
clocked p s row rows (done o left) is meets =
    record { outcome = o; left = left; ran = is; goes = meets }
clocked p s row rows (trapped t) is meets = absurd meets

pub runs : (p : ProgramData) (s : State) (rows : List (List ℕ)) → Meets Any (clocks p s rows)
    → Runs p s rows
runs p s [] meets =
    record {
      outcome = record { state = s; decided = [] };
      ran = refl;
      now = omega arith;
      count = omega arith;
    }
runs p s (row ∷ rows) meets =
    let c = clocked p s row rows (clock p s row) refl meets in
    let counts : CountsAll s c.outcome = clock-counts p s row c.outcome c.left c.ran in
    let r = runs p c.outcome.state rows c.goes in
    let long : length (c.outcome.decided ++ r.outcome.decided)
    ≡ length c.outcome.decided + length r.outcome.decided =
    length-append c.outcome.decided r.outcome.decided in
    record {
      outcome =
          record { state = r.outcome.state; decided = c.outcome.decided ++ r.outcome.decided };
      ran = ap (λ (x : Ran Outcome). and_then x (later p rows)) c.ran
          ∙ ap (λ (x : Ran Outcome). and_then x (joined c.outcome.decided)) r.ran;
      now = omega (arith, counts.next, r.now);
      count = omega (arith, counts.all, r.count, long);
    }

any-met : (P : State → ℕ → Type 0) (r : Ran State) → Meets P r → Meets Any r
any-met P (done s left) h = tt
any-met P (trapped t) h = absurd h

-- an accepted program runs over all rows
pub accepted-clocks : (p : ProgramData) → IsAccepted p → (rows : List (List ℕ))
    → Meets Any (clocks p (opening p) rows)
accepted-clocks p accepted rows =
    any-met (λ s left. IsReached p s.standing) (clocks p (opening p) rows) (never p accepted rows)

-- and so it does from the state after the first ones
pub accepted-on : (p : ProgramData) → IsAccepted p → (rows : List (List ℕ)) (a b : ℕ) (s : State) →
    a ≤ b → clocks p (opening p) (take a rows) ≡ done s 0 →
    Runs p s (rows_between rows a b)
accepted-on p accepted rows a b s le here =
    let part = rows_between rows a b in
    let whole : clocks p (opening p) (take b rows) ≡ clocks p s part =
    ap (clocks p (opening p)) (sym (split-at a b rows le))
    ∙ clocks-append p (opening p) (take a rows) part
    ∙ ap (λ (r : Ran State). and_then r (λ q left. clocks p q part)) here in
    runs p s part (subst (Meets Any) whole (accepted-clocks p accepted (take b rows)))

-- there is a row for each clock
pub length-between : (rows : List (List ℕ)) (a b : ℕ) → a ≤ b → b ≤ length rows
    → length (rows_between rows a b) ≡ b - a
length-between rows a b le inside =
    length-take-le (b - a) (drop a rows) (omega (arith, length-drop a rows, le, inside))

whole : (rows : List (List ℕ)) (n : ℕ) → n ≡ length rows → take n rows ≡ rows
whole rows n is = take_all n rows (omega (arith, is))

-- all rows, from the opening state
pub batch-all : (p : ProgramData) (rows : List (List ℕ)) (n : ℕ) → n ≡ length rows
    → batch_of p rows 0 n ≡ decided_in (run_from p (opening p) rows)
batch-all p rows n is =
    let e : n - 0 ≡ n = omega arith in
    ap (λ (k : ℕ). decided_in (run_from p (opening p) (take k rows))) e
    ∙ ap (λ (rs : List (List ℕ)). decided_in (run_from p (opening p) rs)) (whole rows n is)

-- What an accepted program comes to over all rows: with so many decided, in that state.
pub record ComesTo (p : ProgramData) (rows : List (List ℕ)) (s : State) (decided : List Decided) :
    Type 0 where
  pub decides : Decides p rows decided s
  pub count : length s.standing.attempts + length decided ≡ length rows

abbrev ended : State → List Decided → Ran Outcome
ended s ds = done (record { state = s; decided = ds }) 0

pub comes-to : (p : ProgramData) → IsAccepted p →
    (rows : List (List ℕ)) (n : ℕ) (s : State) (ds : List Decided) → n ≡ length rows →
    clocks p (opening p) (take n rows) ≡ done s 0 → ds ≡ batch_of p rows 0 n → ComesTo p rows s ds
comes-to p accepted rows n s ds is here told =
    let r = runs p (opening p) rows (accepted-clocks p accepted rows) in
    let last : done r.outcome.state 0 ≡ done s 0 =
    sym (ends-as p (opening p) rows
    ∙ ap (λ (x : Ran Outcome). and_then x (λ o left. done o.state left)) r.ran)
    ∙ ap (clocks p (opening p)) (sym (whole rows n is)) ∙ here in
    let same : r.outcome.state ≡ s = cc in
    let all : r.outcome.decided ≡ ds = sym (told ∙ batch-all p rows n is ∙ ap decided_in r.ran) in
    record {
      decides = r.ran ∙ ap (λ (q : State). ended q r.outcome.decided) same ∙ ap (ended s) all;
      count = omega
          (arith, r.count, ap (λ (q : State). length q.standing.attempts) same, ap length all);
    }
