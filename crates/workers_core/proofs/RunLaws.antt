-- Runs from the first clock on.
use Rattle.std.proofs.Common.{◌≡◌, ℕ, ◌≤◌, List, [], ◌∷◌, ◌++◌, take, refl, sym, ap, ◌∙◌, arith}
use Rattle.signals.specs.declared.verdict.Decided.{Decided}
use Rattle.bytecode_programs.specs.Values.{ProgramData}
use Rattle.machine_checked.specs.Outcomes.{Ran, done, trapped, and_then}
use Rattle.machine_checked.specs.Machine.{State, Outcome, opening, clock, clocks}
use Rattle.machine_checked.specs.Runs.{outcome_behind, run_from}
use Rattle.machine_batches.proofs.CutLaws.{ends-as}
use Rattle.machine_batches.specs.Batches.{rows_between, decided_in, batch_of, HasCome}
use Rattle.machine_batches.proofs.JoinLaws.{came, split-at, joins}

-- where it comes to a value, nothing is left of it
LeavesNone : Ran Outcome → Type 0
LeavesNone (done o left) = left ≡ 0
LeavesNone (trapped t) = Unit {0}

none-behind : (ds : List Decided) (r : Ran Outcome) → LeavesNone r
    → LeavesNone (and_then r (λ rest left. done (outcome_behind ds rest) left))
unfolding LeavesNone
none-behind ds (done o left) h = h
none-behind ds (trapped t) h = tt

none-after : (p : ProgramData) (later : List (List ℕ)) (r : Ran Outcome) →
    ((s : State) → LeavesNone (run_from p s later)) →
    LeavesNone (and_then r
    (λ first left.
    and_then (run_from p first.state later)
    (λ rest left. done (outcome_behind first.decided rest) left)))
unfolding LeavesNone
none-after p later (done o left) h = none-behind o.decided (run_from p o.state later) (h o.state)
none-after p later (trapped t) h = tt

none-left : (p : ProgramData) (s : State) (rows : List (List ℕ)) → LeavesNone (run_from p s rows)
unfolding LeavesNone
none-left p s [] = refl
none-left p s (row ∷ later) = none-after p later (clock p s row) (λ q. none-left p q later)

-- what a run came to, where its state is known
whole : (r : Ran Outcome) (s : State) (left : ℕ) → LeavesNone r
    → and_then r (λ o left. done o.state left) ≡ done s left
    → r ≡ done (record { state = s; decided = decided_in r }) 0
unfolding LeavesNone
whole (done o n) s left none is =
    let same : o.state ≡ s = cc in
    ap (λ (k : ℕ). done o k) none
    ∙ ap (λ (q : State). done (record { state = q; decided = o.decided }) 0) same
whole (trapped t) s left none is = absurd cc

-- the rows of the first clocks
first-rows : (n : ℕ) (rows : List (List ℕ)) → rows_between rows 0 n ≡ take n rows
first-rows n rows = split-at 0 n rows (omega arith)

-- From the first clock on, a program that comes to a state has decided its batch.
pub come-whole : (p : ProgramData) (rows : List (List ℕ)) (n left : ℕ) (s : State)
    → clocks p (opening p) (take n rows) ≡ done s left → HasCome p rows 0 n (batch_of p rows 0 n) s
come-whole p rows n left s is =
    let r = run_from p (opening p) (rows_between rows 0 n) in
    record {
      ran = whole r s left (none-left p (opening p) (rows_between rows 0 n))
          (sym (ends-as p (opening p) (rows_between rows 0 n))
          ∙ ap (clocks p (opening p)) (first-rows n rows) ∙ is);
    }

-- All up to a clock is what was decided before another, and what was decided between.
pub all-up-to : (p : ProgramData) (rows : List (List ℕ)) (a b : ℕ) (s : State) (xs : List Decided)
    → a ≤ b → HasCome p rows a b xs s → batch_of p rows 0 a ++ xs ≡ batch_of p rows 0 b
all-up-to p rows a b s xs h come =
    let part = rows_between rows a b in
    let m =
    came (clocks p (opening p) (take a rows)) (λ q left. run_from p q part)
    (record { state = s; decided = xs }) come.ran in
    let before = come-whole p rows a m.left m.first m.is in
    sym (ap decided_in
    (joins p rows 0 a b m.first s (batch_of p rows 0 a) xs (omega arith) h before come).ran)
