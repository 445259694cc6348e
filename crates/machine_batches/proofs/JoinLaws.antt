-- Runs between two clocks, one after another.
use Rattle.std.proofs.Common.{
  ◌≡◌,
  ℕ,
  zero,
  suc,
  ◌+◌,
  ◌-◌,
  ◌≤◌,
  List,
  [],
  ◌∷◌,
  ◌++◌,
  take,
  drop,
  refl,
  sym,
  ap,
  ◌∙◌,
  arith,
}
use Rattle.signals.specs.declared.verdict.Decided.{Decided}
use Rattle.bytecode_programs.specs.Values.{ProgramData}
use Rattle.machine_checked.specs.Outcomes.{Ran, done, trapped, and_then}
use Rattle.machine_checked.specs.Machine.{State, Outcome, opening, clock, clocks}
use Rattle.machine_checked.specs.Runs.{outcome_behind, run_from}
use Rattle.machine_batches.proofs.BatchLaws.{joined, later}
use Rattle.machine_batches.proofs.CutLaws.{cuts, ends-as}
use Rattle.machine_batches.specs.Batches.{rows_between, run_between, HasCome}

-- what came to a value did so by way of another
pub record Came {A B : Type 0} (r : Ran A) (go : A → ℕ → Ran B) (b : B) : Type 0 where
  pub first : A
  pub left : ℕ
  pub is : r ≡ done first left
  pub then : go first left ≡ done b 0

pub came : {A B : Type 0} (r : Ran A) (go : A → ℕ → Ran B) (b : B) → and_then r go ≡ done b 0
    → Came r go b
came (done a n) go b h = record { first = a; left = n; is = refl; then = h }
came (trapped t) go b h = absurd cc

abbrev none : List (List ℕ)
none = []

take-none : (n : ℕ) → take n none ≡ []
take-none zero = refl
take-none (suc n) = refl

drop-none : (n : ℕ) → drop n none ≡ []
drop-none zero = refl
drop-none (suc n) = refl

-- the rows up to a clock, and those after it
pub split : (a d : ℕ) (rows : List (List ℕ))
    → take a rows ++ take d (drop a rows) ≡ take (a + d) rows
split zero d rows = let e : d ≡ 0 + d = omega arith in ap (λ (n : ℕ). take n rows) e
split (suc a) d [] = take-none d ∙ sym (take-none (suc a + d))
split (suc a) d (r ∷ rows) =
    let e : suc (a + d) ≡ suc a + d = omega arith in
    ap (λ (rs : List (List ℕ)). r ∷ rs) (split a d rows) ∙ ap (λ (n : ℕ). take n (r ∷ rows)) e

pub split-at : (a b : ℕ) (rows : List (List ℕ)) → a ≤ b
    → take a rows ++ rows_between rows a b ≡ take b rows
split-at a b rows h =
    let e : a + (b - a) ≡ b = omega arith in
    split a (b - a) rows ∙ ap (λ (n : ℕ). take n rows) e

drops : (a d : ℕ) (rows : List (List ℕ)) → drop d (drop a rows) ≡ drop (a + d) rows
drops zero d rows = let e : d ≡ 0 + d = omega arith in ap (λ (n : ℕ). drop n rows) e
drops (suc a) d [] = drop-none d ∙ sym (drop-none (suc a + d))
drops (suc a) d (r ∷ rows) =
    let e : suc (a + d) ≡ suc a + d = omega arith in
    drops a d rows ∙ ap (λ (n : ℕ). drop n (r ∷ rows)) e

pub between-joins : (a b c : ℕ) (rows : List (List ℕ)) → a ≤ b → b ≤ c
    → rows_between rows a b ++ rows_between rows b c ≡ rows_between rows a c
between-joins a b c rows h k =
    let e : a + (b - a) ≡ b = omega arith in
    let f : (b - a) + (c - b) ≡ c - a = omega arith in
    ap (λ (rs : List (List ℕ)). take (b - a) (drop a rows) ++ take (c - b) rs)
    (sym (drops a (b - a) rows ∙ ap (λ (n : ℕ). drop n rows) e))
    ∙ split (b - a) (c - b) (drop a rows)
    ∙ ap (λ (n : ℕ). take n (drop a rows)) f

abbrev on : ProgramData → List (List ℕ) → State → ℕ → Ran State
on p ys s left = clocks p s ys

append-step : (p : ProgramData) (xs ys : List (List ℕ)) →
    ((s : State) → clocks p s (xs ++ ys) ≡ and_then (clocks p s xs) (on p ys)) →
    (r : Ran Outcome) →
    and_then r (λ o left. clocks p o.state (xs ++ ys))
    ≡ and_then (and_then r (λ o left. clocks p o.state xs)) (on p ys)
append-step p xs ys rest (done o n) = rest o.state
append-step p xs ys rest (trapped t) = refl

pub clocks-append : (p : ProgramData) (s : State) (xs ys : List (List ℕ))
    → clocks p s (xs ++ ys) ≡ and_then (clocks p s xs) (on p ys)
clocks-append p s [] ys = refl
clocks-append p s (x ∷ xs) ys = append-step p xs ys (λ q. clocks-append p q xs ys) (clock p s x)

abbrev over : ProgramData → List (List ℕ) → State → ℕ → Ran Outcome
over p rows s left = run_from p s rows

abbrev outcome : State → List Decided → Outcome
outcome s xs = record { state = s; decided = xs }

pub ends-in : (p : ProgramData) (rows : List (List ℕ)) (a b : ℕ) (s : State) (xs : List Decided)
    → a ≤ b → HasCome p rows a b xs s → clocks p (opening p) (take b rows) ≡ done s 0
ends-in p rows a b s xs h come =
    let part = rows_between rows a b in
    let c = came (clocks p (opening p) (take a rows)) (over p part) (outcome s xs) come.ran in
    ap (clocks p (opening p)) (sym (split-at a b rows h))
    ∙ clocks-append p (opening p) (take a rows) part
    ∙ ap (λ (r : Ran State). and_then r (on p part)) c.is
    ∙ ends-as p c.first part
    ∙ ap (λ (r : Ran Outcome). and_then r (λ o left. done o.state left)) c.then

-- from the state after the first rows
pub come-on :
    (p : ProgramData) (rows : List (List ℕ)) (a b c : ℕ) (s t : State) (xs ys : List Decided) →
    a ≤ b → b ≤ c →
    HasCome p rows a b xs s → run_from p s (rows_between rows b c) ≡ done (outcome t ys) 0 →
    HasCome p rows a c (xs ++ ys) t
come-on p rows a b c s t xs ys h k come next =
    let part = rows_between rows a b in
    let rest = rows_between rows b c in
    let m = came (clocks p (opening p) (take a rows)) (over p part) (outcome s xs) come.ran in
    record {
      ran =
          ap (λ (r : Ran State). and_then r (over p (rows_between rows a c))) m.is
          ∙ ap (run_from p m.first) (sym (between-joins a b c rows h k))
          ∙ cuts p m.first part rest
          ∙ ap (λ (r : Ran Outcome). and_then r (later p rest)) m.then
          ∙ ap (λ (r : Ran Outcome). and_then r (joined xs)) next;
    }

-- from a state of the checked machine, at the first clock
pub come-to : (p : ProgramData) (rows : List (List ℕ)) (b c : ℕ) (s t : State) (ys : List Decided) →
    clocks p (opening p) (take b rows) ≡ done s 0 →
    run_from p s (rows_between rows b c) ≡ done (outcome t ys) 0 → HasCome p rows b c ys t
come-to p rows b c s t ys here next =
    record { ran = ap (λ (r : Ran State). and_then r (over p (rows_between rows b c))) here ∙ next }

none-between : (b : ℕ) (rows : List (List ℕ)) → rows_between rows b b ≡ []
none-between b rows = let e : b - b ≡ 0 = omega arith in ap (λ (n : ℕ). take n (drop b rows)) e

-- with nothing decided since
pub come-anew : (p : ProgramData) (rows : List (List ℕ)) (a b : ℕ) (s : State) (xs : List Decided)
    → a ≤ b → HasCome p rows a b xs s → HasCome p rows b b [] s
come-anew p rows a b s xs h come =
    come-to p rows b b s s [] (ends-in p rows a b s xs h come)
    (ap (run_from p s) (none-between b rows))

-- before the first clock
pub come-first : (p : ProgramData) (rows : List (List ℕ)) → HasCome p rows 0 0 [] (opening p)
come-first p rows = come-to p rows 0 0 (opening p) (opening p) [] refl refl

pub joins : (p : ProgramData) (rows : List (List ℕ)) (a b c : ℕ) (s t : State)
    (xs ys : List Decided) → a ≤ b → b ≤ c →
    HasCome p rows a b xs s → HasCome p rows b c ys t → HasCome p rows a c (xs ++ ys) t
joins p rows a b c s t xs ys h k first second =
    let rest = rows_between rows b c in
    let m = came (clocks p (opening p) (take b rows)) (over p rest) (outcome t ys) second.ran in
    let e : done s 0 ≡ done m.first m.left = sym (ends-in p rows a b s xs h first) ∙ m.is in
    let same : s ≡ m.first = cc in
    come-on p rows a b c s t xs ys h k first (ap (λ (q : State). run_from p q rest) same ∙ m.then)
