-- Runs over rows that are cut anywhere.
use Rattle.std.proofs.Common.{◌≡◌, ℕ, List, [], ◌∷◌, ◌++◌, refl, sym, ap, ◌∙◌, append_assoc}
use Rattle.signals.specs.declared.verdict.Decided.{Decided}
use Rattle.bytecode_programs.specs.Values.{ProgramData}
use Rattle.machine_checked.specs.Outcomes.{Ran, done, trapped, and_then}
use Rattle.machine_checked.specs.Machine.{State, Outcome, clock, clocks}
use Rattle.machine_checked.specs.Runs.{run_from}
use Rattle.machine_batches.proofs.BatchLaws.{joined, later}

-- with nothing decided before
nothing-before : (r : Ran Outcome) → r ≡ and_then r (joined [])
nothing-before (done o n) = refl
nothing-before (trapped t) = refl

-- decided before, twice
twice : (first second : List Decided) (r : Ran Outcome) →
    and_then (and_then r (joined second)) (joined first) ≡ and_then r (joined (first ++ second))
twice first second (done o n) =
    let f : List Decided → Ran Outcome = λ ds. done (record { state = o.state; decided = ds }) n in
    ap f (sym (append_assoc first second o.decided))
twice first second (trapped t) = refl

regroup : (p : ProgramData) (ys : List (List ℕ)) (first : List Decided) (r : Ran Outcome) →
    and_then (and_then r (later p ys)) (joined first)
    ≡ and_then (and_then r (joined first)) (later p ys)
regroup p ys first (done o n) = twice first o.decided (run_from p o.state ys)
regroup p ys first (trapped t) = refl

cut-step : (p : ProgramData) (xs ys : List (List ℕ)) →
    ((s : State) → run_from p s (xs ++ ys) ≡ and_then (run_from p s xs) (later p ys)) →
    (r : Ran Outcome) →
    and_then r (later p (xs ++ ys)) ≡ and_then (and_then r (later p xs)) (later p ys)
cut-step p xs ys rest (done o n) =
    ap (λ (r : Ran Outcome). and_then r (joined o.decided)) (rest o.state)
    ∙ regroup p ys o.decided (run_from p o.state xs)
cut-step p xs ys rest (trapped t) = refl

pub cuts : (p : ProgramData) (s : State) (xs ys : List (List ℕ)) →
    run_from p s (xs ++ ys) ≡ and_then (run_from p s xs) (later p ys)
cuts p s [] ys = nothing-before (run_from p s ys)
cuts p s (x ∷ xs) ys = cut-step p xs ys (λ q. cuts p q xs ys) (clock p s x)

-- the state alone
abbrev state_alone : Outcome → ℕ → Ran State
state_alone o left = done o.state left

alone : (first : List Decided) (r : Ran Outcome) →
    and_then r state_alone ≡ and_then (and_then r (joined first)) state_alone
alone first (done o n) = refl
alone first (trapped t) = refl

end-step : (p : ProgramData) (xs : List (List ℕ)) →
    ((s : State) → clocks p s xs ≡ and_then (run_from p s xs) state_alone) →
    (r : Ran Outcome) →
    and_then r (λ o left. clocks p o.state xs) ≡ and_then (and_then r (later p xs)) state_alone
end-step p xs rest (done o n) = rest o.state ∙ alone o.decided (run_from p o.state xs)
end-step p xs rest (trapped t) = refl

pub ends-as : (p : ProgramData) (s : State) (rows : List (List ℕ)) →
    clocks p s rows ≡ and_then (run_from p s rows) state_alone
ends-as p s [] = refl
ends-as p s (x ∷ xs) = end-step p xs (λ q. ends-as p q xs) (clock p s x)
