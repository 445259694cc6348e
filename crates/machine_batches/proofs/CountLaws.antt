-- Each attempt that is live or opens at a clock is decided there or live after it.
use Rattle.std.proofs.Common.{
  ◌≡◌,
  ℕ,
  zero,
  suc,
  ◌+◌,
  List,
  [],
  ◌∷◌,
  ◌++◌,
  length,
  Bool,
  true,
  false,
  cond,
  Option,
  Some,
  None,
  refl,
  ap,
  ◌∙◌,
  subst,
  arith,
  length-append,
}
use Rattle.std.specs.Prelude.{nat_lt, ◌==◌, ◌||◌, not, ◌^◌}
use Rattle.signals.specs.declared.verdict.Decided.{Decided}
use Rattle.signals.specs.declared.verdict.Verdict.{Verdict}
use Rattle.signals.specs.declared.verdict.Verdict.TheVariants.{Holds, Vacuous, Fails}
use Rattle.bytecode_programs.specs.Values.{SectionData, ProgramData}
use Rattle.bytecode_programs.specs.Instructions.{frame_of}
use Rattle.machine_checked.specs.Outcomes.{
  Ran,
  done,
  trapped,
  bad_operand,
  pool_full,
  and_then,
  costs_one,
}
use Rattle.machine_checked.specs.Blocks.{visit}
use Rattle.machine_checked.specs.Samples.{nothing_made, run_sample}
use Rattle.machine_checked.specs.Clocks.{Attempt, Obligation, Standing, Settled, Settlement, Fate}
use Rattle.machine_checked.specs.Clocks.{visit_attempts, visit_obligations, some_broken, some_open}
use Rattle.machine_checked.specs.Clocks.{stays, ends, settle, settle_all, disable_all, disabling}
use Rattle.machine_checked.specs.Clocks.{opened, open_if, end_clock, clock_on, clock_after}
use Rattle.machine_checked.specs.Machine.{State, Outcome, with_row, sample_of, clock}

-- where it comes to a value, P holds of it
abbrev IfDone : {A : Type 0} → (A → Type 0) → Ran A → Type 0
IfDone P (done a n) = P a
IfDone P (trapped t) = Unit {0}

then : {A B : Type 0} (P : A → Type 0) (Q : B → Type 0) (r : Ran A) (go : A → ℕ → Ran B)
    → IfDone P r → ((a : A) (n : ℕ) → P a → IfDone Q (go a n)) → IfDone Q (and_then r go)
then P Q (done a n) go h k = k a n h
then P Q (trapped t) go h k = tt

abbrev Any : {A : Type 0} → A → Type 0
Any a = Unit {0}

any : {A : Type 0} (r : Ran A) → IfDone (λ (a : A). Unit {0}) r
any (done a n) = tt
any (trapped t) = tt

costed : {B : Type 0} (Q : B → Type 0) (n : ℕ) (go : ℕ → Ran B) → ((m : ℕ) → IfDone Q (go m))
    → IfDone Q (costs_one n go)
costed Q zero go h = tt
costed Q (suc n) go h = h n

either : {A : Type 0} (P : A → Type 0) (b : Bool) (x y : A) → P x → P y → P (cond b x y)
either P true x y h k = h
either P false x y h k = k

-- a visit ends no attempt
visits-count : (s : SectionData) (atoms : List Bool) (now : ℕ) (live : List Attempt) (left : ℕ)
    → IfDone (λ vs. length vs.attempts ≡ length live) (visit_attempts s atoms now live left)
visits-count s atoms now [] left = refl
visits-count s atoms now (a ∷ others) left =
    costed (λ vs. length vs.attempts ≡ length (a ∷ others)) left _ (λ left.
    then (λ v. Unit {0}) (λ vs. length vs.attempts ≡ length (a ∷ others))
    (visit s atoms a.positions left) _ (any (visit s atoms a.positions left)) (λ v left none.
    then (λ vs. length vs.attempts ≡ length others) (λ vs. length vs.attempts ≡ length (a ∷ others))
    (visit_attempts s atoms now others left) _ (visits-count s atoms now others left)
    (λ vs left h. ap suc h)))

abbrev size : Settlement → ℕ
size r = length r.live + length r.decided

settle-size : (now : ℕ) (fates : List Fate) (a : Attempt) (r : Settlement)
    → size (settle now fates a r) ≡ suc (size r)
settle-size now fates a r =
    let P : Settlement → Type 0 = λ q. size q ≡ suc (size r) in
    let gone : (v : Verdict) → P (ends a v r) = λ v. omega arith in
    either P (some_broken a fates) (ends a (Fails now) r) _ (gone (Fails now))
    (either P (some_open a fates || not (a.positions == 0)) (stays a r) _ (omega arith)
    (gone (cond (a.awaited == 0) (Vacuous now) (Holds now))))

settles-count : (now : ℕ) (fates : List Fate) (live : List Attempt) (left : ℕ)
    → IfDone (λ r. size r ≡ length live) (settle_all now fates live left)
settles-count now fates [] left = refl
settles-count now fates (a ∷ others) left =
    costed (λ r. size r ≡ length (a ∷ others)) left _ (λ left.
    then (λ r. size r ≡ length others) (λ r. size r ≡ length (a ∷ others))
    (settle_all now fates others left) _ (settles-count now fates others left)
    (λ r left h. settle-size now fates a r ∙ ap suc h))

disables-count : (now : ℕ) (live : List Attempt) (left : ℕ)
    → IfDone (λ (ds : List Decided). length ds ≡ length live) (disable_all now live left)
disables-count now [] left = refl
disables-count now (a ∷ others) left =
    costed (λ (ds : List Decided). length ds ≡ length (a ∷ others)) left _ (λ left.
    then (λ (ds : List Decided). length ds ≡ length others)
    (λ (ds : List Decided). length ds ≡ length (a ∷ others)) (disable_all now others left) _
    (disables-count now others left) (λ ds left h. ap suc h))

-- the clock is over, and so many attempts are decided or live
record Counts (now n : ℕ) (r : Settled) : Type 0 where
  next : r.state.now ≡ now + 1
  all : length r.state.attempts + length r.decided ≡ n

end-counts : (p : ProgramData) (now : ℕ) (atoms : List Bool) (live : List Attempt) (left : ℕ)
    (os : List Obligation) → IfDone (Counts now (length live)) (end_clock p now atoms live left os)
end-counts p now atoms live left os =
    then (λ (fates : List Fate). Unit {0}) (Counts now (length live))
    (visit_obligations p.consequent atoms os left) _
    (any (visit_obligations p.consequent atoms os left)) (λ fates left none.
    then (λ r. size r ≡ length live) (Counts now (length live)) (settle_all now fates live left) _
    (settles-count now fates live left) (λ r left h. record { next = refl; all = h }))

opens-count :
    {A B : Type 0} (Q : B → Type 0) (most : ℕ) (s : SectionData) (live : List A) (one : A)
    (go : List A → Ran B) → IfDone Q (go (live ++ one ∷ []))
    → IfDone Q (opened most s live one go)
opens-count Q most s live one go h =
    either (IfDone Q) (nat_lt (length live) most) _ (trapped pool_full)
    (either (IfDone Q) (nat_lt s.start (2 ^ length s.blocks)) (go (live ++ one ∷ []))
    (trapped bad_operand) h tt) tt

open-counts :
    (Q : Settled → Type 0) (accepted : Bool) (p : ProgramData) (now : ℕ) (os : List Obligation)
    (go : List Obligation → Ran Settled) → ((os : List Obligation) → IfDone Q (go os))
    → IfDone Q (open_if accepted p now os go)
open-counts Q false p now os go h = h os
open-counts Q true p now os go h =
    opens-count Q p.header.limits.obligations p.consequent os _ go (h _)

on-counts : (p : ProgramData) (now : ℕ) (atoms : List Bool) (live : List Attempt)
    (os : List Obligation) (left : ℕ) (off : Option Bool)
    → IfDone (Counts now (length live)) (clock_on p now atoms live os left off)
on-counts p now atoms live os left None = tt
on-counts p now atoms live os left (Some true) =
    then (λ (ds : List Decided). length ds ≡ length live) (Counts now (length live))
    (disable_all now live left) _ (disables-count now live left)
    (λ ds left h. record { next = refl; all = omega arith })
on-counts p now atoms live os left (Some false) =
    then (λ vs. length vs.attempts ≡ length live) (Counts now (length live))
    (visit_attempts p.antecedent atoms now live left) _
    (visits-count p.antecedent atoms now live left) (λ vs left h.
    open-counts (Counts now (length live)) vs.accepted p now os
    (end_clock p now atoms vs.attempts left) (λ os.
    subst (λ (n : ℕ). IfDone (Counts now n) (end_clock p now atoms vs.attempts left os)) h
    (end-counts p now atoms vs.attempts left os)))

after-counts : (p : ProgramData) (s : Standing) (atoms : List Bool) (left : ℕ)
    → IfDone (Counts s.now (length s.attempts + 1)) (clock_after p s atoms left)
unfolding clock_after
after-counts p s atoms left =
    let one : Attempt = record { start = s.now; positions = p.antecedent.start; awaited = 0 } in
    opens-count (Counts s.now (length s.attempts + 1)) p.header.limits.attempts p.antecedent
    s.attempts one
    (λ (live : List Attempt).
    clock_on p s.now atoms live s.obligations left (disabling p.header.disable atoms))
    (subst (λ (n : ℕ).
    IfDone (Counts s.now n)
    (clock_on p s.now atoms (s.attempts ++ one ∷ []) s.obligations left
    (disabling p.header.disable atoms)))
    (length-append s.attempts (one ∷ []))
    (on-counts p s.now atoms (s.attempts ++ one ∷ []) s.obligations left
    (disabling p.header.disable atoms)))

-- the same of a whole clock
pub record CountsAll (before : State) (o : Outcome) : Type 0 where
  pub next : o.state.standing.now ≡ before.standing.now + 1
  pub all : length o.state.standing.attempts + length o.decided
      ≡ length before.standing.attempts + 1

clock-done : (p : ProgramData) (s : State) (row : List ℕ) → IfDone (CountsAll s) (clock p s row)
clock-done p s row =
    let ran =
    run_sample (frame_of p) p.header.limits (sample_of (with_row p row s)) p.sample
    p.header.limits.budget 0 [] (nothing_made (frame_of p)) in
    then (λ made. Unit {0}) (CountsAll s) ran _ (any ran) (λ made left none.
    then (Counts s.standing.now (length s.standing.attempts + 1)) (CountsAll s)
    (clock_after p s.standing made.atoms left) _ (after-counts p s.standing made.atoms left)
    (λ r left h. record { next = h.next; all = h.all }))

pub clock-counts : (p : ProgramData) (s : State) (row : List ℕ) (o : Outcome) (left : ℕ)
    → clock p s row ≡ done o left → CountsAll s o
clock-counts p s row o left ran = subst (IfDone (CountsAll s)) ran (clock-done p s row)
