-- The times of ticks: those in memory are those of the contents.
use Rattle.std.proofs.Common.{◌≡◌, ℕ, zero, suc, ◌<◌, ◌≤◌, ◌+◌, List, [], ◌∷◌, ◌++◌, Option, Some}
use Rattle.std.proofs.Common.{None, length}
use Rattle.std.proofs.Common.{map, refl, sym, ap, ◌∙◌, inl, inr, arith, length-append, ◌⊎◌, ◌-◌}
use Rattle.std.proofs.Math.ListN.{get_or-append}
use Rattle.std.proofs.Math.Seq.{get_or-append_right}
use Rattle.std.specs.Prelude.{slice_get, slice_index}
use Rattle.std.proofs.lemmas.Bool.{cases_lt}
use Rattle.vcd_reader.specs.declared.dump.Dump.{Dump}
use Rattle.vcd_reader.specs.declared.step.Step.{Step}
use Rattle.vcd_reader.specs.Values.{Moment}
use Rattle.vcd_reader.specs.Stored.{StoredStep, stored_step, kept_step}
use Rattle.vcd_reader.specs.Dump.{Contents}
use Rattle.vcd_reader.specs.Held.{HoldsContents, steps_in, high_of}
use Rattle.cycle_window.specs.Times.{time_or_zero, time_of_step}
use Rattle.cli.specs.Timed.{time_of, AreTimesIn}

at_step : (ss : List Step) (k : ℕ) → time_or_zero (slice_get ss k) ≡ slice_index (map (λ s. s.time) ss) k
at_step [] zero = refl
at_step [] (suc k) = refl
at_step (s ∷ ss) zero = refl
at_step (s ∷ ss) (suc k) = at_step ss k

stored_times : (high : List ℕ) (ss : List Step)
    → map (λ (s : StoredStep). s.time) (map (stored_step high) ss) ≡ map (λ s. s.time) ss
unfolding stored_step
stored_times high [] = refl
stored_times high (s ∷ ss) = ap (λ l. s.time ∷ l) (stored_times high ss)

kept_times : (ms : List Moment) → map (λ (s : StoredStep). s.time) (map kept_step ms) ≡ map (λ m. m.time) ms
unfolding kept_step
kept_times [] = refl
kept_times (m ∷ ms) = ap (λ l. m.time ∷ l) (kept_times ms)

-- the times of steps are those of the contents
times_same : (d : Dump) (c : Contents) → HoldsContents d c → map (λ s. s.time) (steps_in d) ≡ map (λ m. m.time) c.steps
times_same d c holds =
    sym (stored_times (high_of d) (steps_in d)) ∙ ap (map (λ (s : StoredStep). s.time)) holds.steps
    ∙ kept_times c.steps

pub step_time : (d : Dump) (c : Contents) → HoldsContents d c → (o : Option ℕ)
    → time_of_step (steps_in d) o ≡ time_of (map (λ m. m.time) c.steps) o
step_time d c holds None = refl
step_time d c holds (Some k) =
    at_step (steps_in d) k ∙ ap (λ (l : List ℕ). slice_index l k) (times_same d c holds)

-- one time more
pub times_more : (steps : List Step) (ticks : List ℕ) (i time : ℕ) (times more : List ℕ)
    → AreTimesIn steps ticks i times
    → more ≡ times ++ time ∷ [] → time ≡ time_of_step steps (slice_get ticks i) → AreTimesIn steps ticks (i + 1) more
times_more steps ticks i time times more are grown is =
    let many : length more ≡ i + 1 = ap length grown ∙ length-append times (time ∷ []) ∙ ap (λ n. n + 1) are.many in
    record {
      many = many;
      each = λ k below. ap (λ (l : List ℕ). slice_index l k) grown ∙ at k (cases_lt k i) below;
    }
  where
    at : (k : ℕ) → (k < i) ⊎ (i ≤ k) → k < i + 1
        → slice_index (times ++ time ∷ []) k ≡ time_of_step steps (slice_get ticks k)
    at k (inl before) below =
        get_or-append times (time ∷ []) 0 k (omega (arith, are.many)) ∙ are.each k before
    at k (inr not_before) below =
        let here : k ≡ i = omega arith in
        get_or-append_right times (time ∷ []) k 0 (omega (arith, are.many))
        ∙ ap (λ n. slice_index (time ∷ []) n) (let zero_is : k - length times ≡ 0 = omega (arith, are.many) in zero_is)
        ∙ is ∙ ap (λ n. time_of_step steps (slice_get ticks n)) (sym here)
