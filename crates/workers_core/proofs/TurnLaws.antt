-- A monitor's turn in a round.
use Rattle.std.proofs.Common.{◌≡◌, ℕ, suc, ◌+◌, ◌<◌, length, sym, ap, ◌∙◌, subst, arith}
use Rattle.std.specs.Prelude.{Result, Ok, Err, OnOk}
use Rattle.vcd_reader.specs.Dump.{Contents}
use Rattle.workers_core.specs.declared.step.Step.TheVariants as steps
use Rattle.workers_core.specs.Values.{JobValue, CoreValue, Says}
use Rattle.workers_core.specs.Following.{FollowsMachine}
use Rattle.workers_core.specs.Rounds.{HasTrace, Rests, HasDone, IsSameWindow, KeepsWindow, StepLeadsTo}
use Rattle.workers_core.proofs.CoreRoundLaws.{
  ForContents,
  Steps,
  behind,
  Claimed,
  claiming,
  Through,
  advancing,
  Published,
  publishing,
  Gathered,
  gathering,
  less-traced,
}

-- so many monitors are done in a window of so many clocks, and one is left
pub record IsTurn (first v : CoreValue) (n k : ℕ) : Type 0 where
  pub trace : HasTrace first.job
  pub job : v.job ≡ first.job
  pub less : n < length first.job.programs
  pub clocks : first.state.first + k ≡ first.state.end
  pub done : HasDone n v
  pub window : KeepsWindow first v

pub turn : (first v : CoreValue) (n k count : ℕ) → HasTrace first.job → v.job ≡ first.job →
    count ≡ length first.job.programs → n < count → first.state.first + k ≡ first.state.end →
    HasDone n v → KeepsWindow first v → IsTurn first v n k
turn first v n k count trace job all less clocks done window =
    record {
      trace = trace;
      job = job;
      less = omega (arith, all, less);
      clocks = clocks;
      done = done;
      window = window;
    }

module _ (first v : CoreValue) (n k : ℕ) (turn : IsTurn first v n k) where
  pub claim-steps : Steps v (steps.Claim 0) (Claimed n v.state)
  claim-steps =
      claiming v n (omega (arith, turn.less, ap (λ (j : JobValue). length j.programs) turn.job))
      turn.done

  module _ (v1 : CoreValue) (led : StepLeadsTo v (steps.Claim 0) v1.state) (same : v1.job ≡ v.job) where
    to-first : (c : Contents) → Says v1.job c → Says first.job c
    to-first c says = subst (λ (j : JobValue). Says j c) (same ∙ turn.job) says

    claimed : ForContents v1.job (λ c. Claimed n v.state v1.job v1.state)
    claimed = behind (Claimed n v.state) v v1 (steps.Claim 0) claim-steps led same

    in-window : ForContents v1.job (λ c. IsSameWindow first.state v1.state)
    in-window c says =
        let before = turn.window c (to-first c says) in
        let now = (claimed c says).1 in
        record { first = now.first ∙ before.first; end = now.end ∙ before.end }

    pub advance-steps : ForContents v1.job (FollowsMachine v1)
        → Steps v1 (steps.Advance 0 k) (Through n v1.state)
    advance-steps follows =
        advancing v1 n k (subst HasTrace (sym (same ∙ turn.job)) turn.trace) follows
        (λ c says. (claimed c says).0)
        (λ c says. let w = in-window c says in omega (arith, w.first, w.end, turn.clocks))

    module _ (follows : ForContents v1.job (FollowsMachine v1)) (v2 : CoreValue)
        (led2 : StepLeadsTo v1 (steps.Advance 0 k) v2.state) (same2 : v2.job ≡ v1.job) where
      through : ForContents v2.job (λ c. Through n v1.state v2.job v2.state)
      through =
          behind (Through n v1.state) v1 v2 (steps.Advance 0 k) (advance-steps follows) led2 same2

      pub publish-steps : Steps v2 (steps.Publish 0) (Published n v2.state)
      publish-steps = publishing v2 n (λ c says. (through c says).0)

      module _ (v3 : CoreValue) (led3 : StepLeadsTo v2 (steps.Publish 0) v3.state)
          (same3 : v3.job ≡ v2.job) where
        told : ForContents v3.job (λ c. Published n v2.state v3.job v3.state)
        told = behind (Published n v2.state) v2 v3 (steps.Publish 0) publish-steps led3 same3

        pub done-more : HasDone (n + 1) v3
        done-more c says = (told c says).0

        pub window-kept : KeepsWindow first v3
        window-kept c says =
            let to : (j : JobValue) → j ≡ first.job → Says j c = λ j is.
            subst (λ (x : JobValue). Says x c) (sym is) says in
            let a = in-window c (to v1.job (same ∙ turn.job)) in
            let b = (through c (to v2.job (same2 ∙ same ∙ turn.job))).1 in
            let d = (told c (to v3.job (same3 ∙ same2 ∙ same ∙ turn.job))).1 in
            record { first = d.first ∙ b.first ∙ a.first; end = d.end ∙ b.end ∙ a.end }

-- what holds where there is a value
pub on-ok : {A E P Q : Type 0} (r : Result A E) → (P → Q) → OnOk r P → OnOk r Q
on-ok (Ok a) go h = go h
on-ok (Err e) go h = tt

-- the round's end
module _ (v new : CoreValue) (done : HasDone (length v.job.programs) v)
    (same : new.job ≡ v.job) where
  gathered : StepLeadsTo v steps.Gather new.state
      → ForContents new.job (λ c. Gathered v.state new.job new.state)
  gathered led = behind (Gathered v.state) v new steps.Gather (gathering v done) led same

  pub rests-again : StepLeadsTo v steps.Gather new.state → Rests new
  rests-again led c says = (gathered led c says).0

  pub further : (old first : CoreValue) → HasTrace first.job → v.job ≡ first.job
      → old.state.end < first.state.end → KeepsWindow first v → StepLeadsTo v steps.Gather new.state
      → old.state.end < new.state.end
  further old first trace is less kept led =
      less-traced first.job (suc old.state.end) new.state.end trace (λ c says.
      let w = kept c says in
      let g = (gathered led c (subst (λ (j : JobValue). Says j c) (sym (same ∙ is)) says)).1 in
      omega (arith, less, w.end, g.end))
