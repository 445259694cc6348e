use Rattle.std.proofs.Common.{◌≡◌, ℕ, ◌+◌, ◌*◌, ◌≤◌, Bool, List, map, length, refl, sym, ap, ◌∙◌, subst, arith}
use Rattle.std.proofs.Math.ListN.{length-map}
use Rattle.bytecode_programs.specs.Programs.{data_of}
use Rattle.bytecode_programs.specs.Values.{ProgramData}
use Rattle.verifier.specs.Limits.{path_sum}
use Rattle.machine_checked.specs.Outcomes.{Ran, done}
use Rattle.machine_checked.specs.Clocks.{Attempt, Obligation, Visits, visit_attempts, visit_obligations, disable_all}
use Rattle.machine_checked.specs.Bounds.{RisesBetween, began, since, IsRunning, IsOwed}
use Rattle.machine.specs.Live.{attempts_in, obligations_in, standing_of, OpenedLately}
use Rattle.attempt_pool.specs.Pooled.{Pooled}
use Rattle.machine.specs.declared.attempt.AttemptRecord.{AttemptRecord}
use Rattle.machine.specs.declared.obligation.ObligationRecord.{ObligationRecord}
use Rattle.machine.specs.Records.{attempt_of, obligation_of}
use Rattle.machine.proofs.LessLaws.{visit_attempts-less, visit_obligations-less, settle_all-less, disable_all-less}
use Rattle.machine.proofs.ClockLaws as laws
use Rattle.machine.proofs.live.Live.full_clock.Goals as goal

-- the same over an equal list
same-live : (p : ProgramData) (atoms : List Bool) (now : ℕ) (xs ys : List Attempt) (left : ℕ) (r : Ran Visits) → xs ≡ ys
    → visit_attempts p.antecedent atoms now xs left ≡ r → visit_attempts p.antecedent atoms now ys left ≡ r
same-live p atoms now xs ys left r e h =
    ap (λ (l : List Attempt). visit_attempts p.antecedent atoms now l left) (sym e) ∙ h

-- as many as the list that stands for them
counted : {A B : Type 0} (f : A → B) (xs : List A) (ys : List B) → map f xs ≡ ys → length xs ≡ length ys
counted f xs ys e =
    let long : length (map f xs) ≡ length xs = rw length-map refl in
    sym long ∙ ap length e

pub open_attempt-requires : goal.open_attempt-requires
open_attempt-requires c =
    let long =
    counted (λ e. attempt_of e.1) c.args.self.now.attempts.live (attempts_in c.args.self.now.attempts.live) refl
    in
    omega (
      arith,
      long,
      laws.room_a (data_of c.args.program.now) c.requires.accepted
          (standing_of c.args.self.now.now c.args.self.now.attempts c.args.self.now.obligations) c.requires.reached,
      c.requires.pools.attempts,
    )

pub disable_attempts-requires-clause-fits : goal.disable_attempts-requires-clause-fits
disable_attempts-requires-clause-fits c =
    let long = counted _ c.open_attempt.new.pool.live _ c.open_attempt.ensures.opened in
    omega (
      arith,
      long,
      laws.affords_d (data_of c.args.program.now) c.requires.accepted
          (standing_of c.args.self.now.now c.args.self.now.attempts c.args.self.now.obligations) c.requires.reached
          c.args.atoms.now c.requires.atoms c.args.left.now c.requires.budget,
    )

pub disable_attempts-requires-clause-room : goal.disable_attempts-requires-clause-room
disable_attempts-requires-clause-room c =
    let long = counted _ c.open_attempt.new.pool.live _ c.open_attempt.ensures.opened in
    omega (
      arith,
      long,
      laws.most_a (data_of c.args.program.now) c.requires.accepted
          (standing_of c.args.self.now.now c.args.self.now.attempts c.args.self.now.obligations) c.requires.reached,
      c.requires.room,
    )

pub returns-then-is_disabled-clause-advanced : goal.returns-then-is_disabled-clause-advanced
returns-then-is_disabled-clause-advanced c =
    let d = c.disable_attempts.ensures.disabled in
    let came =
    ap (λ (l : List Attempt). disable_all c.args.self.now.now l c.args.left.now)
    (sym c.open_attempt.ensures.opened) ∙ d.came in
    let attempts = ap (λ (q : Pooled AttemptRecord). attempts_in q.live) c.disable_attempts.ensures.none in
    let obligations = ap (λ (q : Pooled ObligationRecord). obligations_in q.live) c.drop_obligations.ensures in
    record {
      decided = d.decided;
      told = d.told;
      came =
          laws.disabled (data_of c.args.program.now) c.requires.accepted
          (standing_of c.args.self.now.now c.args.self.now.attempts c.args.self.now.obligations)
          c.requires.reached c.args.atoms.now c.requires.atoms c.args.left.now c.requires.budget d.decided
          c.disable_attempts.new.left c.if-is_disabled.ensures came
          ∙ (λ j.
          done (record {
            state = record {
              now = c.args.self.now.now + 1;
              attempts = sym attempts j;
              obligations = sym obligations j;
            };
            decided = d.decided;
          }) c.disable_attempts.new.left);
    }

pub visit_attempts-accepted-requires-clause-running : goal.visit_attempts-accepted-requires-clause-running
visit_attempts-accepted-requires-clause-running c =
    subst (λ (l : List Attempt). RisesBetween began (IsRunning (data_of c.args.program.now) c.args.self.now.now) 0
    (c.args.self.now.now + 1) l) (sym c.open_attempt.ensures.opened)
    (laws.runs (data_of c.args.program.now) c.requires.accepted
    (standing_of c.args.self.now.now c.args.self.now.attempts c.args.self.now.obligations) c.requires.reached)

pub visit_attempts-accepted-requires-clause-fits : goal.visit_attempts-accepted-requires-clause-fits
visit_attempts-accepted-requires-clause-fits c =
    let long = counted _ c.open_attempt.new.pool.live _ c.open_attempt.ensures.opened in
    subst (λ (n : ℕ). n * (1 + path_sum 0 (data_of c.args.program.now).antecedent.blocks) ≤ c.args.left.now) (sym long)
    (laws.affords_a (data_of c.args.program.now) c.requires.accepted
    (standing_of c.args.self.now.now c.args.self.now.attempts c.args.self.now.obligations) c.requires.reached
    c.args.atoms.now c.requires.atoms c.args.left.now c.requires.budget)

pub open_obligation-requires : goal.open_obligation-requires
open_obligation-requires c =
    let long =
    counted (λ e. obligation_of e.1) c.args.self.now.obligations.live
    (obligations_in c.args.self.now.obligations.live) refl in
    omega (
      arith,
      long,
      laws.room_c (data_of c.args.program.now) c.requires.accepted
          (standing_of c.args.self.now.now c.args.self.now.attempts c.args.self.now.obligations) c.requires.reached,
      c.requires.pools.obligations,
    )

pub visit_obligations-fates-requires-clause-owed : goal.visit_obligations-fates-requires-clause-owed
visit_obligations-fates-requires-clause-owed c =
    let live = c.open_attempt.ensures.opened in
    let vs : Visits =
    (record {
      attempts = attempts_in c.visit_attempts-accepted.new.pool.live;
      accepted = c.visit_attempts-accepted.result;
    }) in
    let e1 =
    same-live (data_of c.args.program.now) c.args.atoms.now c.args.self.now.now
    (attempts_in c.open_attempt.new.pool.live) _ c.args.left.now _ live c.visit_attempts-accepted.ensures.visits
    in
    subst (λ (l : List Obligation). RisesBetween since (IsOwed (data_of c.args.program.now) c.args.self.now.now) 0
    (c.args.self.now.now + 1) l) (sym c.open_obligation.ensures.opened)
    (laws.owed (data_of c.args.program.now) c.requires.accepted
    (standing_of c.args.self.now.now c.args.self.now.attempts c.args.self.now.obligations) c.requires.reached
    c.args.atoms.now c.requires.atoms c.args.left.now c.requires.budget
    (record {
      attempts = attempts_in c.visit_attempts-accepted.new.pool.live;
      accepted = c.visit_attempts-accepted.result;
    }) c.visit_attempts-accepted.new.left e1)

pub visit_obligations-fates-requires-clause-recent : goal.visit_obligations-fates-requires-clause-recent
visit_obligations-fates-requires-clause-recent c =
    let live = c.open_attempt.ensures.opened in
    let vs : Visits =
    (record {
      attempts = attempts_in c.visit_attempts-accepted.new.pool.live;
      accepted = c.visit_attempts-accepted.result;
    }) in
    let e1 =
    same-live (data_of c.args.program.now) c.args.atoms.now c.args.self.now.now
    (attempts_in c.open_attempt.new.pool.live) _ c.args.left.now _ live c.visit_attempts-accepted.ensures.visits
    in
    subst (λ (l : List Obligation). OpenedLately c.args.self.now.now l) (sym c.open_obligation.ensures.opened)
    (laws.lately (data_of c.args.program.now) c.requires.accepted
    (standing_of c.args.self.now.now c.args.self.now.attempts c.args.self.now.obligations) c.requires.reached
    c.args.atoms.now c.requires.atoms c.args.left.now c.requires.budget
    (record {
      attempts = attempts_in c.visit_attempts-accepted.new.pool.live;
      accepted = c.visit_attempts-accepted.result;
    }) c.visit_attempts-accepted.new.left e1)

pub visit_obligations-fates-requires-clause-fits : goal.visit_obligations-fates-requires-clause-fits
visit_obligations-fates-requires-clause-fits c =
    let live = c.open_attempt.ensures.opened in
    let vs : Visits =
    (record {
      attempts = attempts_in c.visit_attempts-accepted.new.pool.live;
      accepted = c.visit_attempts-accepted.result;
    }) in
    let e1 =
    same-live (data_of c.args.program.now) c.args.atoms.now c.args.self.now.now
    (attempts_in c.open_attempt.new.pool.live) _ c.args.left.now _ live c.visit_attempts-accepted.ensures.visits
    in
    let long = counted _ c.open_obligation.new.pool.live _ c.open_obligation.ensures.opened in
    subst (λ (n : ℕ). n * (1 + path_sum 0 (data_of c.args.program.now).consequent.blocks)
    ≤ c.visit_attempts-accepted.new.left) (sym long)
    (laws.affords_c (data_of c.args.program.now) c.requires.accepted
    (standing_of c.args.self.now.now c.args.self.now.attempts c.args.self.now.obligations) c.requires.reached
    c.args.atoms.now c.requires.atoms c.args.left.now c.requires.budget
    (record {
      attempts = attempts_in c.visit_attempts-accepted.new.pool.live;
      accepted = c.visit_attempts-accepted.result;
    }) c.visit_attempts-accepted.new.left e1)

pub settle_attempts-requires-clause-begun : goal.settle_attempts-requires-clause-begun
settle_attempts-requires-clause-begun c =
    let live = c.open_attempt.ensures.opened in
    let vs : Visits =
    (record {
      attempts = attempts_in c.visit_attempts-accepted.new.pool.live;
      accepted = c.visit_attempts-accepted.result;
    }) in
    let e1 =
    same-live (data_of c.args.program.now) c.args.atoms.now c.args.self.now.now
    (attempts_in c.open_attempt.new.pool.live) _ c.args.left.now _ live c.visit_attempts-accepted.ensures.visits
    in
    laws.begun (data_of c.args.program.now) c.requires.accepted
    (standing_of c.args.self.now.now c.args.self.now.attempts c.args.self.now.obligations) c.requires.reached
    c.args.atoms.now c.requires.atoms c.args.left.now c.requires.budget
    (record {
      attempts = attempts_in c.visit_attempts-accepted.new.pool.live;
      accepted = c.visit_attempts-accepted.result;
    }) c.visit_attempts-accepted.new.left e1

pub settle_attempts-requires-clause-fits : goal.settle_attempts-requires-clause-fits
settle_attempts-requires-clause-fits c =
    let live = c.open_attempt.ensures.opened in
    let vs : Visits =
    (record {
      attempts = attempts_in c.visit_attempts-accepted.new.pool.live;
      accepted = c.visit_attempts-accepted.result;
    }) in
    let e1 =
    same-live (data_of c.args.program.now) c.args.atoms.now c.args.self.now.now
    (attempts_in c.open_attempt.new.pool.live) _ c.args.left.now _ live c.visit_attempts-accepted.ensures.visits
    in
    let v = c.visit_obligations-fates.ensures.visits in
    let e2 =
    ap (λ (l : List Obligation). visit_obligations (data_of c.args.program.now).consequent c.args.atoms.now l
    c.visit_attempts-accepted.new.left) (sym c.open_obligation.ensures.opened) ∙ v.came in
    let long =
    counted (λ e. attempt_of e.1) c.visit_attempts-accepted.new.pool.live
    (attempts_in c.visit_attempts-accepted.new.pool.live) refl in
    omega (
      arith,
      long,
      laws.affords_s (data_of c.args.program.now) c.requires.accepted
          (standing_of c.args.self.now.now c.args.self.now.attempts c.args.self.now.obligations) c.requires.reached
          c.args.atoms.now c.requires.atoms c.args.left.now c.requires.budget
          (record {
            attempts = attempts_in c.visit_attempts-accepted.new.pool.live;
            accepted = c.visit_attempts-accepted.result;
          }) c.visit_attempts-accepted.new.left e1 v.fs
          c.visit_obligations-fates.new.left e2,
    )

pub settle_attempts-requires-clause-room : goal.settle_attempts-requires-clause-room
settle_attempts-requires-clause-room c =
    let live = c.open_attempt.ensures.opened in
    let vs : Visits =
    (record {
      attempts = attempts_in c.visit_attempts-accepted.new.pool.live;
      accepted = c.visit_attempts-accepted.result;
    }) in
    let e1 =
    same-live (data_of c.args.program.now) c.args.atoms.now c.args.self.now.now
    (attempts_in c.open_attempt.new.pool.live) _ c.args.left.now _ live c.visit_attempts-accepted.ensures.visits
    in
    let long =
    counted (λ e. attempt_of e.1) c.visit_attempts-accepted.new.pool.live
    (attempts_in c.visit_attempts-accepted.new.pool.live) refl in
    omega (
      arith,
      long,
      laws.most_v (data_of c.args.program.now) c.requires.accepted
          (standing_of c.args.self.now.now c.args.self.now.attempts c.args.self.now.obligations) c.requires.reached
          c.args.atoms.now c.requires.atoms c.args.left.now c.requires.budget
          (record {
            attempts = attempts_in c.visit_attempts-accepted.new.pool.live;
            accepted = c.visit_attempts-accepted.result;
          }) c.visit_attempts-accepted.new.left e1,
      c.requires.room,
    )

pub returns-clause-advanced : goal.returns-clause-advanced
returns-clause-advanced c =
    let live = c.open_attempt.ensures.opened in
    let vs : Visits =
    (record {
      attempts = attempts_in c.visit_attempts-accepted.new.pool.live;
      accepted = c.visit_attempts-accepted.result;
    }) in
    let e1 =
    same-live (data_of c.args.program.now) c.args.atoms.now c.args.self.now.now
    (attempts_in c.open_attempt.new.pool.live) _ c.args.left.now _ live c.visit_attempts-accepted.ensures.visits
    in
    let v = c.visit_obligations-fates.ensures.visits in
    let e2 =
    ap (λ (l : List Obligation). visit_obligations (data_of c.args.program.now).consequent c.args.atoms.now l
    c.visit_attempts-accepted.new.left) (sym c.open_obligation.ensures.opened) ∙ v.came in
    let t = c.settle_attempts.ensures.settled in
    record {
      decided = t.decided;
      told = t.told;
      came =
          laws.advanced (data_of c.args.program.now) c.requires.accepted
          (standing_of c.args.self.now.now c.args.self.now.attempts c.args.self.now.obligations)
          c.requires.reached c.args.atoms.now c.requires.atoms c.args.left.now c.requires.budget
          (record {
            attempts = attempts_in c.visit_attempts-accepted.new.pool.live;
            accepted = c.visit_attempts-accepted.result;
          }) c.visit_attempts-accepted.new.left e1 v.fs
          c.visit_obligations-fates.new.left e2 c.if-is_disabled.ensures
          (record { live = attempts_in c.settle_attempts.new.pool.live; decided = t.decided })
          c.settle_attempts.new.left (t.came v.fs v.recent v.sets)
          ∙ ap (λ (l : List Obligation).
          done (record {
            state = record {
              now = c.args.self.now.now + 1;
              attempts = attempts_in c.settle_attempts.new.pool.live;
              obligations = l;
            };
            decided = t.decided;
          })
          c.settle_attempts.new.left) (sym v.stayed);
    }

pub returns-then-is_disabled-clause-fewer : goal.returns-then-is_disabled-clause-fewer
returns-then-is_disabled-clause-fewer c =
    let d = c.disable_attempts.ensures.disabled in
    disable_all-less c.args.self.now.now (attempts_in c.open_attempt.new.pool.live) c.args.left.now d.decided
    c.disable_attempts.new.left d.came

pub returns-clause-fewer : goal.returns-clause-fewer
returns-clause-fewer c =
    let p = (data_of c.args.program.now) in
    let v = c.visit_obligations-fates.ensures.visits in
    let t = c.settle_attempts.ensures.settled in
    omega (
      arith,
      visit_attempts-less p.antecedent c.args.atoms.now c.args.self.now.now (attempts_in c.open_attempt.new.pool.live)
          c.args.left.now _ c.visit_attempts-accepted.new.left c.visit_attempts-accepted.ensures.visits,
      visit_obligations-less p.consequent c.args.atoms.now (obligations_in c.open_obligation.new.pool.live)
          c.visit_attempts-accepted.new.left v.fs c.visit_obligations-fates.new.left v.came,
      settle_all-less c.args.self.now.now v.fs (attempts_in c.visit_attempts-accepted.new.pool.live)
          c.visit_obligations-fates.new.left _ c.settle_attempts.new.left (t.came v.fs v.recent v.sets),
    )
