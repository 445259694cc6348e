use Rattle.std.proofs.Common.{◌≡◌, ◌+◌, List, [], ◌∷◌, refl, sym, ap, ◌∙◌, arith}
use Rattle.bytecode_programs.specs.Programs.{data_of}
use Rattle.machine_checked.specs.Outcomes.{done}
use Rattle.machine_checked.specs.Clocks.{Attempt, Obligation, Standing, visited, settle_all, clock_after}
use Rattle.machine.specs.Records.{attempt_of, made_by}
use Rattle.machine.specs.Live.{attempts_in, standing_of, new_attempt, with_new}
use Rattle.machine.specs.Own.{own_visits}
use Rattle.machine.specs.Told.{nothing_at}
use Rattle.machine.proofs.LessLaws.{visit_attempts-less, visit_obligations-less, settle_all-less, disable_all-less}
use Rattle.machine.proofs.ClockLaws as laws
use Rattle.machine.proofs.OwnLaws as own
use Rattle.machine.proofs.live.Live.own_clock.Goals as goal

pub returns-then-is_disabled-clause-fewer : goal.returns-then-is_disabled-clause-fewer
returns-then-is_disabled-clause-fewer c =
    let one = new_attempt (data_of c.args.program.now) c.args.self.now.now in
    let d = c.disable_own_attempt.ensures one refl in
    disable_all-less c.args.self.now.now (one ∷ []) c.args.left.now d.decided c.disable_own_attempt.new.left d.came

pub returns-then-is_disabled-clause-advanced : goal.returns-then-is_disabled-clause-advanced
returns-then-is_disabled-clause-advanced c =
    let p = data_of c.args.program.now in
    let now = c.args.self.now.now in
    let d = c.disable_own_attempt.ensures (new_attempt p now) refl in
    let same : standing_of now c.args.self.now.attempts c.args.self.now.obligations ≡ nothing_at now =
    own.none-stands now c.args.self.now.attempts.live c.args.self.now.obligations.live c.requires.no_attempt
    c.requires.no_obligation in
    record {
      decided = d.decided;
      told = d.told;
      came =
          ap (λ (s : Standing). clock_after p s c.args.atoms.now c.args.left.now) same
          ∙ laws.disabled p c.requires.accepted (nothing_at now) (own.nothing-reached p now) c.args.atoms.now
          c.requires.atoms c.args.left.now c.requires.budget d.decided c.disable_own_attempt.new.left
          c.if-is_disabled.ensures d.came
          ∙ ap (λ (s : Standing). done (record { state = s; decided = d.decided }) c.disable_own_attempt.new.left)
          (sym (own.none-stands (now + 1) c.args.self.now.attempts.live c.args.self.now.obligations.live
          c.requires.no_attempt c.requires.no_obligation));
    }

pub visit_own_obligation-fates-requires-clause-fits : goal.visit_own_obligation-fates-requires-clause-fits
visit_own_obligation-fates-requires-clause-fits c =
    let p = data_of c.args.program.now in
    let now = c.args.self.now.now in
    laws.affords_c p c.requires.accepted (nothing_at now) (own.nothing-reached p now) c.args.atoms.now
    c.requires.atoms c.args.left.now c.requires.budget (own_visits p now c.visit_own_attempt-visit.result)
    c.visit_own_attempt-visit.new.left (c.visit_own_attempt-visit.ensures now)

pub settle_own_attempt-requires-clause-fits : goal.settle_own_attempt-requires-clause-fits
settle_own_attempt-requires-clause-fits c =
    let p = data_of c.args.program.now in
    let now = c.args.self.now.now in
    let v = c.visit_own_obligation-fates.ensures.visits in
    laws.affords_s p c.requires.accepted (nothing_at now) (own.nothing-reached p now) c.args.atoms.now
    c.requires.atoms c.args.left.now c.requires.budget (own_visits p now c.visit_own_attempt-visit.result)
    c.visit_own_attempt-visit.new.left (c.visit_own_attempt-visit.ensures now) v.fs
    c.visit_own_obligation-fates.new.left v.came

pub returns-clause-fewer : goal.returns-clause-fewer
returns-clause-fewer c =
    let p = data_of c.args.program.now in
    let now = c.args.self.now.now in
    let visit = c.visit_own_attempt-visit.result in
    let v = c.visit_own_obligation-fates.ensures.visits in
    let t = c.settle_own_attempt.ensures.settled in
    omega (
      arith,
      visit_attempts-less p.antecedent c.args.atoms.now now (new_attempt p now ∷ []) c.args.left.now
          (own_visits p now visit) c.visit_own_attempt-visit.new.left (c.visit_own_attempt-visit.ensures now),
      visit_obligations-less p.consequent c.args.atoms.now (with_new p now visit.accepted [])
          c.visit_own_attempt-visit.new.left v.fs c.visit_own_obligation-fates.new.left v.came,
      settle_all-less now v.fs (attempt_of c.visited_record-attempt.result ∷ [])
          c.visit_own_obligation-fates.new.left _ c.settle_own_attempt.new.left (t.came v.fs v.recent v.sets),
    )

pub returns-clause-advanced : goal.returns-clause-advanced
returns-clause-advanced c =
    let p = data_of c.args.program.now in
    let now = c.args.self.now.now in
    let visit = c.visit_own_attempt-visit.result in
    let v = c.visit_own_obligation-fates.ensures.visits in
    let t = c.settle_own_attempt.ensures.settled in
    let same : standing_of now c.args.self.now.attempts c.args.self.now.obligations ≡ nothing_at now =
    own.none-stands now c.args.self.now.attempts.live c.args.self.now.obligations.live c.requires.no_attempt
    c.requires.no_obligation in
    let attempt : attempt_of c.visited_record-attempt.result ≡ visited now (new_attempt p now) (made_by visit) =
    c.visited_record-attempt.ensures
    ∙ ap (λ (a : Attempt). visited now a (made_by visit)) c.own_attempt.ensures in
    record {
      decided = t.decided;
      told = t.told;
      came =
          ap (λ (s : Standing). clock_after p s c.args.atoms.now c.args.left.now) same
          ∙ laws.advanced p c.requires.accepted (nothing_at now) (own.nothing-reached p now) c.args.atoms.now
          c.requires.atoms c.args.left.now c.requires.budget (own_visits p now visit)
          c.visit_own_attempt-visit.new.left (c.visit_own_attempt-visit.ensures now) v.fs
          c.visit_own_obligation-fates.new.left v.came c.if-is_disabled.ensures
          (record { live = attempts_in c.settle_own_attempt.new.pool.live; decided = t.decided })
          c.settle_own_attempt.new.left
          (ap (λ (a : Attempt). settle_all now v.fs (a ∷ []) c.visit_own_obligation-fates.new.left) (sym attempt)
          ∙ t.came v.fs v.recent v.sets)
          ∙ ap (λ (l : List Obligation).
          done (record {
            state = record {
              now = now + 1;
              attempts = attempts_in c.settle_own_attempt.new.pool.live;
              obligations = l;
            };
            decided = t.decided;
          }) c.settle_own_attempt.new.left) (sym v.stayed);
    }
