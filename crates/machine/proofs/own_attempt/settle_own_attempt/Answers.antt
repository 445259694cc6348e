use Rattle.std.proofs.Common.{ℕ, List, [], ◌∷◌, ◌++◌, ◌-◌, Some, None, sym, ap, ◌∙◌}
use Rattle.machine_checked.specs.Outcomes.{done}
use Rattle.machine_checked.specs.Clocks.{Attempt}
use Rattle.attempt_pool.specs.Pooled.{Pooled}
use Rattle.machine.specs.declared.attempt.AttemptRecord.{AttemptRecord}
use Rattle.machine.specs.Records.{attempt_of}
use Rattle.machine.specs.Live.{attempts_in}
use Rattle.machine.proofs.OwnLaws as laws
use Rattle.machine.proofs.own_attempt.settle_own_attempt.Goals as goal

pub returns-in-Some-clause-settled : goal.returns-in-Some-clause-settled
returns-in-Some-clause-settled c =
    let one = record { start = c.args.attempt.start; verdict = c.in-Some.verdict } ∷ [] in
    record {
      decided = one;
      told = c.push.ensures.items;
      came = λ fs recent sets.
          laws.settles-one c.args.now fs c.args.fates (attempt_of c.args.attempt) (Some c.in-Some.verdict)
          c.args.left.now c.requires.fits c.in-Some.ensures recent sets
          ∙ ap (λ (l : List (ℕ × AttemptRecord)).
          done (record { live = attempts_in l; decided = one }) (c.args.left.now - 1)) (sym c.requires.none);
    }

pub returns-in-None-clause-settled : goal.returns-in-None-clause-settled
returns-in-None-clause-settled c =
    let live =
    ap (λ (q : Pooled AttemptRecord). attempts_in q.live) c.open-slot.ensures.pool
    ∙ ap (λ (l : List (ℕ × AttemptRecord)). attempts_in (l ++ (c.open-slot.result, c.args.attempt) ∷ []))
    c.requires.none in
    record {
      decided = [];
      told = sym (laws.none-more c.args.out.now.items);
      came = λ fs recent sets.
          laws.settles-one c.args.now fs c.args.fates (attempt_of c.args.attempt) None c.args.left.now c.requires.fits
          c.in-None.ensures recent sets
          ∙ ap (λ (l : List Attempt). done (record { live = l; decided = [] }) (c.args.left.now - 1)) (sym live);
    }
