use Rattle.std.proofs.Common.{ℕ, List, [], ◌∷◌, ◌++◌, ◌-◌, sym, ap, ◌∙◌, arith}
use Rattle.bytecode_programs.specs.Programs.{data_of}
use Rattle.machine_checked.specs.Clocks.{Obligation}
use Rattle.attempt_pool.specs.Pooled.{Pooled}
use Rattle.machine.specs.declared.obligation.ObligationRecord.{ObligationRecord}
use Rattle.machine.specs.Live.{obligations_in}
use Rattle.machine.proofs.Needs as needs
use Rattle.machine.proofs.OwnLaws as laws
use Rattle.machine.proofs.own_attempt.visit_opened_obligation.Goals as goal

pub visit_positions-made-requires-clause-inside : goal.visit_positions-made-requires-clause-inside
visit_positions-made-requires-clause-inside c =
    needs.inside-of (λ b. b.items) c.args.program.now.consequent.blocks.items _ c.args.program.now.consequent.start
    (laws.alive-c (data_of c.args.program.now) c.requires.accepted 0)

pub visit_positions-made-requires-clause-finishes : goal.visit_positions-made-requires-clause-finishes
visit_positions-made-requires-clause-finishes c =
    let p = data_of c.args.program.now in
    needs.visit-finishes p.consequent c.args.atoms.now
    (needs.consequent p c.requires.accepted c.args.atoms.now c.requires.atoms) 0 0 p.consequent.start
    (c.args.left.now - 1) (laws.alive-c p c.requires.accepted 0) (omega (arith, c.requires.fits))

pub returns-then-not-is_ended-clause-visits : goal.returns-then-not-is_ended-clause-visits
returns-then-not-is_ended-clause-visits c =
    let p = data_of c.args.program.now in
    let made = c.visit_positions-made.result in
    let f = laws.own_fate c.args.now made in
    record {
      fs = f ∷ [];
      came =
          laws.owed-comes p c.args.atoms.now c.args.now c.args.left.now (c.args.left.now - 1)
          c.visit_positions-made.new.left made (omega (arith, c.requires.fits)) c.visit_positions-made.ensures;
      stayed =
          ap (λ (q : Pooled ObligationRecord). obligations_in q.live) c.open-slot.ensures.pool
          ∙ ap (λ (l : List (ℕ × ObligationRecord)).
          obligations_in (l ++ (c.open-slot.result, c.visited_record.result) ∷ [])) c.requires.none
          ∙ ap (λ (o : Obligation). o ∷ []) c.visited_record.ensures
          ∙ sym (laws.going-one f (sym c.is_ended.ensures ∙ c.if-not-is_ended.true));
      sets =
          laws.noted-one c.args.now f c.none-fates.result c.note.new.self c.none-fates.ensures c.note.ensures.open
          c.note.ensures.broken;
      recent = (omega arith, omega arith, tt);
    }

pub returns-else-not-is_ended-clause-visits : goal.returns-else-not-is_ended-clause-visits
returns-else-not-is_ended-clause-visits c =
    let p = data_of c.args.program.now in
    let made = c.visit_positions-made.result in
    let f = laws.own_fate c.args.now made in
    record {
      fs = f ∷ [];
      came =
          laws.owed-comes p c.args.atoms.now c.args.now c.args.left.now (c.args.left.now - 1)
          c.visit_positions-made.new.left made (omega (arith, c.requires.fits)) c.visit_positions-made.ensures;
      stayed =
          ap (λ (l : List (ℕ × ObligationRecord)). obligations_in l) c.requires.none
          ∙ sym (laws.ended-one f (sym c.is_ended.ensures ∙ c.if-not-is_ended.false));
      sets =
          laws.noted-one c.args.now f c.none-fates.result c.note.new.self c.none-fates.ensures c.note.ensures.open
          c.note.ensures.broken;
      recent = (omega arith, omega arith, tt);
    }
