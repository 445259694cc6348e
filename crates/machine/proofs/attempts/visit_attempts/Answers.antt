use Rattle.std.proofs.Common.{◌-◌, ◌||◌, refl, arith}
use Rattle.bytecode_programs.specs.Programs.{data_of}
use Rattle.machine.specs.Records.{made_by}
use Rattle.machine.proofs.PoolSteps as steps
use Rattle.machine.proofs.AttemptLaws as laws
use Rattle.machine.proofs.Needs as needs
use Rattle.machine.proofs.attempts.visit_attempts.Goals as goal

pub loop-at-init : goal.loop-at-init
loop-at-init c =
    laws.visiting-first (data_of c.args.program.now) c.args.atoms.now c.args.now c.args.pool.now c.first-at.result
    c.args.left.now
    (steps.starts c.args.pool.now c.first-at.result c.first-at.ensures.distinct c.first-at.ensures.slot)
    c.requires.running c.requires.fits

pub next-at-requires : goal.next-at-requires
next-at-requires c =
    let i = c.loop-at.invariant in
    steps.live c.loop-at.pool c.loop-at.at c.in-Some.slot i.before i.rest i.stands c.in-Some.is

pub get-attempt-requires : goal.get-attempt-requires
get-attempt-requires c =
    let i = c.loop-at.invariant in
    steps.live c.loop-at.pool c.loop-at.at c.in-Some.slot i.before i.rest i.stands c.in-Some.is

pub overflow_sub-left : goal.overflow_sub-left
overflow_sub-left c =
    omega (
      arith,
      laws.affords (data_of c.args.program.now) c.args.atoms.now c.args.now c.loop-at.pool c.loop-at.at c.loop-at.left
          c.loop-at.accepted c.args.pool.now c.args.left.now c.loop-at.invariant c.in-Some.slot c.in-Some.is
          c.get-attempt.result c.get-attempt.ensures,
    )

pub visit_positions-made-requires-clause-inside : goal.visit_positions-made-requires-clause-inside
visit_positions-made-requires-clause-inside c =
    needs.inside-of (λ b. b.items) c.args.program.now.antecedent.blocks.items _ c.get-attempt.result.positions
    (laws.running (data_of c.args.program.now) c.args.atoms.now c.args.now c.loop-at.pool c.loop-at.at
    c.loop-at.left c.loop-at.accepted c.args.pool.now c.args.left.now c.loop-at.invariant c.in-Some.slot
    c.in-Some.is c.get-attempt.result c.get-attempt.ensures).positions

pub visit_positions-made-requires-clause-finishes : goal.visit_positions-made-requires-clause-finishes
visit_positions-made-requires-clause-finishes c =
    let p = data_of c.args.program.now in
    needs.visit-finishes p.antecedent c.args.atoms.now
    (needs.antecedent p c.requires.accepted c.args.atoms.now c.requires.atoms) c.get-attempt.result.start
    c.args.now c.get-attempt.result.positions (c.loop-at.left - 1)
    (laws.running (data_of c.args.program.now) c.args.atoms.now c.args.now c.loop-at.pool c.loop-at.at c.loop-at.left
    c.loop-at.accepted c.args.pool.now c.args.left.now c.loop-at.invariant c.in-Some.slot c.in-Some.is
    c.get-attempt.result c.get-attempt.ensures).positions
    (omega (
      arith,
      laws.affords (data_of c.args.program.now) c.args.atoms.now c.args.now c.loop-at.pool c.loop-at.at
          c.loop-at.left c.loop-at.accepted c.args.pool.now c.args.left.now c.loop-at.invariant c.in-Some.slot
          c.in-Some.is c.get-attempt.result c.get-attempt.ensures,
    ))

pub set-requires : goal.set-requires
set-requires c =
    let i = c.loop-at.invariant in
    steps.live c.loop-at.pool c.loop-at.at c.in-Some.slot i.before i.rest i.stands c.in-Some.is

pub visited_record-requires-clause-started : goal.visited_record-requires-clause-started
visited_record-requires-clause-started c =
    laws.started (data_of c.args.program.now) c.args.atoms.now c.args.now c.loop-at.pool c.loop-at.at c.loop-at.left
    c.loop-at.accepted c.args.pool.now c.args.left.now c.loop-at.invariant c.in-Some.slot c.in-Some.is
    c.get-attempt.result c.get-attempt.ensures

pub visited_record-requires-clause-young : goal.visited_record-requires-clause-young
visited_record-requires-clause-young c =
    let p = data_of c.args.program.now in
    laws.young (data_of c.args.program.now) c.args.atoms.now c.args.now c.loop-at.pool c.loop-at.at c.loop-at.left
    c.loop-at.accepted c.args.pool.now c.args.left.now c.loop-at.invariant c.in-Some.slot c.in-Some.is
    c.get-attempt.result c.get-attempt.ensures
    (needs.antecedent p c.requires.accepted c.args.atoms.now c.requires.atoms)
    (made_by c.visit_positions-made.result) c.visit_positions-made.new.left c.visit_positions-made.ensures
    c.requires.accepted.room.antecedent_positions

pub loop-at-smaller : goal.loop-at-smaller
loop-at-smaller c =
    (laws.next (data_of c.args.program.now) c.args.atoms.now c.args.now c.loop-at.pool c.loop-at.at c.loop-at.left
    c.loop-at.accepted c.args.pool.now c.args.left.now c.loop-at.invariant c.in-Some.slot c.in-Some.is
    c.get-attempt.result c.get-attempt.ensures
    (needs.antecedent (data_of c.args.program.now) c.requires.accepted c.args.atoms.now c.requires.atoms)
    (made_by c.visit_positions-made.result) c.visit_positions-made.new.left c.visit_positions-made.ensures
    c.next-at.result c.next-at.ensures c.set.new.self c.visited_record.result c.visited_record.ensures c.set.ensures
    (c.loop-at.accepted || c.visit_positions-made.result.accepted) refl).1

pub loop-at-preserved : goal.loop-at-preserved
loop-at-preserved c =
    (laws.next (data_of c.args.program.now) c.args.atoms.now c.args.now c.loop-at.pool c.loop-at.at c.loop-at.left
    c.loop-at.accepted c.args.pool.now c.args.left.now c.loop-at.invariant c.in-Some.slot c.in-Some.is
    c.get-attempt.result c.get-attempt.ensures
    (needs.antecedent (data_of c.args.program.now) c.requires.accepted c.args.atoms.now c.requires.atoms)
    (made_by c.visit_positions-made.result) c.visit_positions-made.new.left c.visit_positions-made.ensures
    c.next-at.result c.next-at.ensures c.set.new.self c.visited_record.result c.visited_record.ensures c.set.ensures
    (c.loop-at.accepted || c.visit_positions-made.result.accepted) refl).0

pub returns : goal.returns
returns c = record {
  cap = c.loop-at.invariant.cap;
  visits =
      laws.visiting-last (data_of c.args.program.now) c.args.atoms.now c.args.now c.loop-at.pool c.loop-at.at
      c.loop-at.left c.loop-at.accepted c.args.pool.now c.args.left.now c.loop-at.invariant c.in_default.is;
}
