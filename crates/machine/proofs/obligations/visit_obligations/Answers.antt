use Rattle.std.proofs.Common.{◌-◌, sym, ◌∙◌, arith}
use Rattle.bytecode_programs.specs.Programs.{data_of}
use Rattle.machine.specs.Records.{made_by}
use Rattle.machine.proofs.PoolSteps as steps
use Rattle.machine.proofs.ObligationLaws as laws
use Rattle.machine.proofs.Needs as needs
use Rattle.machine.proofs.obligations.visit_obligations.Goals as goal

pub loop-at-init : goal.loop-at-init
loop-at-init c =
    laws.visiting-first (data_of c.args.program.now) c.args.atoms.now c.args.now c.args.pool.now c.first-at.result
    c.args.left.now c.none-fates.result c.none-fates.ensures
    (steps.starts c.args.pool.now c.first-at.result c.first-at.ensures.distinct c.first-at.ensures.slot)
    c.requires.owed c.requires.recent c.requires.fits

pub next-at-requires : goal.next-at-requires
next-at-requires c =
    let i = c.loop-at.invariant in
    steps.live c.loop-at.pool c.loop-at.at c.in-Some.slot i.before i.rest i.stands c.in-Some.is

pub get-obligation-requires : goal.get-obligation-requires
get-obligation-requires c =
    let i = c.loop-at.invariant in
    steps.live c.loop-at.pool c.loop-at.at c.in-Some.slot i.before i.rest i.stands c.in-Some.is

pub overflow_sub-left : goal.overflow_sub-left
overflow_sub-left c =
    omega (
      arith,
      laws.affords (data_of c.args.program.now) c.args.atoms.now c.args.now c.loop-at.pool c.loop-at.at c.loop-at.left
          c.loop-at.fates c.args.pool.now c.args.left.now c.loop-at.invariant c.in-Some.slot c.in-Some.is
          c.get-obligation.result c.get-obligation.ensures,
    )

pub visit_positions-made-requires-clause-inside : goal.visit_positions-made-requires-clause-inside
visit_positions-made-requires-clause-inside c =
    needs.inside-of (λ b. b.items) c.args.program.now.consequent.blocks.items _ c.get-obligation.result.positions
    (laws.owed (data_of c.args.program.now) c.args.atoms.now c.args.now c.loop-at.pool c.loop-at.at c.loop-at.left
    c.loop-at.fates c.args.pool.now c.args.left.now c.loop-at.invariant c.in-Some.slot c.in-Some.is
    c.get-obligation.result c.get-obligation.ensures).positions

pub visit_positions-made-requires-clause-finishes : goal.visit_positions-made-requires-clause-finishes
visit_positions-made-requires-clause-finishes c =
    let p = data_of c.args.program.now in
    needs.visit-finishes p.consequent c.args.atoms.now
    (needs.consequent p c.requires.accepted c.args.atoms.now c.requires.atoms) c.get-obligation.result.tick
    c.args.now c.get-obligation.result.positions (c.loop-at.left - 1)
    (laws.owed (data_of c.args.program.now) c.args.atoms.now c.args.now c.loop-at.pool c.loop-at.at c.loop-at.left
    c.loop-at.fates c.args.pool.now c.args.left.now c.loop-at.invariant c.in-Some.slot c.in-Some.is
    c.get-obligation.result c.get-obligation.ensures).positions
    (omega (
      arith,
      laws.affords (data_of c.args.program.now) c.args.atoms.now c.args.now c.loop-at.pool c.loop-at.at
          c.loop-at.left c.loop-at.fates c.args.pool.now c.args.left.now c.loop-at.invariant c.in-Some.slot c.in-Some.is
          c.get-obligation.result c.get-obligation.ensures,
    ))

pub note-requires-clause-before : goal.note-requires-clause-before
note-requires-clause-before c =
    laws.opened (data_of c.args.program.now) c.args.atoms.now c.args.now c.loop-at.pool c.loop-at.at c.loop-at.left
    c.loop-at.fates c.args.pool.now c.args.left.now c.loop-at.invariant c.in-Some.slot c.in-Some.is
    c.get-obligation.result c.get-obligation.ensures

pub note-requires-clause-recent : goal.note-requires-clause-recent
note-requires-clause-recent c =
    laws.late (data_of c.args.program.now) c.args.atoms.now c.args.now c.loop-at.pool c.loop-at.at c.loop-at.left
    c.loop-at.fates c.args.pool.now c.args.left.now c.loop-at.invariant c.in-Some.slot c.in-Some.is
    c.get-obligation.result c.get-obligation.ensures

pub set-requires : goal.set-requires
set-requires c =
    let i = c.loop-at.invariant in
    steps.live c.loop-at.pool c.loop-at.at c.in-Some.slot i.before i.rest i.stands c.in-Some.is

pub retire-requires : goal.retire-requires
retire-requires c =
    let i = c.loop-at.invariant in
    steps.live c.loop-at.pool c.loop-at.at c.in-Some.slot i.before i.rest i.stands c.in-Some.is

pub loop-at-smaller-then-is_ended : goal.loop-at-smaller-then-is_ended
loop-at-smaller-then-is_ended c =
    (laws.retired (data_of c.args.program.now) c.args.atoms.now c.args.now c.loop-at.pool c.loop-at.at c.loop-at.left
    c.loop-at.fates c.args.pool.now c.args.left.now c.loop-at.invariant c.in-Some.slot c.in-Some.is
    c.get-obligation.result c.get-obligation.ensures
    (needs.consequent (data_of c.args.program.now) c.requires.accepted c.args.atoms.now c.requires.atoms)
    (made_by c.visit_positions-made.result) c.visit_positions-made.new.left c.visit_positions-made.ensures
    (sym c.is_ended.ensures ∙ c.if-is_ended.true) c.next-at.result c.next-at.ensures c.retire.new.self
    c.retire.ensures c.note.new.self c.note.ensures.open c.note.ensures.broken).1

pub loop-at-preserved-then-is_ended : goal.loop-at-preserved-then-is_ended
loop-at-preserved-then-is_ended c =
    (laws.retired (data_of c.args.program.now) c.args.atoms.now c.args.now c.loop-at.pool c.loop-at.at c.loop-at.left
    c.loop-at.fates c.args.pool.now c.args.left.now c.loop-at.invariant c.in-Some.slot c.in-Some.is
    c.get-obligation.result c.get-obligation.ensures
    (needs.consequent (data_of c.args.program.now) c.requires.accepted c.args.atoms.now c.requires.atoms)
    (made_by c.visit_positions-made.result) c.visit_positions-made.new.left c.visit_positions-made.ensures
    (sym c.is_ended.ensures ∙ c.if-is_ended.true) c.next-at.result c.next-at.ensures c.retire.new.self
    c.retire.ensures c.note.new.self c.note.ensures.open c.note.ensures.broken).0

pub loop-at-smaller : goal.loop-at-smaller
loop-at-smaller c =
    (laws.reset (data_of c.args.program.now) c.args.atoms.now c.args.now c.loop-at.pool c.loop-at.at c.loop-at.left
    c.loop-at.fates c.args.pool.now c.args.left.now c.loop-at.invariant c.in-Some.slot c.in-Some.is
    c.get-obligation.result c.get-obligation.ensures
    (needs.consequent (data_of c.args.program.now) c.requires.accepted c.args.atoms.now c.requires.atoms)
    (made_by c.visit_positions-made.result) c.visit_positions-made.new.left c.visit_positions-made.ensures
    (sym c.is_ended.ensures ∙ c.if-is_ended.false) c.next-at.result c.next-at.ensures c.set.new.self
    c.visited_record.result
    c.visited_record.ensures c.set.ensures c.note.new.self c.note.ensures.open c.note.ensures.broken).1

pub loop-at-preserved : goal.loop-at-preserved
loop-at-preserved c =
    (laws.reset (data_of c.args.program.now) c.args.atoms.now c.args.now c.loop-at.pool c.loop-at.at c.loop-at.left
    c.loop-at.fates c.args.pool.now c.args.left.now c.loop-at.invariant c.in-Some.slot c.in-Some.is
    c.get-obligation.result c.get-obligation.ensures
    (needs.consequent (data_of c.args.program.now) c.requires.accepted c.args.atoms.now c.requires.atoms)
    (made_by c.visit_positions-made.result) c.visit_positions-made.new.left c.visit_positions-made.ensures
    (sym c.is_ended.ensures ∙ c.if-is_ended.false) c.next-at.result c.next-at.ensures c.set.new.self
    c.visited_record.result
    c.visited_record.ensures c.set.ensures c.note.new.self c.note.ensures.open c.note.ensures.broken).0

pub returns : goal.returns
returns c = record {
  cap = c.loop-at.invariant.cap;
  visits =
      laws.visiting-last (data_of c.args.program.now) c.args.atoms.now c.args.now c.loop-at.pool c.loop-at.at
      c.loop-at.left c.loop-at.fates c.args.pool.now c.args.left.now c.loop-at.invariant c.in_default.is;
}
