use Rattle.std.proofs.Common.{◌-◌, arith}
use Rattle.bytecode_programs.specs.Programs.{data_of}
use Rattle.machine.proofs.Needs as needs
use Rattle.machine.proofs.OwnLaws as laws
use Rattle.machine.proofs.own_attempt.visit_own_attempt.Goals as goal

pub visit_positions-requires-clause-inside : goal.visit_positions-requires-clause-inside
visit_positions-requires-clause-inside c =
    needs.inside-of (λ b. b.items) c.args.program.now.antecedent.blocks.items _ c.args.program.now.antecedent.start
    (laws.alive-a (data_of c.args.program.now) c.requires.accepted 0)

pub visit_positions-requires-clause-finishes : goal.visit_positions-requires-clause-finishes
visit_positions-requires-clause-finishes c =
    let p = data_of c.args.program.now in
    needs.visit-finishes p.antecedent c.args.atoms.now
    (needs.antecedent p c.requires.accepted c.args.atoms.now c.requires.atoms) 0 0 p.antecedent.start
    (c.args.left.now - 1) (laws.alive-a p c.requires.accepted 0) (omega (arith, c.requires.fits))

pub returns : goal.returns
returns c =
    laws.comes-to (data_of c.args.program.now) c.args.atoms.now c.args.left.now (c.args.left.now - 1)
    c.visit_positions.new.left c.visit_positions.result (omega (arith, c.requires.fits)) c.visit_positions.ensures
