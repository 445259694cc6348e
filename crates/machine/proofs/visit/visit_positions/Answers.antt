use Rattle.std.proofs.Common.{ap, sym, ◌∙◌}
use Rattle.machine_checked.specs.Outcomes.{done}
use Rattle.machine_checked.specs.Blocks.{Visit}
use Rattle.bytecode_programs.specs.Views.{section_data}
use Rattle.machine.specs.Records.{made_by}
use Rattle.machine.proofs.SetLaws.{run-finishes, run-ended}
use Rattle.machine.proofs.visit.visit_positions.Goals as goal

pub run_set-requires-clause-finishes : goal.run_set-requires-clause-finishes
run_set-requires-clause-finishes c =
    run-finishes (section_data c.args.section.now) c.args.atoms.now c.args.set c.args.left.now c.requires.finishes

pub returns : goal.returns
returns c =
    run-ended (section_data c.args.section.now) c.args.atoms.now c.args.set c.args.left.now c.run_set.new.left
    (made_by c.run_set.result) c.run_set.ensures
    ∙ ap (λ (v : Visit). done v c.run_set.new.left) (sym c.ended.ensures)
