use Rattle.std.proofs.Common.{sym, subst}
use Rattle.bytecode_programs.specs.Programs.{data_of}
use Rattle.history_ring.specs.History.{History}
use Rattle.machine_sample_code.specs.Memory.{AreRows}
use Rattle.machine_sample_code.proofs.RowLaws.{AreRows-pushed}
use Rattle.tests_parts.proofs.outcome.push_row.Goals as goal

pub returns-then-fit-clause-rows : goal.returns-then-fit-clause-rows
returns-then-fit-clause-rows c =
    let p = data_of c.args.program.now in
    let widths = c.args.widths.now in
    subst (λ (h : History). AreRows p widths h) (sym c.push.ensures)
    (AreRows-pushed p widths c.args.ring.now c.args.row.now (c.fits-fit.ensures c.if-fit.true) c.requires)
