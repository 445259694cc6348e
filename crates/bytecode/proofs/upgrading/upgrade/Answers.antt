use Rattle.std.proofs.Common.{rules}
use Rattle.bytecode_programs.specs.Programs.{data_of}
use Rattle.bytecode.proofs.upgrading.upgrade.Goals as goal

pub returns-clause-upgraded : goal.returns-clause-upgraded
returns-clause-upgraded c =
    (data_of c.in_ok-program.program, c.in_ok-program.ensures.spelled, c.in_ok-encode.ensures)

pub returns-in_err-program-clause-read : goal.returns-in_err-program-clause-read
returns-in_err-program-clause-read c = λ first x fits e.
    let memory = c.in_err-program.ensures.read first x fits e in
    search rules
