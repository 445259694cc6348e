use Rattle.std.proofs.Common.{List, sym, subst}
use Rattle.std.specs.List.{AllZip}
use Rattle.std.proofs.lemmas.Result.{IfOk-weaker, IfErr-weaker}
use Rattle.bytecode_programs.specs.Values.{ProgramData}
use Rattle.vcd_reader.specs.Held.{variables_of}
use Rattle.report_programs.specs.Faults.{IsMadeOf}
use Rattle.report_programs.proofs.ListLaws.{job-lines}
use Rattle.report_programs.proofs.LineLaws.{have-variables, none-unfit}
use Rattle.report_programs.proofs.job.suite_job.Goals as goal

pub job_of-requires-clause-fits : goal.job_of-requires-clause-fits
job_of-requires-clause-fits c =
    let suite = c.args.suite.now in
    let vs = variables_of c.args.dump in
    let have = have-variables vs suite.names.items c.requires.watched in
    none-unfit vs suite have.variables have.are c.requires.watched suite.assertions.items
    c.in_ok-programs.programs.items c.in_ok-programs.ensures.made

pub returns-clause-made : goal.returns-clause-made
returns-clause-made c =
    let suite = c.args.suite.now in
    IfOk-weaker c.job_of.result _ _
    (λ j same. subst (λ (ps : List ProgramData). AllZip (IsMadeOf suite) suite.assertions.items ps) (sym same)
    c.in_ok-programs.ensures.made)
    c.job_of.ensures.programs

pub returns-clause-refused : goal.returns-clause-refused
returns-clause-refused c =
    let suite = c.args.suite.now in
    IfErr-weaker c.job_of.result _ _
    (λ e why. job-lines suite c.in_ok-programs.programs.items e c.in_ok-programs.ensures.made why)
    c.job_of.ensures.fault
