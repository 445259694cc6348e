use Rattle.bytecode_programs.specs.Programs.{data_of}
use Rattle.verifier.proofs.ProgramLaws.{faultless}
use Rattle.compiler.proofs.Refusals.{none-first}
use Rattle.compiler.proofs.limits.least_of.Goals as goal

pub want_of_memory-requires : goal.want_of_memory-requires
want_of_memory-requires c =
    none-first _ _ (faultless (data_of c.args.program.now) c.requires.formed c.requires.room) c.in-Err.ensures.first
