use Rattle.std.proofs.Common.{ap, sym, subst, ◌∙◌}
use Rattle.bytecode_programs.specs.Programs.{data_of}
use Rattle.verifier.specs.Programs.{IsAccepted}
use Rattle.compiler.specs.Parts.{with_limits, declared_from}
use Rattle.compiler.proofs.Refusals.{not-refused}
use Rattle.compiler.proofs.Formed.{accepted-least}
use Rattle.compiler.proofs.limits.accepted_program.Goals as goal

pub want_of_memory-requires : goal.want_of_memory-requires
want_of_memory-requires c =
    not-refused _ _
    (subst IsAccepted
    (sym (c.declaring_program.ensures ∙ ap (λ l. with_limits (data_of c.args.program) (declared_from l))
    c.in_ok-least.ensures))
    (accepted-least (data_of c.args.program) c.requires.formed c.requires.room c.requires.modest))
    c.in-Err.ensures.refused
