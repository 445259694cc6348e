use Rattle.std.proofs.Common.{◌∙◌, sym, ap, arith, length}
use Rattle.bytecode.specs.Views.{parts_data}
use Rattle.bytecode.specs.Reading.{whole_of}
use Rattle.bytecode.proofs.FieldLaws.{ok_is}
use Rattle.bytecode.proofs.ProgramLaws.{whole-takes, whole-again, program-more, no-fault}
use Rattle.bytecode.proofs.program_reading.decode.Goals as goal

pub invariant_of-result : goal.invariant_of-result
invariant_of-result c =
    let read =
    whole-takes c.args.bytes.now (parts_data c.in-Ok.parts) (λ i. omega (arith, c.type_inv.bytes i))
    c.in-Ok.ensures in
    record { fits = program-more read.0 (parts_data c.in-Ok.parts) read.1 }

pub returns-clause-spelled : goal.returns-clause-spelled
returns-clause-spelled c =
    whole-takes c.args.bytes.now (parts_data c.in-Ok.parts) (λ i. omega (arith, c.type_inv.bytes i))
    c.in-Ok.ensures

pub returns-clause-read : goal.returns-clause-read
returns-clause-read c =
    λ first x fits e. ok_is (parts_data c.in-Ok.parts) x (sym c.in-Ok.ensures ∙ ap whole_of e
    ∙ whole-again first x fits)

pub returns-in-Err-clause-read : goal.returns-in-Err-clause-read
returns-in-Err-clause-read c =
    λ first x fits e. c.fault_of.ensures ∙ no-fault c.in-Err.stop (length c.args.bytes.now) x
    (whole_of c.args.bytes.now) c.in-Err.ensures (ap whole_of e ∙ whole-again first x fits)
