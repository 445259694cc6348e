use Rattle.std.proofs.Common.{◌≡◌, refl, sym, subst}
use Rattle.bytecode_programs.specs.Values.{ProgramData}
use Rattle.bytecode_programs.specs.Programs.{data_of}
use Rattle.verifier.specs.Programs.{least_limits}
use Rattle.compiler.specs.Programs.{IsProgramOf}
use Rattle.compiler.specs.Parts.{declared_from}
use Rattle.compiler.proofs.Formed as made
use Rattle.compiler.proofs.Faultless.{faultless}
use Rattle.compiler.proofs.compilation.compile.Goals as goal

pub accepted_program-requires-clause-formed : goal.accepted_program-requires-clause-formed
accepted_program-requires-clause-formed c =
    made.formed c.args.suite.now c.args.assertion.now c.requires c.in_ok-reading.reading.signals.items
    c.in_ok-reading.reading.counters.items
    c.in_ok-reading.ensures.is (data_of c.in_ok-program.program) c.in_ok-program.ensures.made c.in_default.ensures

pub accepted_program-requires-clause-room : goal.accepted_program-requires-clause-room
accepted_program-requires-clause-room c =
    made.roomy c.args.suite.now c.args.assertion.now c.requires c.in_ok-reading.reading.signals.items
    c.in_ok-reading.reading.counters.items
    c.in_ok-reading.ensures.is (data_of c.in_ok-program.program) c.in_ok-program.ensures.made c.in_default.ensures

pub accepted_program-requires-clause-modest : goal.accepted_program-requires-clause-modest
accepted_program-requires-clause-modest c =
    made.modest c.args.suite.now c.args.assertion.now c.requires c.in_ok-reading.reading.signals.items
    c.in_ok-reading.reading.counters.items
    c.in_ok-reading.ensures.is (data_of c.in_ok-program.program) c.in_ok-program.ensures.made c.in_default.ensures

pub returns-clause-made : goal.returns-clause-made
returns-clause-made c =
    subst (IsProgramOf c.args.suite.now c.args.assertion.now) (sym c.in_ok-accepted_program.ensures)
    (made.declares c.args.suite.now c.args.assertion.now (data_of c.in_ok-program.program)
    (declared_from (least_limits (data_of c.in_ok-program.program)))
    (made.program-of c.args.suite.now c.args.assertion.now c.requires c.in_ok-reading.reading.signals.items
    c.in_ok-reading.reading.counters.items
    c.in_ok-reading.ensures.is (data_of c.in_ok-program.program) c.in_ok-program.ensures.made))

pub returns-clause-least : goal.returns-clause-least
returns-clause-least c =
    subst (λ (p : ProgramData). p.header.limits ≡ declared_from (least_limits p))
    (sym c.in_ok-accepted_program.ensures) refl

pub returns-clause-faultless : goal.returns-clause-faultless
returns-clause-faultless c =
    faultless c.args.suite.now c.args.assertion.now c.in_ok-reading.reading.signals.items
    c.in_ok-reading.reading.counters.items (data_of c.in_ok-program.program)
    c.in_ok-reading.ensures.is c.in_default.ensures c.in_ok-program.ensures.made
