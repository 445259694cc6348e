use Rattle.std.proofs.Common.{inr, sym, ◌∙◌}
use Rattle.std.proofs.lemmas.Result.{err_from_is_err_and}
use Rattle.bytecode_programs.specs.Programs.{data_of}
use Rattle.verifier.proofs.VerifyLaws.{before_limits}
use Rattle.verifier.proofs.LimitFaultLaws.{refused_by, acceptable_by}
use Rattle.verifier.proofs.ShortLaws.{accepted, never_accepted}
use Rattle.verifier.proofs.accept.check.Goals as goal

pub returns-in_err-least-clause-first : goal.returns-in_err-least-clause-first
returns-in_err-least-clause-first c =
    let p = data_of c.args.program.now in
    let q = err_from_is_err_and c.from_residual.result c.from_residual.ensures.1 in
    rw (q.1, q.2) (before_limits p c.in_err-least.field-0.0 c.in_err-least.ensures.first)

pub returns-in_err-least-clause-refused : goal.returns-in_err-least-clause-refused
returns-in_err-least-clause-refused c =
    let p = data_of c.args.program.now in
    let q = err_from_is_err_and c.from_residual.result c.from_residual.ensures.1 in
    rw (q.1, q.2)
    (never_accepted p c.in_err-least.field-0.0
    (before_limits p c.in_err-least.field-0.0 c.in_err-least.ensures.first))

pub returns-in-Some-clause-first : goal.returns-in-Some-clause-first
returns-in-Some-clause-first c =
    inr (refused_by (data_of c.args.program.now) c.in_ok-least.least c.in-Some.refusal c.in_ok-least.ensures.faultless
    c.in_ok-least.ensures.least (sym c.in-Some.is ∙ c.limit_fault.ensures))

pub returns-in-Some-clause-refused : goal.returns-in-Some-clause-refused
returns-in-Some-clause-refused c =
    never_accepted (data_of c.args.program.now) c.in-Some.refusal
    (inr (refused_by (data_of c.args.program.now) c.in_ok-least.least c.in-Some.refusal c.in_ok-least.ensures.faultless
    c.in_ok-least.ensures.least (sym c.in-Some.is ∙ c.limit_fault.ensures)))

pub returns-in-None-clause-accepted : goal.returns-in-None-clause-accepted
returns-in-None-clause-accepted c =
    let p = data_of c.args.program.now in
    accepted p (acceptable_by p c.in_ok-least.least c.in_ok-least.ensures.faultless c.in_ok-least.ensures.least
    (sym c.in-None.is ∙ c.limit_fault.ensures))
