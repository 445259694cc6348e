use Rattle.std.proofs.Common.{sym, ◌∙◌}
use Rattle.std.proofs.lemmas.Result.{err_from_is_err_and}
use Rattle.verifier.specs.Arrivals.{arrived}
use Rattle.verifier.proofs.ScanLaws.{head_front, head_rest}
use Rattle.verifier.proofs.sample_scan.check.Goals as goal

pub returns-in_err-list-clause-refused : goal.returns-in_err-list-clause-refused
returns-in_err-list-clause-refused c =
    let p = err_from_is_err_and c.from_residual.result c.from_residual.ensures.1 in
    rw (p.1, p.2) (head_front _ _ _ c.in_err-list.ensures.refused)

pub returns-in-Some-clause-refused : goal.returns-in-Some-clause-refused
returns-in-Some-clause-refused c =
    head_rest _ _ _ c.in_ok-list.ensures.ok
    (sym c.in-Some.is ∙ c.other_fault.ensures (arrived c.args.arrival) c.arrival_fault-reached.ensures)
