-- What is known of an error.
use Rattle.std.proofs.Common.{◌≡◌, sym, subst}
use Rattle.std.specs.Prelude.{Result, Ok, Err, IfErr, IsErrAnd}
use Rattle.cli_faults.specs.declared.fault.Fault.{Fault}

-- what an error that is known says
pub err_is : {X : Type 0} (r : Result X Fault) (e : Fault) (Why : Fault → Type 0)
    → IsErrAnd r (λ f. f ≡ e) → Why e → IfErr r Why
err_is (Ok x) e Why h why = tt
err_is (Err f) e Why h why = subst Why (sym h) why
