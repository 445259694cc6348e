-- The exit of a `?`: what it returns is the fault that the call met.
use Rattle.std.proofs.Common.{◌≡◌, Result, Ok, Err, refl}
use Rattle.std.specs.Result.{IsErrAnd}

pub resumed-err : {T E : Type 0} (r : Result T E) (e : E) → IsErrAnd r (λ d. d ≡ e) → r ≡ Err e
resumed-err (Ok x) e h = absurd h
resumed-err (Err d) e h = rw h refl
