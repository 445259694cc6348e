-- What shares have, kind by kind.
use Rattle.std.proofs.Common.{◌≡◌, ℕ, zero, suc, ap}
use Rattle.std.specs.List.{slice_index}
use Rattle.verdicts.specs.declared.tally.Share.{Share}
use Rattle.verdicts.specs.Shares.{IsFresh}
use Rattle.workers.specs.Adding.{amount_of}

pub fresh-amount : {L : Type 0} (k : ℕ) (s : Share L) → IsFresh s → amount_of k s ≡ 0
fresh-amount zero s is = ap (λ l. slice_index l 0) is.1
fresh-amount (suc zero) s is = ap (λ l. slice_index l 1) is.1
fresh-amount (suc (suc zero)) s is = ap (λ l. slice_index l 2) is.1
fresh-amount (suc (suc (suc k))) s is = ap (λ l. slice_index l 3) is.1
