-- What stands between the sides of an assertion.
use Rattle.std.specs.Prelude.{ℕ, Bool, true, false, if◌then◌else◌}
use Rattle.assertions.specs.declared.sequence.Boolean.{Boolean}
use Rattle.assertions.specs.declared.sequence.Boolean.TheVariants.{One}
use Rattle.assertions.specs.Written.{Written, boolean, delay}
use Rattle.report_explained.specs.declared.arrow.Arrow.{Arrow}
use Rattle.report_explained.specs.declared.arrow.Arrow.TheVariants.{Alone, Overlapped, Following}

-- the constant 1, which stands for an antecedent where none is written
abbrev pub is_one : Written Boolean → Bool
is_one (boolean One) = true
is_one _ = false

-- By the antecedent: that of `A |=> C` is `A ##1 1`, and a sequence alone has the antecedent 1; no
-- text writes this constant.
abbrev pub arrow_of : Written Boolean → Arrow
arrow_of (delay r least most s) = if is_one s then Following else Overlapped
arrow_of r = if is_one r then Alone else Overlapped

-- how many clocks before the one from which the consequent is asked a match of the antecedent ended
abbrev pub back_of : Arrow → ℕ
back_of Following = 1
back_of _ = 0
