use Rattle.std.proofs.Common.{ℕ, ◌^◌, ◌<◌, slice_index}
use Rattle.tests_parts.proofs.outcome.fits.Given as goal

-- the values before the index fit
abbrev pub invariant-loop-index : goal.invariant-loop-index
invariant-loop-index l = (k : ℕ) → k < l.index → slice_index l.values k < 2 ^ slice_index l.widths k
