-- Chains, concatenations and shifts mean what they should.
use Rattle.std.proofs.Common.{◌^◌, refl, ◌∙◌, arith}
use Rattle.std.proofs.Math.Nat.{mul-add-mod_self_right, mod-eq_of_lt}
use Rattle.std.proofs.lemmas.Nat.{div-mul-add}
use Rattle.signals.proofs.Widths.{shl_far, shr_far}
use Rattle.expressions.specs.declared.operator.Shift.TheVariants.{Left, Right}
use Rattle.expressions.specs.Terms.{width_of, value_of}
use Rattle.expressions.specs.Laws.{ChainsCompareBits, ConcatsKeepParts, LongShiftsGiveZero}
use Rattle.expressions.proofs.Fits.{value_fits}

pub chains_compare_bits : ChainsCompareBits
chains_compare_bits t first second a b c k w = refl

pub concats_keep_parts : ConcatsKeepParts
concats_keep_parts t a b k w =
    let high = value_of t a k (width_of a) in
    let low = value_of t b k (width_of b) in
    let fits = value_fits t b k (width_of b) (omega arith) in
    record {
      low = mul-add-mod_self_right high (2 ^ width_of b) low ∙ mod-eq_of_lt fits;
      high = div-mul-add high (2 ^ width_of b) low fits;
    }

pub long_shifts : LongShiftsGiveZero
long_shifts t Left a b k w narrow long = shl_far (value_of t a k w) (value_of t b k (width_of b)) w long
long_shifts t Right a b k w narrow long =
    shr_far (value_of t a k w) (value_of t b k (width_of b)) w (value_fits t a k w narrow) long
