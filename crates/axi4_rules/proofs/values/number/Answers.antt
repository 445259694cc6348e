use Rattle.std.proofs.Common.{◌∙◌, sym, ap, arith}
use Rattle.std.specs.Char.{is_ascii_digit}
use Rattle.std.specs.List.{list_all}
use Rattle.axi4_rules.proofs.ListLaws.{all_fails, all_passes, drop-end}
use Rattle.axi4_rules.proofs.NumberLaws.{no_number, not_digits, is_number, digit_more, no_digit_left}
use Rattle.axi4_rules.proofs.values.number.Goals as goal

pub returns-then-is_empty : goal.returns-then-is_empty
returns-then-is_empty c =
    rw (← c.as_bytes-digits.ensures.value) (sym (no_number _ (sym c.is_empty.ensures ∙ c.if-is_empty.true)))

pub returns-then-not-is_ascii_digit : goal.returns-then-not-is_ascii_digit
returns-then-not-is_ascii_digit c =
    rw (← c.as_bytes-digits.ensures.value)
    (sym (not_digits _
    (c.loop-digit.invariant.all
    ∙ all_fails is_ascii_digit _ _ 0 c.loop-digit-test.true (sym c.is_ascii_digit.ensures.value
    ∙ c.if-not-is_ascii_digit.true))))

pub loop-digit-preserved : goal.loop-digit-preserved
loop-digit-preserved c = record {
  some = c.loop-digit.invariant.some;
  all = c.loop-digit.invariant.all
      ∙ all_passes is_ascii_digit _ _ 0 c.loop-digit-test.true (sym c.is_ascii_digit.ensures.value
      ∙ c.if-not-is_ascii_digit.false);
  capped = omega (arith, c.min-number.ensures);
  value =
      c.loop-digit.invariant.value ∙ digit_more _ _ _ _ _ c.loop-digit-test.true c.from.ensures c.min-number.ensures;
}

pub returns : goal.returns
returns c =
    rw (← c.as_bytes-digits.ensures.value)
    (sym (is_number _ _ c.loop-digit.invariant.some
    (c.loop-digit.invariant.all ∙ ap (list_all is_ascii_digit) (drop-end _ _ c.loop-digit-test.false))
    (c.loop-digit.invariant.value ∙ no_digit_left _ _ _ c.loop-digit-test.false c.loop-digit.invariant.capped)))
