use Rattle.std.proofs.Common.{◌+◌, ◌<◌, length, arith}
use Rattle.lexer.proofs.NumberEnds.{base_len-end, base_len-other, base_len-letter, base_len-no_digit, base_len-digits}
use Rattle.lexer.proofs.longest.base_end.Goals as goal

pub returns-then-start-bytes-clause-len : goal.returns-then-start-bytes-clause-len
returns-then-start-bytes-clause-len c = omega (arith, base_len-end c.args.bytes.now c.args.start c.if-start-bytes.true)

pub returns-in_default-clause-len : goal.returns-in_default-clause-len
returns-in_default-clause-len c =
    let lt : c.args.start < length c.args.bytes.now = omega arith in
    omega (arith, base_len-other c.args.bytes.now c.args.start lt c.in_default.ensures.value)

pub returns-then-first-bytes-clause-len : goal.returns-then-first-bytes-clause-len
returns-then-first-bytes-clause-len c =
    let lt : c.args.start < length c.args.bytes.now = omega arith in
    omega (
      arith,
      base_len-letter c.args.bytes.now c.args.start lt c.in-Some.base c.in-Some.ensures.value c.if-first-bytes.true,
    )

pub returns-then-not-is_based_digit-clause-len : goal.returns-then-not-is_based_digit-clause-len
returns-then-not-is_based_digit-clause-len c =
    let lt : c.args.start < length c.args.bytes.now = omega arith in
    let next : c.args.start + 1 < length c.args.bytes.now = omega arith in
    omega (
      arith,
      base_len-no_digit c.args.bytes.now c.args.start lt c.in-Some.base c.in-Some.ensures.value next
          c.if-not-is_based_digit.ensures.value,
    )

pub returns-clause-len : goal.returns-clause-len
returns-clause-len c =
    let lt : c.args.start < length c.args.bytes.now = omega arith in
    let next : c.args.start + 1 < length c.args.bytes.now = omega arith in
    omega (
      arith,
      c.run_end.ensures.run,
      base_len-digits c.args.bytes.now c.args.start lt c.in-Some.base c.in-Some.ensures.value next
          c.if-not-is_based_digit.ensures.value,
    )
