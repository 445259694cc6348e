use Rattle.std.proofs.Common.{◌≡◌, ◌∙◌, ◌+◌, ◌*◌, ◌<◌, ◌≤◌, ◌^◌, sym, arith, drop, []}
use Rattle.std.proofs.Math.ListN.{drop_of_length-le}
use Rattle.lexer.proofs.NumberLaws.{value_from-skip, value_from-step, value_from-bad, value_from-nil, value_within-none}
use Rattle.lexer.proofs.NumberLaws.{value_within-done, value_within-large, room-fits, room-over}
use Rattle.lexer.proofs.number.value_within.Goals as goal

pub loop-byte-preserved-then-byte-eq95 : goal.loop-byte-preserved-then-byte-eq95
loop-byte-preserved-then-byte-eq95 c = record {
  fits = c.loop-byte.invariant.fits;
  value = c.loop-byte.invariant.value ∙ value_from-skip _ _ _ _ c.loop-byte-test.true c.if-byte-eq95.true;
}

pub returns-in_default : goal.returns-in_default
returns-in_default c =
    sym (value_within-none _ _ _
    (c.loop-byte.invariant.value ∙ value_from-bad _ _ _ _ c.loop-byte-test.true c.if-byte-eq95.false
    c.in_default.ensures.value))

pub returns-then-value-room : goal.returns-then-value-room
returns-then-value-room c =
    let more =
    value_from-step c.args.radix c.loop-byte.value c.args.digits.now c.loop-byte.byte-index c.loop-byte-test.true
    c.in-Some.digit c.if-byte-eq95.false c.in-Some.ensures.value in
    let over : c.args.most < c.args.radix * c.loop-byte.value + c.in-Some.digit =
    room-over _ _ _ _ (omega arith) (omega (arith, c.in-Some.ensures.high)) c.if-value-room.true in
    let large : 2 ^ c.args.width ≤ c.args.radix * c.loop-byte.value + c.in-Some.digit =
    omega (arith, c.requires.most) in
    sym (value_within-large _ _ _ _ _ c.requires.low (c.loop-byte.invariant.value ∙ more) large)

pub loop-byte-preserved : goal.loop-byte-preserved
loop-byte-preserved c = record {
  fits = room-fits _ _ _ _ (omega arith) (omega (arith, c.in-Some.ensures.high)) c.if-value-room.false;
  value =
      c.loop-byte.invariant.value ∙ value_from-step _ _ _ _ c.loop-byte-test.true _ c.if-byte-eq95.false
      c.in-Some.ensures.value;
}

pub returns : goal.returns
returns c =
    let nil : drop c.loop-byte.byte-index c.args.digits.now ≡ [] =
    drop_of_length-le c.args.digits.now c.loop-byte-test.false in
    let fits : c.loop-byte.value < 2 ^ c.args.width = omega (arith, c.requires.most, c.loop-byte.invariant.fits) in
    sym (value_within-done _ _ _ _ (c.loop-byte.invariant.value ∙ value_from-nil _ _ _ nil) fits)
