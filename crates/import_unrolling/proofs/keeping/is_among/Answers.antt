use Rattle.std.proofs.Common.{◌∙◌, arith}
use Rattle.import_unrolling.proofs.KeepLaws.{among_over, among_taken, among_passed}
use Rattle.import_unrolling.proofs.keeping.is_among.Goals as goal

pub returns-then-next-some : goal.returns-then-next-some
returns-then-next-some c =
    c.loop-byte.invariant
    ∙ among_over c.args.some.now c.args.all.now c.loop-byte.next c.loop-byte.byte-index c.if-next-some.true

pub loop-byte-preserved-then-some-next : goal.loop-byte-preserved-then-some-next
loop-byte-preserved-then-some-next c =
    c.loop-byte.invariant
    ∙ among_passed c.args.some.now c.args.all.now c.loop-byte.next c.loop-byte.byte-index
    (omega (arith, c.if-next-some.false)) c.loop-byte-test.true c.if-some-next.true

pub loop-byte-preserved : goal.loop-byte-preserved
loop-byte-preserved c =
    c.loop-byte.invariant
    ∙ among_taken c.args.some.now c.args.all.now c.loop-byte.next c.loop-byte.byte-index
    (omega (arith, c.if-next-some.false)) c.loop-byte-test.true c.if-some-next.false

pub returns-then-next-some-2 : goal.returns-then-next-some-2
returns-then-next-some-2 c =
    c.loop-byte.invariant
    ∙ among_over c.args.some.now c.args.all.now c.loop-byte.next c.loop-byte.byte-index c.if-next-some-2.true
