use Rattle.std.proofs.Common.{◌∙◌, sym, drop, ◌+◌}
use Rattle.bytecode_programs.specs.Texts.{begins}
use Rattle.bytecode.proofs.TextLaws.{first-no, first-yes, dot-no, dot-yes, later-no, later-yes, was_first}
use Rattle.bytecode.proofs.TextLaws.{was_later}
use Rattle.bytecode.proofs.TextLaws.{is_later_on, on_end}
use Rattle.bytecode.proofs.text.is_text.Goals as goal

pub returns-then-not-is_first : goal.returns-then-not-is_first
returns-then-not-is_first c =
    sym (first-no c.args.dots c.args.bytes.now c.loop-byte.byte-index c.loop-byte-test.true
    (sym c.is_first.ensures ∙ c.if-not-is_first.true))
    ∙ was_first c.loop-byte.begins c.args.dots (begins c.args.dots c.args.bytes.now)
    (drop c.loop-byte.byte-index c.args.bytes.now) c.if-begins.true c.loop-byte.invariant

pub loop-byte-preserved-then-begins : goal.loop-byte-preserved-then-begins
loop-byte-preserved-then-begins c =
    sym (first-yes c.args.dots c.args.bytes.now c.loop-byte.byte-index c.loop-byte-test.true
    (sym c.is_first.ensures ∙ c.if-not-is_first.false))
    ∙ was_first c.loop-byte.begins c.args.dots (begins c.args.dots c.args.bytes.now)
    (drop c.loop-byte.byte-index c.args.bytes.now) c.if-begins.true c.loop-byte.invariant

pub returns-then-not-dots : goal.returns-then-not-dots
returns-then-not-dots c =
    sym (dot-no c.args.dots c.args.bytes.now c.loop-byte.byte-index c.loop-byte-test.true c.if-byte-eq46.true
    c.if-not-dots.true)
    ∙ was_later c.loop-byte.begins c.args.dots (begins c.args.dots c.args.bytes.now)
    (drop c.loop-byte.byte-index c.args.bytes.now) c.if-begins.false c.loop-byte.invariant

pub loop-byte-preserved-then-byte-eq46 : goal.loop-byte-preserved-then-byte-eq46
loop-byte-preserved-then-byte-eq46 c =
    sym (dot-yes c.args.dots c.args.bytes.now c.loop-byte.byte-index c.loop-byte-test.true c.if-byte-eq46.true
    c.if-not-dots.false)
    ∙ was_later c.loop-byte.begins c.args.dots (begins c.args.dots c.args.bytes.now)
    (drop c.loop-byte.byte-index c.args.bytes.now) c.if-begins.false c.loop-byte.invariant

pub returns-then-not-is_later : goal.returns-then-not-is_later
returns-then-not-is_later c =
    sym (later-no c.args.dots c.args.bytes.now c.loop-byte.byte-index c.loop-byte-test.true c.if-byte-eq46.false
    (sym c.is_later.ensures ∙ c.if-not-is_later.true))
    ∙ was_later c.loop-byte.begins c.args.dots (begins c.args.dots c.args.bytes.now)
    (drop c.loop-byte.byte-index c.args.bytes.now) c.if-begins.false c.loop-byte.invariant

pub loop-byte-preserved : goal.loop-byte-preserved
loop-byte-preserved c =
    is_later_on c.loop-byte.begins c.args.dots (begins c.args.dots c.args.bytes.now)
    (drop (c.loop-byte.byte-index + 1) c.args.bytes.now) c.if-begins.false
    (sym (later-yes c.args.dots c.args.bytes.now c.loop-byte.byte-index c.loop-byte-test.true c.if-byte-eq46.false
    (sym c.is_later.ensures ∙ c.if-not-is_later.false))
    ∙ was_later c.loop-byte.begins c.args.dots (begins c.args.dots c.args.bytes.now)
    (drop c.loop-byte.byte-index c.args.bytes.now) c.if-begins.false c.loop-byte.invariant)

pub returns : goal.returns
returns c =
    on_end c.loop-byte.begins c.args.dots c.args.bytes.now c.loop-byte.byte-index
    (begins c.args.dots c.args.bytes.now) c.loop-byte-test.false c.loop-byte.invariant
