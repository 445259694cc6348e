use Rattle.std.proofs.Common.{◌<◌, Err, length, inl, ap, subst, ◌∙◌}
use Rattle.compiler.specs.Slots.{slots_in}
use Rattle.compiler.proofs.Counts.{near-code, code-same, slots-same}
use Rattle.compiler.proofs.program.code_of.Goals as goal

pub sample_code-requires-clause-near : goal.sample_code-requires-clause-near
sample_code-requires-clause-near c =
    near-code c.args.suite.now c.args.assertion.now c.requires.fit c.args.reading.now.signals.items
    c.args.reading.now.counters.items c.requires.reading.is
    c.as_slice.result.now c.as_slice-2.result.now c.as_slice-3.result.now c.as_slice-4.result.now
    c.as_slice.ensures.value c.as_slice-2.ensures.value c.as_slice-3.ensures.value
    (c.as_slice-4.ensures.value ∙ c.requires.reading.counters_at)

pub returns-in-Ok-clause-made : goal.returns-in-Ok-clause-made
returns-in-Ok-clause-made c =
    c.in-Ok.ensures.made
    ∙ code-same c.args.suite.now c.args.assertion.now c.requires.fit c.args.reading.now.signals.items
    c.args.reading.now.counters.items c.requires.reading.is
    c.as_slice.result.now c.as_slice-2.result.now c.as_slice-3.result.now c.as_slice-4.result.now
    c.as_slice.ensures.value c.as_slice-2.ensures.value c.as_slice-3.ensures.value
    (c.as_slice-4.ensures.value ∙ c.requires.reading.counters_at)
    (slots_in c.in_ok-slots.slots)
    (slots-same c.in_ok-slots.slots c.args.reading.now.signals.items c.args.reading.now.counters.items
    c.in_ok-slots.ensures.signals c.in_ok-slots.ensures.counters)

pub returns-in-Err-TooLong-clause-fault : goal.returns-in-Err-TooLong-clause-fault
returns-in-Err-TooLong-clause-fault c =
    inl (subst (λ code. 4096 < length code)
    (code-same c.args.suite.now c.args.assertion.now c.requires.fit c.args.reading.now.signals.items
    c.args.reading.now.counters.items c.requires.reading.is
    c.as_slice.result.now c.as_slice-2.result.now c.as_slice-3.result.now c.as_slice-4.result.now
    c.as_slice.ensures.value c.as_slice-2.ensures.value c.as_slice-3.ensures.value
    (c.as_slice-4.ensures.value ∙ c.requires.reading.counters_at)
    (slots_in c.in_ok-slots.slots)
    (slots-same c.in_ok-slots.slots c.args.reading.now.signals.items c.args.reading.now.counters.items
    c.in_ok-slots.ensures.signals c.in_ok-slots.ensures.counters))
    (c.in-Err-TooLong.ensures.too_long (ap (λ f. Err f) c.in-Err-TooLong.field-0-is)))
