use Rattle.std.proofs.Common.{arith, ap, sym, ◌∙◌}
use Rattle.std.proofs.lemmas.Bool.{false≢true}
use Rattle.compiler.specs.Faults.{has_long_text}
use Rattle.compiler.proofs.Counts.{marked-count}
use Rattle.compiler.proofs.FaultLaws.{slots-first, texts-first}
use Rattle.compiler.proofs.compilation.count_fault.Goals as goal

pub returns-then-slot_count-gt256 : goal.returns-then-slot_count-gt256
returns-then-slot_count-gt256 c =
    let s =
    marked-count c.args.reading.now.signals.items c.args.reading.now.signal_places.items c.requires.signals_at in
    let k =
    marked-count c.args.reading.now.counters.items c.args.reading.now.counter_places.items c.requires.counters_at
    in
    record {
      early = omega arith;
      stands = omega (arith, s, k, c.slot_count.ensures, c.if-slot_count-gt256.true);
      first =
          slots-first c.args.suite.now c.args.assertion.now c.args.reading.now.signals.items
          c.args.reading.now.counters.items
          (omega (arith, c.len.ensures, c.args.assertion.now.booleans.ok.0, c.if-len-gt127.false));
    }

pub returns-then-has_long_text : goal.returns-then-has_long_text
returns-then-has_long_text c =
    let s =
    marked-count c.args.reading.now.signals.items c.args.reading.now.signal_places.items c.requires.signals_at in
    let k =
    marked-count c.args.reading.now.counters.items c.args.reading.now.counter_places.items c.requires.counters_at
    in
    record {
      early = omega arith;
      stands =
          ap (has_long_text c.args.suite.now c.args.assertion.now)
          (sym (c.as_slice.ensures.value ∙ c.requires.signals_at))
          ∙ sym c.if-has_long_text.ensures;
      first =
          texts-first c.args.suite.now c.args.assertion.now c.args.reading.now.signals.items
          c.args.reading.now.counters.items
          (omega (arith, c.len.ensures, c.args.assertion.now.booleans.ok.0, c.if-len-gt127.false))
          (omega (arith, s, k, c.slot_count.ensures, c.if-slot_count-gt256.false));
    }

pub returns : goal.returns
returns c =
    let s =
    marked-count c.args.reading.now.signals.items c.args.reading.now.signal_places.items c.requires.signals_at in
    let k =
    marked-count c.args.reading.now.counters.items c.args.reading.now.counter_places.items c.requires.counters_at
    in
    record {
      atoms = omega (arith, c.len.ensures, c.args.assertion.now.booleans.ok.0, c.if-len-gt127.false);
      slots = omega (arith, s, k, c.slot_count.ensures, c.if-slot_count-gt256.false);
      texts = λ long. false≢true
          (c.if-has_long_text.ensures
          ∙ ap (has_long_text c.args.suite.now c.args.assertion.now) (c.as_slice.ensures.value ∙ c.requires.signals_at)
          ∙ long);
    }
