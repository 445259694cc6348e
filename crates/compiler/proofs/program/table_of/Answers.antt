use Rattle.std.proofs.Common.{◌≡◌, ◌+◌, ap, arith, ◌∙◌}
use Rattle.std.specs.Prelude.{count_by}
use Rattle.assertions.specs.Marks.{is_marked, slots_from}
use Rattle.compiler.specs.Readings.{first_counter}
use Rattle.compiler.proofs.Counts.{marked-count}
use Rattle.compiler.proofs.program.table_of.Goals as goal

pub slots_of-requires : goal.slots_of-requires
slots_of-requires c =
    omega (
      arith,
      ap (count_by is_marked) c.as_slice.ensures.value,
      marked-count c.args.reading.now.signals.items c.args.reading.now.signal_places.items c.requires.signals,
      c.requires.few,
    )

pub slots_of-requires-2 : goal.slots_of-requires-2
slots_of-requires-2 c =
    omega (
      arith,
      c.len.ensures,
      ap (count_by is_marked) c.as_slice-2.ensures.value,
      marked-count c.args.reading.now.counters.items c.args.reading.now.counter_places.items c.requires.counters,
      c.requires.few,
    )

pub returns-clause-counters : goal.returns-clause-counters
returns-clause-counters c =
    let count =
    marked-count c.args.reading.now.signals.items c.args.reading.now.signal_places.items c.requires.signals in
    let first : 1 + c.len.result ≡ first_counter c.args.reading.now.signals.items =
    omega (arith, c.len.ensures, count) in
    c.in_ok-slots_of-2.ensures
    ∙ ap (λ marks. slots_from (1 + c.len.result) marks) c.as_slice-2.ensures.value
    ∙ ap (λ n. slots_from n c.args.reading.now.counters.items) first
