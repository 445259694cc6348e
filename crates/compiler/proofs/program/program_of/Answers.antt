use Rattle.std.proofs.Common.{length, map, arith, ap, ◌∙◌}
use Rattle.assertions.specs.Shapes.{written_form}
use Rattle.bytecode_programs.specs.Views.{data_from}
use Rattle.compiler.specs.Parts.{slot_at, width_at}
use Rattle.compiler.proofs.Counts.{marked-count, listed-more}
use Rattle.compiler.proofs.Fits.{program-fits}
use Rattle.compiler.proofs.program.program_of.Goals as goal

pub code_of-requires-clause-slots : goal.code_of-requires-clause-slots
code_of-requires-clause-slots c =
    omega (
      arith,
      marked-count c.args.reading.now.signals.items c.args.reading.now.signal_places.items
          c.requires.reading.signals_at,
      marked-count c.args.reading.now.counters.items c.args.reading.now.counter_places.items
          c.requires.reading.counters_at,
      c.requires.counted.slots,
    )

pub antecedent_of-requires : goal.antecedent_of-requires
antecedent_of-requires c = record {
  listed =
      listed-more (length c.args.assertion.now.booleans.items) 127 (written_form c.args.assertion.now.antecedent)
      c.requires.counted.atoms c.requires.fit.placed.antecedent;
}

pub side_of-requires-clause-listed : goal.side_of-requires-clause-listed
side_of-requires-clause-listed c =
    listed-more (length c.args.assertion.now.booleans.items) 127 (written_form c.args.assertion.now.consequent)
    c.requires.counted.atoms c.requires.fit.placed.consequent

pub invariant_of-result : goal.invariant_of-result
invariant_of-result c =
    record {
      fits =
          program-fits c.args.suite.now c.args.assertion.now c.requires.fit c.args.reading.now.signals.items
          c.args.reading.now.counters.items c.requires.reading.is
          c.requires.counted
          (data_from c.undeclared_limits.result c.disabling_atom.result c.len.result c.in_ok-from_str.field-0
          c.in_ok-from_str-2.field-0 c.in_ok-signal_slots.field-0
          c.in_ok-counter_widths.field-0 c.in_ok-sample.sample c.in_ok-antecedent.antecedent
          c.in_ok-consequent.consequent)
          (record {
            limits = c.undeclared_limits.ensures;
            disable = c.disabling_atom.ensures;
            atoms = c.len.ensures ∙ c.args.assertion.now.booleans.ok.0;
            name = c.in_ok-from_str.ensures.ok ∙ c.as_str.ensures.value;
            clock = c.in_ok-from_str-2.ensures.ok ∙ c.as_str-2.ensures.value;
            signals_are =
                c.in_ok-signal_slots.ensures
                ∙ ap (λ xs. map (slot_at xs) c.as_slice-2.result.now) c.as_slice.ensures.value
                ∙ ap (map (slot_at c.args.suite.now.names.items))
                (c.as_slice-2.ensures.value ∙ c.requires.reading.signals_at);
            counters_are =
                c.in_ok-counter_widths.ensures
                ∙ ap (λ xs. map (width_at xs) c.as_slice-4.result.now) c.as_slice-3.ensures.value
                ∙ ap (map (width_at c.args.suite.now.counters.items))
                (c.as_slice-4.ensures.value ∙ c.requires.reading.counters_at);
            sample = c.in_ok-sample.ensures.made;
            antecedent = c.in_ok-antecedent.ensures.made;
            consequent = c.in_ok-consequent.ensures.made;
            short_sample = c.in_ok-sample.ensures.short;
            short_antecedent = c.in_ok-antecedent.ensures.short;
            short_consequent = c.in_ok-consequent.ensures.short;
            light_antecedent = c.in_ok-antecedent.ensures.light;
            light_consequent = c.in_ok-consequent.ensures.light;
          });
    }
