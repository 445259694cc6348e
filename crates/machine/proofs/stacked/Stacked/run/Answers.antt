use Rattle.std.proofs.Common.{◌≡◌, ◌+◌, ◌∷◌, ◌++◌, List, ℕ, length, drop, sym, ap, ◌∙◌, subst, arith}
use Rattle.std.proofs.Common.{append-nil, length-append}
use Rattle.std.proofs.lemmas.List.{drop_all}
use Rattle.bytecode_programs.specs.Programs.{data_of}
use Rattle.history_ring.specs.History.{pushed}
use Rattle.machine_sample_code.specs.Memory.{AreRows}
use Rattle.machine_sample_code.proofs.RowLaws.{AreRows-pushed}
use Rattle.machine.proofs.VecLaws.{refilled}
use Rattle.machine.proofs.stacked.Stacked.run.Goals as goal

pub fill_row-requires : goal.fill_row-requires
fill_row-requires c =
    omega (
      arith,
      ap length c.deref_mut.ensures.value,
      c.requires.row,
      c.requires.values.long,
      length-append c.args.signals.now c.args.counters.now,
    )

pub push-requires : goal.push-requires
push-requires c =
    let long = c.fill_row.auto.row ∙ ap length c.deref_mut.ensures.value in
    ap length (c.deref.ensures.value ∙ refilled c.args.self.now.row c.fill_row.new.row long)
    ∙ long ∙ c.requires.row ∙ ap length c.requires.rows.slots ∙ sym c.requires.rows.row

pub run-requires-clause-rows : goal.run-requires-clause-rows
run-requires-clause-rows c =
    let p = data_of c.args.program.now in
    let row = 1 ∷ (c.args.signals.now ++ c.args.counters.now) in
    let n = 1 + length c.args.signals.now + length c.args.counters.now in
    let long = c.fill_row.auto.row ∙ ap length c.deref_mut.ensures.value in
    let none : drop n c.deref_mut.result.now ≡ _ =
    drop_all n c.deref_mut.result.now (omega (
      arith,
      ap length c.deref_mut.ensures.value,
      c.requires.row,
      c.requires.values.long,
      length-append c.args.signals.now c.args.counters.now,
    )) in
    let is =
    c.deref.ensures.value ∙ refilled c.args.self.now.row c.fill_row.new.row long ∙ c.fill_row.ensures
    ∙ ap (λ (l : List ℕ). row ++ l) none ∙ append-nil row in
    subst (AreRows p c.args.widths.now)
    (sym (c.push.ensures ∙ ap (λ (l : List ℕ). pushed c.args.history.now l) is))
    (AreRows-pushed p c.args.widths.now c.args.history.now row c.requires.values c.requires.rows)

pub returns-clause-pushed : goal.returns-clause-pushed
returns-clause-pushed c =
    let row = 1 ∷ (c.args.signals.now ++ c.args.counters.now) in
    let n = 1 + length c.args.signals.now + length c.args.counters.now in
    let long = c.fill_row.auto.row ∙ ap length c.deref_mut.ensures.value in
    let none : drop n c.deref_mut.result.now ≡ _ =
    drop_all n c.deref_mut.result.now (omega (
      arith,
      ap length c.deref_mut.ensures.value,
      c.requires.row,
      c.requires.values.long,
      length-append c.args.signals.now c.args.counters.now,
    )) in
    let is =
    c.deref.ensures.value ∙ refilled c.args.self.now.row c.fill_row.new.row long ∙ c.fill_row.ensures
    ∙ ap (λ (l : List ℕ). row ++ l) none ∙ append-nil row in
    c.push.ensures ∙ ap (λ (l : List ℕ). pushed c.args.history.now l) is
