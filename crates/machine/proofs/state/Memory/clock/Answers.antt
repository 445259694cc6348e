use Rattle.std.proofs.Common.{◌≡◌, ◌-◌, ◌∷◌, ◌++◌, length, List, map, take, refl, sym, ap, ◌∙◌, subst, arith}
use Rattle.bytecode_programs.specs.Programs.{data_of}
use Rattle.machine_checked.specs.Machine.{with_row}
use Rattle.history_ring.specs.History.{pushed}
use Rattle.machine_sample_code.specs.Memory.{AreRows}
use Rattle.machine_sample_code.specs.Runs.{HasRun}
use Rattle.machine_sample_code.proofs.RowLaws.{AreRows-pushed}
use Rattle.machine.specs.Live.{standing_of, HasAdvanced}
use Rattle.machine.specs.Memory.{state_of}
use Rattle.machine.specs.SampleCode.{newest_rows}
use Rattle.machine.proofs.RowLaws.{whole-row}
use Rattle.std.proofs.Math.ListN.{length-map}
use Rattle.machine_checked.specs.Outcomes.{done}
use Rattle.machine_checked.specs.Values.{AreValues}
use Rattle.machine.specs.Records.{attempt_of}
use Rattle.machine.proofs.VecLaws.{vec-long, refilled}
use Rattle.machine.proofs.MemoryLaws as laws
use Rattle.machine.proofs.state.Memory.clock.Goals as goal

counted : {A B : Type 0} (f : A → B) (xs : List A) → length (map f xs) ≡ length xs
counted f xs = rw length-map refl

pub run-cost-requires-clause-rows : goal.run-cost-requires-clause-rows
run-cost-requires-clause-rows c =
    let p = data_of c.args.program.now in
    subst (λ ws. AreRows p ws (newest_rows p c.args.self.now.code c.args.self.now.history))
    (sym c.as_slice.ensures.value) c.requires.memory.history

pub run-cost-requires-clause-values : goal.run-cost-requires-clause-values
run-cost-requires-clause-values c =
    let p = data_of c.args.program.now in
    let row = 1 ∷ (c.args.signals.now ++ c.args.self.now.counters.items) in
    let here =
    whole-row p c.args.signals.now c.args.self.now.counters.items c.requires.row c.requires.memory.counters in
    subst (λ l. AreValues c.as_slice.result.now (1 ∷ (c.args.signals.now ++ l)))
    (sym c.as_mut_slice-2.ensures.value)
    (subst (λ ws. AreValues ws row) (sym (c.as_slice.ensures.value ∙ c.requires.memory.history.slots)) here)

pub overflow_sub-left : goal.overflow_sub-left
overflow_sub-left c =
    omega (
      arith,
      c.from-budget.ensures,
      laws.within (data_of c.args.program.now) c.requires.accepted c.run-cost.result c.run-cost.ensures.cost,
    )

pub overflow_sub-result : goal.overflow_sub-result
overflow_sub-result c = omega (arith, c.clock.ensures.fewer)

pub returns-clause-memory : goal.returns-clause-memory
returns-clause-memory c =
    let p = data_of c.args.program.now in
    let s = state_of p c.args.self.now in
    let widths = c.args.self.now.frame.slots.items in
    let row = 1 ∷ (c.args.signals.now ++ c.args.self.now.counters.items) in
    let before = newest_rows p c.args.self.now.code c.args.self.now.history in
    let after = newest_rows p c.run-cost.new.self c.run-cost.new.history in
    let pushed-is : after ≡ pushed before row =
    c.run-cost.ensures.pushed
    ∙ ap (λ l. pushed before (1 ∷ (c.args.signals.now ++ l))) c.as_mut_slice-2.ensures.value in
    let is-rows : after.rows ≡ with_row p c.args.signals.now s =
    ap (λ h. h.rows) pushed-is
    ∙ ap (λ d. row ∷ take d before.rows) c.requires.memory.history.depth in
    let budget : c.from-budget.result ≡ p.header.limits.budget = c.from-budget.ensures in
    let ran =
    subst (λ old. HasRun p after.rows old c.run-cost.result c.run-cost.new.atoms
    c.run-cost.new.counters) c.as_mut_slice-2.ensures.value c.run-cost.ensures.ran in
    let atoms-long = c.run-cost.auto.atoms ∙ c.as_mut_slice.ensures.len ∙ vec-long c.args.self.now.atoms in
    let counters-long = c.run-cost.auto.counters ∙ c.as_mut_slice-2.ensures.len ∙ vec-long c.args.self.now.counters in
    let new = standing_of c.clock.new.self.now c.clock.new.self.attempts c.clock.new.self.obligations in
    let on =
    subst (λ b. HasAdvanced p s.standing c.run-cost.new.atoms (b - c.run-cost.result) c.args.out.now.items new
    c.clock.new.left c.clock.new.out.items) budget
    (subst (λ bits. HasAdvanced p s.standing bits (c.from-budget.result - c.run-cost.result) c.args.out.now.items
    new c.clock.new.left c.clock.new.out.items) (c.as_slice-atoms.ensures.value
    ∙ refilled c.args.self.now.atoms c.run-cost.new.atoms atoms-long) c.clock.ensures.advanced) in
    let here =
    whole-row p c.args.signals.now c.args.self.now.counters.items c.requires.row c.requires.memory.counters in
    let rows =
    subst (AreRows p widths) (sym pushed-is)
    (AreRows-pushed p widths before row (subst (λ ws. AreValues ws row) (sym c.requires.memory.history.slots) here)
    c.requires.memory.history) in
    let reached =
    laws.reached-next p c.requires.accepted s c.args.signals.now after.rows is-rows
    c.run-cost.result c.run-cost.new.atoms c.run-cost.new.counters ran c.args.out.now.items new
    c.clock.new.left c.clock.new.out.items on c.requires.memory.reached in
    record {
      bases = c.requires.memory.bases;
      code = c.run-cost.ensures.code;
      history = rows;
      atoms =
          ap length (refilled c.args.self.now.atoms c.run-cost.new.atoms atoms-long) ∙ atoms-long
          ∙ c.requires.memory.atoms;
      counters =
          subst (AreValues p.counters)
          (sym (refilled c.args.self.now.counters c.run-cost.new.counters counters-long)) c.run-cost.ensures.kept;
      pools = c.clock.ensures.pools;
      few = omega (
        arith,
        counted (λ e. attempt_of e.1) c.clock.new.self.attempts.live,
        laws.few-live p c.requires.accepted new reached,
      );
      reached = reached;
      outcomes = c.clock.ensures.outcomes;
    }

pub returns-clause-clock : goal.returns-clause-clock
returns-clause-clock c =
    let p = data_of c.args.program.now in
    let s = state_of p c.args.self.now in
    let widths = c.args.self.now.frame.slots.items in
    let row = 1 ∷ (c.args.signals.now ++ c.args.self.now.counters.items) in
    let before = newest_rows p c.args.self.now.code c.args.self.now.history in
    let after = newest_rows p c.run-cost.new.self c.run-cost.new.history in
    let pushed-is : after ≡ pushed before row =
    c.run-cost.ensures.pushed
    ∙ ap (λ l. pushed before (1 ∷ (c.args.signals.now ++ l))) c.as_mut_slice-2.ensures.value in
    let is-rows : after.rows ≡ with_row p c.args.signals.now s =
    ap (λ h. h.rows) pushed-is
    ∙ ap (λ d. row ∷ take d before.rows) c.requires.memory.history.depth in
    let budget : c.from-budget.result ≡ p.header.limits.budget = c.from-budget.ensures in
    let ran =
    subst (λ old. HasRun p after.rows old c.run-cost.result c.run-cost.new.atoms
    c.run-cost.new.counters) c.as_mut_slice-2.ensures.value c.run-cost.ensures.ran in
    let atoms-long = c.run-cost.auto.atoms ∙ c.as_mut_slice.ensures.len ∙ vec-long c.args.self.now.atoms in
    let counters-long = c.run-cost.auto.counters ∙ c.as_mut_slice-2.ensures.len ∙ vec-long c.args.self.now.counters in
    let new = standing_of c.clock.new.self.now c.clock.new.self.attempts c.clock.new.self.obligations in
    let on =
    subst (λ b. HasAdvanced p s.standing c.run-cost.new.atoms (b - c.run-cost.result) c.args.out.now.items new
    c.clock.new.left c.clock.new.out.items) budget
    (subst (λ bits. HasAdvanced p s.standing bits (c.from-budget.result - c.run-cost.result) c.args.out.now.items
    new c.clock.new.left c.clock.new.out.items) (c.as_slice-atoms.ensures.value
    ∙ refilled c.args.self.now.atoms c.run-cost.new.atoms atoms-long) c.clock.ensures.advanced) in
    record {
      program = refl;
      decided = on.decided;
      left = c.clock.new.left;
      ran = laws.came p c.requires.accepted s c.args.signals.now after.rows is-rows c.run-cost.result
          c.run-cost.new.atoms c.run-cost.new.counters ran c.args.out.now.items new c.clock.new.left
          c.clock.new.out.items on
          ∙ ap (λ cs.
          done (record {
            state = record { standing = new; rows = after.rows; counters = cs };
            decided = on.decided;
          }) c.clock.new.left)
          (sym (refilled c.args.self.now.counters c.run-cost.new.counters counters-long));
      told = on.told;
      spent =
          omega (
            arith,
            c.clock.ensures.fewer,
            budget,
            laws.within p c.requires.accepted c.run-cost.result c.run-cost.ensures.cost,
          );
    }
