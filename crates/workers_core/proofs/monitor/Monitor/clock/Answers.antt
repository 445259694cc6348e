use Rattle.std.proofs.Common.{◌≡◌, ◌++◌, List, refl, ap, ◌∙◌, length, arith}
use Rattle.std.proofs.Common.{ℕ, map, subst}
use Rattle.std.proofs.Math.Logic.{∥∥₁_elim}
use Rattle.std.specs.Prelude.{◌+◌, ◌≤◌}
use Rattle.signals.specs.declared.verdict.Decided.{Decided}
use Rattle.bytecode_programs.specs.Values.{SlotData}
use Rattle.machine.specs.Running.{IsOneClock}
use Rattle.machine_batches.proofs.RowLaws.{row-values, values-prop}
use Rattle.workers_core.proofs.PlaceLaws as laws
use Rattle.workers_core.proofs.monitor.Monitor.clock.Goals as goal

pub clock_hinted-requires-clause-row : goal.clock_hinted-requires-clause-row
clock_hinted-requires-clause-row c =
    let row = c.as_slice-row.result.now in
    let widths = map (λ (s : SlotData). s.width) c.args.self.now.machine.program.signals in
    ∥∥₁_elim c.requires.row (values-prop widths row) (λ f.
    row-values f.0 f.2 f.1 row widths (c.as_slice-row.ensures.value ∙ f.3) f.4
    (λ i. (c.type_inv.row i).fits))

pub extend-requires : goal.extend-requires
extend-requires c =
    let old = c.args.self.now in
    let few =
    laws.few old c.as_slice-row.result.now c.clear.new.self.items c.clock_hinted.new.out.items
    c.clock_hinted.new.self c.clock_hinted.ensures.clock c.clear.ensures in
    let same : length c.as_slice.result.now ≡ length c.clock_hinted.new.out.items =
    ap length c.as_slice.ensures.value in
    omega (arith, few, same, c.requires.spare)

pub returns-clause-clock : goal.returns-clause-clock
returns-clause-clock c =
    let old = c.args.self.now in
    let kept = c.extend in
    let row = old.row.items in
    let clock =
    subst (λ (r : List ℕ).
    IsOneClock old.machine r c.clear.new.self.items c.clock_hinted.new.self c.clock_hinted.new.out.items)
    c.as_slice-row.ensures.value c.clock_hinted.ensures.clock in
    laws.one-more old row c.clear.new.self.items c.clock_hinted.new.out.items
    c.clock_hinted.new.self clock c.clear.ensures
    (record {
      machine = c.clock_hinted.new.self;
      from = old.from;
      to = old.to;
      row = old.row;
      attempts = old.attempts;
      since = old.since;
      decided = kept.new.self;
      spare = old.spare;
      wide = _;
    }) refl refl refl refl refl
    (kept.ensures.items
    ∙ ap (λ (ds : List Decided). old.decided.items ++ ds) c.as_slice.ensures.value)
    (subst (λ (ds : List Decided). old.decided.room ≤ kept.new.self.room + length ds)
    c.as_slice.ensures.value kept.ensures.room)
