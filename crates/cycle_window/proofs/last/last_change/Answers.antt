use Rattle.std.proofs.Common.{◌∙◌, ◌++◌, sym, get_or, take, append_assoc}
use Rattle.std.proofs.lemmas.List.{take_more}
use Rattle.vcd_reader.specs.declared.step.Change.{Change}
use Rattle.cycle_window.proofs.LastLaws.{last_of-here, last_of-elsewhere}
use Rattle.cycle_window.proofs.last.last_change.Goals as goal
use Rattle.cycle_window.proofs.last.last_change.Goals.{then-change-code, else-change-code}

abbrev none : Change
none = record { code = 0; high = 0; low = 0 }

pub loop-change-preserved : goal.loop-change-preserved
loop-change-preserved c = λ earlier h.
    let front = earlier ++ take c.loop-change.change-index c.args.changes.now in
    let item = get_or c.args.changes.now c.loop-change.change-index none in
    rw (
      take_more c.args.changes.now c.loop-change.change-index none c.loop-change-test.true,
      ← append_assoc,
    ) (elim c.if-change-code.branch [
      | then-change-code w ↦
          w.last-is ∙ sym (last_of-here c.args.code front item w.if-change-code.true)
      | else-change-code w ↦
          w.last-is ∙ c.loop-change.invariant earlier h
          ∙ sym (last_of-elsewhere c.args.code front item w.if-change-code.false)
    ])
