use Rattle.std.proofs.Common.{[], ℕ, List, subst}
use Rattle.vcd_reader.specs.declared.step.Change.{Change}
use Rattle.vcd_reader.specs.Readings.{IsRead}
use Rattle.vcd_reader.proofs.ReadingLaws.{read-after}
use Rattle.vcd_reader.proofs.reading.Reading.extended.Goals as goal

pub returns-clause-reading : goal.returns-clause-reading
returns-clause-reading c = λ declared bytes read after.
    let one = c.args.self in
    let other = c.args.other in
    let on = c.requires.follows in
    rw (c.in_ok-append.ensures.items, c.in_ok-append-2.ensures.items)
    (read-after declared bytes one.start one.first one.steps.items one.now one.high.items one.count one.at
    other.steps.items other.now other.changes.items other.high.items other.count other.at on.few
    (subst (λ (cs : List Change). IsRead [] declared bytes one.start one.first one.steps.items one.now cs
    one.high.items one.count one.at) on.blank read)
    (subst (λ (n : ℕ). IsRead one.high.items declared bytes n one.now other.steps.items other.now
    other.changes.items other.high.items other.count other.at) on.start
    (subst (λ (n : ℕ). IsRead one.high.items declared bytes other.start n other.steps.items other.now
    other.changes.items other.high.items other.count other.at) on.first after)))
