use Rattle.std.proofs.Common.{◌∙◌}
use Rattle.vcd_reader.specs.Index.{codes_in}
use Rattle.vcd_reader.specs.Readings.{IsItemAt}
use Rattle.vcd_reader.proofs.ResumedLaws.{resumed-err}
use Rattle.vcd_reader.proofs.ReadingLaws.{read-none, read-fails}
use Rattle.vcd_reader.proofs.reading.Reading.read_to.Goals as goal

pub returns-in_err-item-clause-fault : goal.returns-in_err-item-clause-fault
returns-in_err-item-clause-fault c =
    let i = c.items in
    rw (resumed-err _ _ c.from_residual-in_err-item.ensures.1, ← i.invariant.start, ← i.invariant.first)
    (read-fails _ _ _ _ _ _ _ _ _ _ i.invariant.read _
    (c.in_err-item.ensures.item i.reading.count i.reading.now))

pub items-preserved-in_default-2 : goal.items-preserved-in_default-2
items-preserved-in_default-2 c =
    let i = c.items in
    record {
      read = read-none _ _ _ _ _ _ _ _ _ _ i.invariant.read
          (λ k. rw c.in_default-2.is at (c.in_ok-item.ensures.item k i.reading.now));
      start = i.invariant.start;
      first = i.invariant.first;
    }

pub items-preserved : goal.items-preserved
items-preserved c =
    let i = c.items in
    let high = rw c.in-Some-2.is at c.in_ok-item.ensures.high in
    let at : IsItemAt (codes_in c.args.codes.now.variables.now) c.args.bytes.now i.reading.at c.in-Some-2.item
    c.in-Some-2.end =
    record { inside = high.1; says = λ k n. rw c.in-Some-2.is at (c.in_ok-item.ensures.item k n) } in
    record {
      read = c.in_ok-take-2.ensures.reading (codes_in c.args.codes.now.variables.now) c.args.bytes.now
          i.invariant.read at;
      start = c.in_ok-take-2.ensures.start ∙ i.invariant.start;
      first = c.in_ok-take-2.ensures.first ∙ i.invariant.first;
    }

pub items-preserved-in-Some : goal.items-preserved-in-Some
items-preserved-in-Some c =
    let i = c.items in
    record {
      read = c.in_ok-take.ensures.reading (codes_in c.args.codes.now.variables.now) c.args.bytes.now
          i.invariant.read c.in-Some.ensures.item;
      start = c.in_ok-take.ensures.start ∙ i.invariant.start;
      first = c.in_ok-take.ensures.first ∙ i.invariant.first;
    }
