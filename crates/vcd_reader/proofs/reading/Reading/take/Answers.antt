use Rattle.std.proofs.Common.{◌∙◌, sym, refl, arith}
use Rattle.std.proofs.lemmas.Bool.{ltb-true, ltb-false}
use Rattle.vcd_reader.specs.Readings.{rest_at}
use Rattle.vcd_reader.proofs.BodyLaws.{applied-full}
use Rattle.vcd_reader.proofs.ReadingLaws.{read-skipped, read-same, read-change, read-step, read-fails}
use Rattle.vcd_reader.proofs.reading.Reading.take.Goals as goal

pub returns-then-not-has_room-clause-fault : goal.returns-then-not-has_room-clause-fault
returns-then-not-has_room-clause-fault c = λ declared bytes read item.
    let one = c.args.self.now in
    read-fails _ _ _ _ _ _ _ _ _ _ read _
    ((rw c.in-Changed.is at (item.says one.count one.now))
    ∙ applied-full c.in-Changed.code c.in-Changed.value one.count one.now
    (λ k n. rest_at declared bytes k n c.args.end)
    (ltb-false one.count 4294967295 (sym (c.if-not-has_room.ensures))))

pub returns-clause-reading : goal.returns-clause-reading
returns-clause-reading c = λ declared bytes read item.
    let one = c.args.self.now in
    elim c.match-item.branch [
      | goal.in-Skipped w ↦
          rw w.self-is
          (read-skipped _ _ _ _ _ _ _ _ _ _ read c.args.end item.inside
          (λ k. rw w.in-Skipped.is at (item.says k one.now)))
      | goal.in-Changed+else-not-has_room+in_ok-change-in-Changed+in_ok-push-in-Changed w ↦
          rw w.self-is
          (read-change _ _ _ _ _ _ _ _ _ _ read w.in-Changed.code w.in-Changed.value c.args.end
          w.in_ok-change-in-Changed.change _ w.new_change.new.high.items item.inside
          (ltb-true one.count 4294967295 (sym w.if-not-has_room.ensures))
          (λ k. rw w.in-Changed.is at (item.says k one.now))
          w.in_ok-change-in-Changed.ensures.grows w.new_change.ensures.bound
          w.in_ok-change-in-Changed.ensures.change w.in_ok-push-in-Changed.ensures.items)
      | goal.in-Timed+else-time-self+then-time-self-2+in_ok-changes-in-Timed+in_ok-push-in-Timed w ↦
          rw w.self-is
          (rw w.clear.ensures.items
          (read-step _ _ _ _ _ _ _ _ _ _ read w.in-Timed.time w.in-Timed.from c.args.end _ _ item.inside
          (omega (arith, w.if-time-self.false, w.if-time-self-2.true))
          (λ k. rw w.in-Timed.is at (item.says k one.now)) w.in_ok-push-in-Timed.ensures.items refl
          (w.in_ok-changes-in-Timed.ensures.items ∙ w.deref.ensures.value)))
      | goal.in-Timed+else-time-self+else-time-self-2 w ↦
          rw w.self-is
          (read-same _ _ _ _ _ _ _ _ _ _ read w.in-Timed.time w.in-Timed.from c.args.end item.inside
          w.if-time-self-2.false
          (λ k. rw w.in-Timed.is at (item.says k one.now)))
    ]
