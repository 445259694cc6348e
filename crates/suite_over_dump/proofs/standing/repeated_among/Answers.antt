use Rattle.std.proofs.Common.{refl, arith}
use Rattle.std.proofs.lemmas.List.Elements.{All-push, All-same}
use Rattle.types.specs.Faults.{byte_of}
use Rattle.suite_over_dump.specs.declared.standing.Standing.{Standing}
use Rattle.suite_over_dump.specs.Standing.{StandsIn, repeated}
use Rattle.suite_over_dump.proofs.standing.repeated_among.Goals as goal

pub loop-place-preserved : goal.loop-place-preserved
loop-place-preserved c =
    let low = c.loop-place.invariant.first in
    let lt = c.loop-place-test.true in
    record {
      all = λ s items written.
          let Stands = λ (one : Standing). StandsIn s items (byte_of one.fault) in
          let all = c.loop-place.invariant.all s items written in
          let again = c.if-not-is_again.ensures refl in
          All-same Stands _ _ c.in_ok-push.ensures.items (All-push Stands c.loop-place.all.items _ all
          (repeated _ _ (written c.loop-place.first _ (omega (arith, low, lt))) (written c.loop-place.place _ lt)
          again.0 again.1 refl));
      first = omega (arith, low);
    }
