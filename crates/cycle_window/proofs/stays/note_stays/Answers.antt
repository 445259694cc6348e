use Rattle.std.proofs.Common.{◌-◌, ◌<◌, length, arith}
use Rattle.std.proofs.lemmas.List.{length-set}
use Rattle.cycle_window.specs.Values.{numbers}
use Rattle.cycle_window.proofs.StayLaws.{noted-more}
use Rattle.cycle_window.proofs.stays.note_stays.Goals as goal

pub loop-place-preserved : goal.loop-place-preserved
loop-place-preserved c =
    let old = c.loop-place.invariant in
    let p = c.loop-place.place - 1 in
    let stays = c.loop-place.stays in
    let room : p < length stays = omega (arith, old.inside, old.long, c.requires.room) in
    record {
      inside = omega (arith, old.inside);
      long = omega (arith, length-set stays p c.stay_at-stay.result, old.long);
      noted = noted-more (numbers c.args.values.now) stays p c.stay_at-stay.result room
          (λ i lt inside. old.noted i (omega arith) inside) c.stay_at-stay.ensures;
    }
