use Rattle.std.proofs.Common.{◌≡◌, ◌≤◌, true, map, arith}
use Rattle.std.specs.List.{list_all}
use Rattle.cycle_window.specs.Held.{end_in}
use Rattle.workers_core.specs.States.{is_at}
use Rattle.workers_core.specs.Standing.{monitor_state}
use Rattle.workers_core.proofs.PlaceLaws as places
use Rattle.workers_core.proofs.CorePartLaws as laws
use Rattle.workers_core.proofs.ToldLaws as told
use Rattle.workers_core.proofs.core_parts.CoreParts.slide.Goals as goal

pub returns-clause-sound : goal.returns-clause-sound
returns-clause-sound c = λ sound.
    let f = c.args.self.now in
    let v = f.window in
    let w = c.slide.new.self in
    let all : list_all (is_at (end_in v)) (map monitor_state f.monitors.items) ≡ true =
    cc (
      c.if-not-at.false,
      c.are_at-at.ensures,
      c.as_slice-2.ensures.value,
      c.bounds-end.ensures.end,
    ) in
    let longer : end_in v ≤ end_in w =
    omega (
      arith,
      c.slide.ensures.end,
      c.len.ensures,
      c.bounds-end.ensures.end,
      c.if-end-len.false,
    ) in
    record {
      monitors = λ i m is.
          places.stands-slid v w m c.slide.ensures.columns c.slide.ensures.first longer
          (laws.at-each (end_in v) f.monitors.items i m all is) (sound.monitors i m is);
      known = sound.known;
      batches = λ n b m bs ms.
          places.right-slid v w m b c.slide.ensures.columns longer (sound.batches n b m bs ms);
      told = λ i m is. told.slid v w m _ c.slide.ensures.columns (sound.told i m is);
    }
