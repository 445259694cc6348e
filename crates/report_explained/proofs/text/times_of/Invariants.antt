use Rattle.std.proofs.Common.{◌≡◌, ◌++◌, drop, map}
use Rattle.report_forms.specs.Provenances.{provenance_of, time_at}
use Rattle.report_explained.proofs.text.times_of.Given as goal

-- the times of the clocks that are left still come
abbrev pub invariant-loop-clock : goal.invariant-loop-clock
invariant-loop-clock l =
    let time = time_at (provenance_of l.from) in
    l.times.items ++ map time (drop l.clock-index l.clocks) ≡ map time l.clocks
