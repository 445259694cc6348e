use Rattle.std.proofs.Common.{◌∙◌, ap, map, Ok}
use Rattle.cycle_window.specs.Signals.{wanted_of}
use Rattle.workers_core.specs.Wanted.{wanted_in}
use Rattle.workers_core.proofs.StartLaws.{first-window}
use Rattle.workers_core.proofs.opening.window_of.Goals as goal

pub returns-clause-first : goal.returns-clause-first
returns-clause-first c =
    let bound = c.in_ok-columns.ensures in
    let made = c.in_ok-new.ensures in
    let asked = ap (map wanted_of) c.as_slice-2.ensures.value ∙ c.in_ok-signals.ensures
    ∙ ap wanted_in c.as_slice.ensures.value in
    first-window c.args.job.now c.args.size c.in_ok-columns.columns (map wanted_of c.as_slice-2.result.now)
    (Ok c.in_ok-new.field-0) asked bound.places bound.fits bound.dump bound.clock bound.rows made.columns
    made.size made.first made.end made.of
