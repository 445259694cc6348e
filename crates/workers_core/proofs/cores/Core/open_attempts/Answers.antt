use Rattle.std.proofs.Common.{
  ◌≡◌,
  ◌<◌,
  List,
  ◌++◌,
  Some,
  length,
  map,
  slice_get,
  sym,
  ap,
  ◌∙◌,
  arith,
}
use Rattle.std.proofs.lemmas.List.{length-map}
use Rattle.signals.specs.declared.verdict.Decided.{Decided}
use Rattle.machine_checked.specs.Runs.{open_ones}
use Rattle.workers_core.specs.States.{MonitorState}
use Rattle.workers_core.specs.Standing.{monitor_state}
use Rattle.workers_core.specs.Values.{CoreValue}
use Rattle.workers_core.proofs.CorePartLaws.{get-some, get-mapped}
use Rattle.workers_core.proofs.FollowLaws.{some-state}
use Rattle.workers_core.proofs.cores.Core.open_attempts.Goals as goal

pub open_starts-requires : goal.open_starts-requires
open_starts-requires c =
    let ms = c.self.inside.parts.monitors.items in
    let number = c.args.monitor in
    let m = c.index.result.now in
    let long : length c.args.self.now.state.monitors ≡ length ms =
    ap (λ (v : CoreValue). length v.state.monitors) (sym c.self.view_is)
    ∙ length-map ms monitor_state in
    let below : number < length ms = omega (arith, c.requires, long) in
    let at : slice_get ms number ≡ Some m =
    get-some ms number m below ∙ ap (λ x. Some x) (sym c.index.ensures) in
    let room = (c.self.invariant.sound.monitors number m at).room in
    let none = ap (λ (xs : List Decided). length xs) c.new-live.ensures in
    omega (arith, room, none)

pub returns : goal.returns
returns c = λ s is.
    let ms = c.self.inside.parts.monitors.items in
    let number = c.args.monitor in
    let m = c.index.result.now in
    let long : length c.args.self.now.state.monitors ≡ length ms =
    ap (λ (v : CoreValue). length v.state.monitors) (sym c.self.view_is)
    ∙ length-map ms monitor_state in
    let below : number < length ms = omega (arith, c.requires, long) in
    let at : slice_get ms number ≡ Some m =
    get-some ms number m below ∙ ap (λ x. Some x) (sym c.index.ensures) in
    let told : slice_get (map monitor_state ms) number ≡ Some s =
    ap (λ (v : CoreValue). slice_get v.state.monitors number) c.self.view_is ∙ is in
    let same : monitor_state m ≡ s =
    some-state (monitor_state m) s (sym (get-mapped monitor_state ms number m at) ∙ told) in
    c.open_starts.ensures
    ∙ ap (λ (xs : List Decided). xs ++ open_ones m.machine.state.standing.attempts)
    c.new-live.ensures
    ∙ ap (λ (x : MonitorState). open_ones x.state.standing.attempts) same
