use Rattle.std.proofs.Common.{◌≡◌, ◌<◌, [], ◌∷◌, List, length, map, refl, sym, ap, ◌∙◌, arith}
use Rattle.std.specs.Prelude.{slice_get}
use Rattle.std.proofs.lemmas.List.{map-append}
use Rattle.workers_core.specs.declared.monitor.Monitor.{Monitor}
use Rattle.workers_core.specs.Standing.{monitor_state}
use Rattle.workers_core.specs.Opening.{MonitorPart, IsNew, monitor_part, part_at, opened_monitor}
use Rattle.workers_core.proofs.CorePartLaws.{each-push}
use Rattle.workers_core.proofs.OpeningLaws as laws
use Rattle.workers_core.proofs.opening.monitors_of.Goals as goal

pub loop-verified-init : goal.loop-verified-init
loop-verified-init c =
    let none = c.in_ok-monitors.ensures.items in
    record {
      opened = ap (map monitor_state) none;
      parts = ap (map monitor_part) none;
      from = refl;
      new = λ i m is. absurd (laws.none-there _ i m none is);
    }

pub loop-verified-preserved : goal.loop-verified-preserved
loop-verified-preserved c =
    let i = c.loop-verified.verified-index in
    let ps = c.args.programs.now in
    let p = c.verified-item.result in
    let old = c.loop-verified.monitors.items in
    let inv = c.loop-verified.invariant in
    let m = c.in_ok-monitor.monitor in
    let one = c.in_ok-monitor.ensures in
    let pushed = c.in_ok-push.ensures.items in
    let lt : i < length ps = omega arith in
    let part : monitor_part m ≡ part_at c.loop-verified.from p = one.part in
    let opened : monitor_state m ≡ opened_monitor p = one.opened in
    record {
      opened = ap (map monitor_state) pushed ∙ map-append monitor_state old (m ∷ [])
          ∙ laws.opened-next ps i _ p (map monitor_state old) (monitor_state m) lt
          c.verified-item.is inv.opened opened;
      parts = ap (map monitor_part) pushed ∙ map-append monitor_part old (m ∷ [])
          ∙ laws.parts-next ps i c.loop-verified.from _ p (map monitor_part old) (monitor_part m) lt
          c.verified-item.is inv.from inv.parts part;
      from = laws.signals-next ps i c.loop-verified.from m.to _ p lt c.verified-item.is inv.from
          (ap (λ (q : MonitorPart). q.to) part);
      new = λ n x is.
          each-push IsNew old m inv.new one.new n x
          (sym (ap (λ (ys : List Monitor). slice_get ys n) pushed) ∙ is);
    }
