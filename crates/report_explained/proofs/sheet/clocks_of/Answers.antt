use Rattle.std.proofs.Common.{◌∙◌, ◌≤◌, ◌-◌, ◌+◌, ℕ, Vec, Global, refl, sym, ap, subst, arith}
use Rattle.report_explained.specs.Shown.{AreShown, is_at_end}
use Rattle.report_explained.proofs.ShownLaws.{shown_none, shown_more, left_out_more, shown_all}
use Rattle.report_explained.proofs.sheet.clocks_of.Goals as goal
use Rattle.report_explained.proofs.sheet.clocks_of.Goals.{then-is_kept+in_ok-push, else-is_kept}

pub loop-clock-init : goal.loop-clock-init
loop-clock-init c =
    let first = c.saturating_sub-first.result in
    shown_none (is_at_end first c.args.read.now.attempt.end) first c.new-clocks.result.items c.new-clocks.ensures.items

pub loop-clock-preserved : goal.loop-clock-preserved
loop-clock-preserved c =
    let first = c.saturating_sub-first.result in
    let clock = c.loop-clock.clock in
    let must = is_at_end first c.args.read.now.attempt.end in
    let above : first ≤ clock = omega (arith, c.loop-clock.auto.clock) in
    let old = c.loop-clock.clocks.items in
    elim c.if-is_kept.branch [
      | then-is_kept+in_ok-push w ↦
          shown_more must first clock old c.if-is_kept.clocks.items above
          (ap (λ (v : Vec ℕ Global). v.items) w.clocks-is ∙ w.in_ok-push.ensures.items) c.loop-clock.invariant
      | else-is_kept w ↦
          subst (λ (v : Vec ℕ Global). AreShown must first (clock + 1 - first) v.items) (sym w.clocks-is)
          (left_out_more must first clock old above (w.if-is_kept.ensures refl)
          c.loop-clock.invariant)
    ]

pub returns : goal.returns
returns c =
    let first = c.saturating_sub-first.result in
    let end = c.args.read.now.attempt.end in
    shown_all first (c.args.read.now.attempt.start - c.args.before) end c.loop-clock.clock c.loop-clock.clocks.items
    c.saturating_sub-first.ensures
    (omega (arith, c.loop-clock-test.false, c.max-last.ensures, c.loop-clock.auto.clock-end))
    c.loop-clock.invariant
