use Rattle.std.proofs.Common.{ap, sym, arith, ◌-◌, ◌+◌}
use Rattle.std.proofs.lemmas.Result.{IfOk-weaker}
use Rattle.assertions.specs.Segments as kernel
use Rattle.assertions.specs.Written.{boolean, repeat}
use Rattle.import_properties.specs.Properties.{sequence}
use Rattle.import_properties.specs.Shapes.{written_form}
use Rattle.import_rewriting.proofs.SaysLaws.{says_each_once, says_as, says_held, says_times}
use Rattle.import_rewriting.proofs.make.held_from.Goals as goal

pub returns-then-least-most : goal.returns-then-least-most
returns-then-least-most c =
    IfOk-weaker c.later.result _ _ (λ b says bound p sb.
    says_each_once bound c.args.least c.args.most p (written_form b.value) c.if-least-most.true
    (says bound p
    (says_as bound p (boolean c.args.boolean) (written_form c.in_ok-one.one.value)
    (sym (ap written_form c.in_ok-one.ensures)) sb)))
    c.later.ensures

pub returns : goal.returns
returns c =
    let more = c.args.most - c.args.least in
    let one = written_form c.in_ok-one.one.value in
    let held = sequence (kernel.times (kernel.one c.args.boolean) (more + 1) (more + 1)) in
    IfOk-weaker c.later-2.result _ _ (λ b says bound p sb.
    says_held bound c.args.least more c.args.boolean p (written_form b.value)
    (says bound held
    (says_as bound held (repeat one (more + 1) (more + 1)) (written_form c.in_ok-held.held.value)
    (sym (ap written_form c.in_ok-held.ensures.ok.0))
    (says_times bound (more + 1) c.args.boolean one (ap written_form c.in_ok-one.ensures) (omega arith)
    c.in_ok-held.ensures.ok.1)))
    sb)
    c.later-2.ensures
