use Rattle.std.proofs.Common.{ap, sym, arith, ◌-◌, ◌+◌}
use Rattle.std.proofs.lemmas.Result.{IfOk-weaker}
use Rattle.assertions.specs.Written.{boolean}
use Rattle.import_properties.specs.Properties.{later, each_later}
use Rattle.import_properties.specs.Shapes.{written_form}
use Rattle.import_rewriting.proofs.SaysLaws.{says_each_once, says_each_more, says_as}
use Rattle.import_rewriting.proofs.make.+each_later.Goals as goal

pub returns-in-Boolean : goal.returns-in-Boolean
returns-in-Boolean t c =
    IfOk-weaker c.held_from.result _ _ (λ b says bound p sb.
    says bound p
    (says_as bound p (written_form c.args.body.now) (boolean c.in-Boolean.boolean) (ap written_form c.in-Boolean.is)
    sb))
    c.held_from.ensures

pub returns-then-least-most : goal.returns-then-least-most
returns-then-least-most t c = λ bound p sb.
    says_each_once bound c.args.least c.args.most p (written_form c.in_ok-here.here.value) c.if-least-most.true
    (c.in_ok-here.ensures bound p
    (says_as bound p (written_form c.args.body.now) (written_form c.in_ok-copy.copy.value) (sym c.in_ok-copy.ensures)
    sb))

pub returns : goal.returns
returns t c =
    let least = c.args.least in
    let most = c.args.most in
    IfOk-weaker c.both.result _ _ (λ b says bound p sb.
    says_each_more bound least most p (written_form b.value) (omega (arith, c.requires, c.if-least-most.false))
    (says bound (later least p) (each_later (least + 1) (most - (least + 1)) p)
    (c.in_ok-here.ensures bound p
    (says_as bound p (written_form c.args.body.now) (written_form c.in_ok-copy.copy.value) (sym c.in_ok-copy.ensures)
    sb))
    (c.in_ok-rest.ensures bound p sb)))
    c.both.ensures
