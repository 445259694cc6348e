use Rattle.diagnostics.specs.Linted.{refusing}
use Rattle.diagnostics.proofs.LintLaws.{told-none}
use Rattle.diagnostics.proofs.lint_all.lint.Goals as goal

pub returns-in_default-clause-told : goal.returns-in_default-clause-told
returns-in_default-clause-told g c =
    let by =
    refusing (g.F.FrontEnd.refuses c.args.front.now) (g.F.FrontEnd.stands c.args.front.now)
    (g.F.FrontEnd.refuses_alone c.args.front.now c.args.text.now) in
    told-none by c.args.ends.now c.args.text.now c.new-refusals.result.items c.in_ok-left.left
    c.new-refusals.ensures.items c.in_ok-left.ensures.ok
