use Rattle.std.proofs.Common.{◌∙◌, ◌++◌, ap}
use Rattle.std.proofs.lemmas.Result.{on_ok_weaker}
use Rattle.axi4_rules.specs.Texts.{tokens}
use Rattle.axi4_rules.proofs.AddLaws.{one_line}
use Rattle.axi4_rules.proofs.blocks.push_row.Goals as goal

pub returns : goal.returns
returns c =
    on_ok_weaker c.push_line.result
    (λ h. one_line _ (h ∙ ap (λ l. c.args.text.now ++ tokens l) c.in_ok-line.ensures))
    c.push_line.ensures
