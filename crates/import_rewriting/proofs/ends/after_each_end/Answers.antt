use Rattle.std.proofs.lemmas.Result.{IfOk-weaker}
use Rattle.import_properties.specs.Shapes.{written_form}
use Rattle.import_rewriting.proofs.EndsLaws.{says_ends}
use Rattle.import_rewriting.proofs.ends.after_each_end.Goals as goal

pub returns : goal.returns
returns c =
    IfOk-weaker c.ends_of.result _ _ (λ b ends.
    says_ends (written_form c.args.antecedent.now) (written_form c.args.consequent.now) (written_form b.value)
    c.requires.fit ends)
    c.ends_of.ensures
