use Rattle.std.proofs.Common.{string_bytes}
use Rattle.cli.proofs.ExplainedLaws.{tells}
use Rattle.cli.proofs.explain.text_over.Goals as goal

pub returns-clause-ok : goal.returns-clause-ok
returns-clause-ok g c = λ k holds.
    let told = c.in_ok-text_of.field-0 in
    tells k c.args.text.now c.args.wanted.now c.in_ok-explained.explained (string_bytes told.text) told.count
    (c.in_ok-explained.ensures.ok k holds) c.in_ok-text_of.ensures
