use Rattle.lint_refusals.proofs.NameLaws.{any-mapped}
use Rattle.lint_refusals.proofs.declared.is_among.Goals as goal

pub loop-name-init : goal.loop-name-init
loop-name-init c = any-mapped c.args.word.now c.args.names.now
