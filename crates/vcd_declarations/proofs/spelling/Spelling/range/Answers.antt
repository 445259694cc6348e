use Rattle.std.proofs.Common.{drop, ap, ◌∙◌}
use Rattle.vcd_declarations.specs.Views.{range_in}
use Rattle.vcd_declarations.proofs.TextLaws.{slice-rest}
use Rattle.vcd_declarations.proofs.spelling.Spelling.range.Goals as goal

pub returns : goal.returns
unfolding range_in
returns c =
    slice-rest c.deref.result.now c.args.self.now.end ∙ ap (drop c.args.self.now.end) c.deref.ensures.value
