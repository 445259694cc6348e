use Rattle.std.proofs.Common.{List, ℕ, ◌∙◌, ap}
use Rattle.std.proofs.lemmas.List.{take_rest}
use Rattle.source_files.specs.Globs.{after}
use Rattle.source_files.proofs.GlobLaws.{first-passed}
use Rattle.source_files.proofs.globs.first_after.Goals as goal

pub loop-at-preserved : goal.loop-at-preserved
loop-at-preserved c =
    let q = c.args.segment.now in
    let text = c.args.text.now in
    let at = c.loop-at.at in
    let none = rw c.in_default.is at c.after.ensures in
    c.loop-at.invariant
    ∙ first-passed q text at c.loop-at-test.true (none ∙ ap (λ (t : List ℕ). after q t) (take_rest text at))
