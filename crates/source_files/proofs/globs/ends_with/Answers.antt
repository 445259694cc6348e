use Rattle.std.proofs.Common.{List, ℕ, ◌-◌, length, ◌∙◌, sym, ap, arith}
use Rattle.std.proofs.lemmas.List.{take_rest}
use Rattle.source_files.specs.Globs.{fits, is_empty}
use Rattle.source_files.proofs.GlobLaws.{ends-short, ends-long}
use Rattle.source_files.proofs.globs.ends_with.Goals as goal

pub returns-then-text-segment : goal.returns-then-text-segment
returns-then-text-segment c = sym (ends-short c.args.segment.now c.args.text.now c.if-text-segment.true)

pub returns : goal.returns
returns c =
    let q = c.args.segment.now in
    let text = c.args.text.now in
    let k = length text - length q in
    c.is_all.ensures
    ∙ ap (λ (t : List ℕ). fits q is_empty t) (take_rest text k)
    ∙ sym (ends-long q text k (omega (arith, c.if-text-segment.false)))
