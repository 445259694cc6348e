use Rattle.std.proofs.Common.{List, ℕ, Option, ◌∙◌, sym, ap}
use Rattle.source_files.specs.Globs.{is_empty}
use Rattle.source_files.proofs.GlobLaws.{fits-after, passes_some}
use Rattle.source_files.proofs.globs.is_all.Goals as goal

pub returns-in-None : goal.returns-in-None
returns-in-None c =
    let none = rw c.in-None.is at c.after.ensures in
    ap (λ (o : Option (List ℕ)). passes_some o is_empty) none
    ∙ sym (fits-after c.args.segment.now is_empty c.args.text.now)

pub returns-in-Some : goal.returns-in-Some
returns-in-Some c =
    let some = rw c.in-Some.is at c.after.ensures in
    c.is_over.ensures
    ∙ ap (λ (o : Option (List ℕ)). passes_some o is_empty) some
    ∙ sym (fits-after c.args.segment.now is_empty c.args.text.now)
