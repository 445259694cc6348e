use Rattle.std.proofs.Common.{Some, None, ◌∙◌, sym}
use Rattle.source_files.proofs.GlobLaws.{all-plain, all-behind}
use Rattle.source_files.proofs.globs.means.Goals as goal

pub returns-in_default : goal.returns-in_default
returns-in_default c =
    let none = rw c.in_default.is at c.after_star.ensures.rest in
    c.is_all.ensures
    ∙ sym (all-plain c.args.pattern.now c.front_part-segment.result.now c.args.text.now none
    c.front_part-segment.ensures)

pub returns-in_default-after : goal.returns-in_default-after
returns-in_default-after c =
    let some = rw c.in-Some.is at c.after_star.ensures.rest in
    let none = rw c.in_default-after.is at c.after.ensures in
    sym (all-behind c.args.pattern.now c.front_part-segment.result.now c.in-Some.more.now c.args.text.now None some
    c.front_part-segment.ensures none)

pub returns : goal.returns
returns c =
    let some = rw c.in-Some.is at c.after_star.ensures.rest in
    let left = rw c.in-Some-after.is at c.after.ensures in
    c.is_at_end.ensures
    ∙ sym (all-behind c.args.pattern.now c.front_part-segment.result.now c.in-Some.more.now c.args.text.now
    (Some c.in-Some-after.rest.now) some c.front_part-segment.ensures left)
