use Rattle.std.proofs.Common.{Some, None, ◌∙◌, sym}
use Rattle.source_files.proofs.GlobLaws.{end-plain, end-behind}
use Rattle.source_files.proofs.globs.is_at_end.Goals as goal

pub returns-in_default : goal.returns-in_default
returns-in_default c =
    let none = rw c.in_default.is at c.after_star.ensures.rest in
    c.ends_with.ensures
    ∙ sym (end-plain c.stars.left.now c.front_part-segment.result.now c.stars.rest.now none
    c.front_part-segment.ensures)
    ∙ sym c.stars.invariant

pub returns-in_default-first_after : goal.returns-in_default-first_after
returns-in_default-first_after c =
    let some = rw c.in-Some.is at c.after_star.ensures.rest in
    let none = rw c.in_default-first_after.is at c.first_after.ensures in
    sym (c.stars.invariant
    ∙ end-behind c.stars.left.now c.front_part-segment.result.now c.in-Some.more.now c.stars.rest.now None some
    c.front_part-segment.ensures none)

pub stars-preserved : goal.stars-preserved
stars-preserved c =
    let some = rw c.in-Some.is at c.after_star.ensures.rest in
    let left = rw c.in-Some-first_after.is at c.first_after.ensures in
    c.stars.invariant
    ∙ end-behind c.stars.left.now c.front_part-segment.result.now c.in-Some.more.now c.stars.rest.now
    (Some c.in-Some-first_after.behind.now) some c.front_part-segment.ensures left
