use Rattle.std.proofs.Common.{map, arith}
use Rattle.lint_notes.specs.Told.{key_of}
use Rattle.lint_notes.proofs.KeyLaws.{idle-heads, idle-lines}
use Rattle.lint_notes.proofs.idle.idle_notes.Goals as goal

pub returns : goal.returns
returns c =
    idle-heads c.args.heads.now c.args.lines.now c.loop-place.place (map key_of c.loop-place.notes.items) (omega arith)
    c.loop-place.invariant

pub returns-then-place-lines : goal.returns-then-place-lines
returns-then-place-lines c =
    idle-lines c.args.heads.now c.args.lines.now c.loop-place.place (map key_of c.loop-place.notes.items)
    (omega arith) c.loop-place.invariant
