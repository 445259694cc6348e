use Rattle.std.proofs.Common.{map}
use Rattle.lint_notes.specs.Told.{key_of, first_keys}
use Rattle.lint_notes.proofs.KeyLaws.{three}
use Rattle.lint_notes.proofs.at_tokens.push_first.Goals as goal

pub returns : goal.returns
unfolding first_keys
returns c =
    three (map key_of c.args.notes.now.items) (map key_of c.push_note.new.notes.items)
    (map key_of c.push_note-2.new.notes.items) (map key_of c.push_note-3.new.notes.items) _ _ _ _ _ _
    c.in_ok-push_note.ensures c.in_ok-range_note.ensures c.in_ok-push_note-2.ensures c.in_ok-late_note.ensures
    c.in_ok-push_note-3.ensures c.in_ok-reset_note.ensures
