use Rattle.types.proofs.drafted_assertion.disabling_of.Goals as goal

pub atom-requires-clause-sound : goal.atom-requires-clause-sound
atom-requires-clause-sound c = λ k. rw c.deref.ensures (rw c.in-Some.is at (c.requires.sound k))
