use Rattle.std.proofs.Common.{◌≡◌, ◌<◌, ℕ, true, length, get_or}
use Rattle.types.specs.declared.draft.Draft.{Draft}
use Rattle.types.specs.Drafts.{uses}
use Rattle.types.specs.Views.{draft_of}
use Rattle.types.specs.Marks.{all_below}
use Rattle.types.proofs.declared.are_declared.Given as goal

abbrev pub invariant-loop-draft : goal.invariant-loop-draft
invariant-loop-draft l =
    (k : ℕ) (d : Draft) → k < l.draft-index → all_below (length l.bodies) (uses (draft_of (get_or l.bodies k d)))
    ≡ true
