use Rattle.types.proofs.SameLaws.{says_boolean}
use Rattle.types.proofs.entry.Entry.boolean.Goals as goal

pub returns : goal.returns
returns c =
    record {
      ordered = tt;
      facts = c.boolean.ensures c.args.which;
      same = λ h. rw c.in_ok-leaf.ensures.ok (says_boolean c.args.which);
    }
