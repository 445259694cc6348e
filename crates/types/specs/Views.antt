-- What the trees stand for.
use Rattle.assertions.specs.declared.sequence.Boolean.{Boolean}
use Rattle.assertions.specs.declared.sequence.Boolean.TheVariants.{One, Listed}
use Rattle.types.specs.declared.draft.Draft.{Draft}
use Rattle.types.specs.declared.draft.Draft.TheVariants as form
use Rattle.types.specs.Drafts as drafts
use Rattle.types.specs.Drafts.{boolean, name, delay, lead, repeat, or, and, intersect}
use Rattle.types.specs.Drafts.{throughout}

-- the sequence that a tree stands for, each boolean by its place
abbrev pub draft_of : Draft → drafts.Draft Boolean
draft_of form.One = boolean One
draft_of (form.Boolean p) = boolean (Listed p)
draft_of (form.Name p) = name p
draft_of (form.Delay' q r least extra z s) = delay (draft_of r) least extra (draft_of s)
draft_of (form.Lead' least extra q s) = lead least extra (draft_of s)
draft_of (form.Repeat' q r least extra) = repeat (draft_of r) least extra
draft_of (form.Or' q r z s) = or (draft_of r) (draft_of s)
draft_of (form.And' q r z s) = and (draft_of r) (draft_of s)
draft_of (form.Intersect' q r z s) = intersect (draft_of r) (draft_of s)
draft_of (form.Throughout' p q r) = throughout (Listed p) (draft_of r)
