-- What the trees of properties stand for.
use Rattle.import_properties.specs.declared.condition.Condition.{Condition}
use Rattle.import_properties.specs.declared.condition.Condition.TheVariants.{One}
use Rattle.import_properties.specs.declared.sequence.Sequence.{Sequence}
use Rattle.import_properties.specs.declared.sequence.Sequence.TheVariants as form
use Rattle.assertions.specs.Segments.{Seq}
use Rattle.assertions.specs.Written.{Written, boolean, delay, lead, repeat, or, and, intersect}
use Rattle.assertions.specs.Written.{throughout, kernel}

-- the sequence that a tree says, as it is written
abbrev pub written_form : Sequence → Written Condition
written_form (form.Boolean b) = boolean b
written_form (form.Delay' p r least most q s) = delay (written_form r) least most (written_form s)
written_form (form.Lead' least most p s) = lead least most (written_form s)
written_form (form.Repeat' p r least most) = repeat (written_form r) least most
written_form (form.Or' p r q s) = or (written_form r) (written_form s)
written_form (form.And' p r q s) = and (written_form r) (written_form s)
written_form (form.Intersect' p r q s) = intersect (written_form r) (written_form s)
written_form (form.Throughout' b p r) = throughout b (written_form r)

-- the kernel that it stands for
abbrev pub shape : Sequence → Seq Condition
shape s = kernel One (written_form s)
