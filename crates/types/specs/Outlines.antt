-- Sequences with other booleans in the same places.
use Rattle.assertions.specs.Written as written
use Rattle.assertions.specs.Written.{Written}
use Rattle.types.specs.Drafts.{Draft, boolean, name, delay, lead, repeat, or, and}
use Rattle.types.specs.Drafts.{intersect, throughout}

abbrev pub map_draft : {B C : Type 0} → (B → C) → Draft B → Draft C
map_draft f (boolean b) = boolean (f b)
map_draft f (name p) = name p
map_draft f (delay r least extra s) = delay (map_draft f r) least extra (map_draft f s)
map_draft f (lead least extra s) = lead least extra (map_draft f s)
map_draft f (repeat r least extra) = repeat (map_draft f r) least extra
map_draft f (or r s) = or (map_draft f r) (map_draft f s)
map_draft f (and r s) = and (map_draft f r) (map_draft f s)
map_draft f (intersect r s) = intersect (map_draft f r) (map_draft f s)
map_draft f (throughout b r) = throughout (f b) (map_draft f r)

abbrev pub map_written : {B C : Type 0} → (B → C) → Written B → Written C
map_written f (written.boolean b) = written.boolean (f b)
map_written f (written.delay r least most s) =
    written.delay (map_written f r) least most (map_written f s)
map_written f (written.lead least most s) = written.lead least most (map_written f s)
map_written f (written.repeat r least most) = written.repeat (map_written f r) least most
map_written f (written.or r s) = written.or (map_written f r) (map_written f s)
map_written f (written.and r s) = written.and (map_written f r) (map_written f s)
map_written f (written.intersect r s) = written.intersect (map_written f r) (map_written f s)
map_written f (written.throughout b r) = written.throughout (f b) (map_written f r)
