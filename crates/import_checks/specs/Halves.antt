-- Two properties that together say what one says: `p and q` after some antecedents, or at some
-- ticks, is `p` after these, and `q` after these.
use Rattle.std.specs.Prelude.{ℕ, Some}
use Rattle.import_elaboration.specs.declared.opener.Parts.{Parts}
use Rattle.import_elaboration.specs.declared.part.Part.{Part}
use Rattle.import_elaboration.specs.declared.part.Part.TheVariants as part
use Rattle.import_elaboration.specs.declared.part.PartId.{PartId}
use Rattle.import_checks.specs.declared.around.Around.{Around}
use Rattle.import_checks.specs.declared.around.Around.TheVariants.{Overlapped, NextTick, Chosen}
use Rattle.import_checks.specs.declared.around.Around.TheVariants.{Later, EachLater}
use Rattle.import_checks.specs.Values.{IsPart}

-- A property that is asked at each of some ticks: r |-> p, r |=> p (16.12.7), if (b) p (16.12.6),
-- nexttime[n] p (16.12.10), always [m:n] p (16.12.11).
abbrev pub around_part : Around → PartId → Part
around_part (Overlapped r) p = part.Implication r p
around_part (NextTick r) p = part.NextImplication r p
around_part (Chosen v) p = part.If v p
around_part (Later n) p = part.Next n p
around_part (EachLater count) p = part.Always (Some count) p

-- The part asks for the other one so.
abbrev pub IsAround : Parts → PartId → Around → PartId → Type 0
IsAround o id around p = IsPart o id (around_part around p)

-- The two parts say together what the first one says.
pub data AreHalves (o : Parts) : PartId → PartId → PartId → Type 0 where
  -- p and q (16.12.5)
  are_sides : {id p q : PartId} → IsPart o id (part.And p q) → AreHalves o id p q
  -- both are asked at the same ticks
  are_inside : {id first second body p q : PartId} (around : Around) → IsAround o id around body
      → IsAround o first around p → IsAround o second around q → AreHalves o body p q
      → AreHalves o id first second
