-- The slots of names.
use Rattle.std.specs.Prelude.{slice_get, unwrap_or}
use Rattle.expressions.specs.declared.name.Origin.TheVariants.{Signal, Counter}
use Rattle.compiler.specs.declared.slot_table.SlotTable.{SlotTable}
use Rattle.compiler.specs.Codes.{Slots}

-- A name that has no slot stands for slot 0.
abbrev pub slots_in : SlotTable → Slots
slots_in table Signal place = unwrap_or (slice_get table.signals.items place) 0
slots_in table Counter place = unwrap_or (slice_get table.counters.items place) 0
