-- What stands at a place, by what was found there.
use Rattle.std.proofs.Common.{◌≡◌, ◌∙◌}
use Rattle.import_elaboration.specs.declared.opener.Parts.{Parts}
use Rattle.import_elaboration.specs.declared.part.Part.{Part}
use Rattle.import_elaboration.specs.declared.part.PartId.{PartId}
use Rattle.import_elaboration.specs.declared.value.Value.{Value}
use Rattle.import_elaboration.specs.declared.value.ValueId.{ValueId}
use Rattle.import_checks.specs.Values.{IsPart, IsValue}

pub part_as : (o : Parts) (id : PartId) (x y : Part) → IsPart o id x → x ≡ y → IsPart o id y
part_as o id x y p e = record { node = p.node; stands = p.stands; is = p.is ∙ e }

pub value_as : (o : Parts) (id : ValueId) (x y : Value) → IsValue o id x → x ≡ y → IsValue o id y
value_as o id x y p e = record { node = p.node; stands = p.stands; is = p.is ∙ e }
