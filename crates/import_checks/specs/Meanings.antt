-- The meaning of a part of an opening, where no value is a local variable or `.triggered`.
use Rattle.std.specs.Prelude.{◌≡◌, ℕ, Bool, true, false, Option}
use Rattle.std.specs.List.{list_any}
use Rattle.import_elaboration.specs.declared.opener.Parts.{Parts}
use Rattle.import_elaboration.specs.declared.part.PartId.{PartId}
use Rattle.import_elaboration.specs.declared.value.Value.{Value}
use Rattle.import_elaboration.specs.declared.value.Value.TheVariants as values
use Rattle.import_properties.specs.declared.condition.Condition.{Condition}
use Rattle.import_properties.specs.Properties.{Form}
use Rattle.import_checks.specs.Properties.{IsProperty}

-- a local variable (16.10), or the end of a sequence (16.13.6)
abbrev pub is_local : Value → Bool
is_local (values.Local n) = true
is_local (values.Triggered p) = true
is_local other = false

abbrev pub has_locals : Parts → Bool
has_locals o = list_any (λ node. is_local node.value) o.values.items

-- A part without these is this property, where the bound stands for what is left open.
abbrev pub IsMeaning : Parts → Option ℕ → PartId → Form Condition → Type 0
IsMeaning o bound id f = has_locals o ≡ false → IsProperty o bound id f
