use Rattle.std.proofs.Common.{ap, ◌∙◌, option_map}
use Rattle.types_names.specs.declared.width.Width.{Width}
use Rattle.types_names.specs.Views.{widths_of}
use Rattle.types_names.proofs.names.NamesPathWidths.width.Goals as goal

pub returns : goal.returns
unfolding widths_of
returns c = ap (option_map (λ (w : Width). w.bits)) (c.copied.ensures ∙ c.get.ensures.value)
