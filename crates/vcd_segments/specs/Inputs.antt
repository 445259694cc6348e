-- What an input that gave no more bytes says of its source (own).
use Rattle.std.specs.Prelude.{◌≡◌}
use Rattle.signals.specs.Source.{SourceState, after_failure}
use Rattle.vcd_segments.specs.declared.input.InputFault.{InputFault}
use Rattle.vcd_segments.specs.declared.input.InputFault.TheVariants.{Memory, Failed}

abbrev pub WhyNotRead : SourceState → SourceState → InputFault → Type 0
WhyNotRead old new Memory = new.failures ≡ old.failures
WhyNotRead old new Failed = new.failures ≡ after_failure old.failures
