-- Why a report was not written.
use Rattle.std.specs.Prelude.{◌≡◌, ℕ, List}
use Rattle.signals.specs.Source.{after_failure}
use Rattle.signals.specs.Sink.{SinkState, AppendsFront}
use Rattle.report_lines.specs.declared.write.ReportFault.{ReportFault}
use Rattle.report_lines.specs.declared.write.ReportFault.TheVariants.{Write, Memory}

-- what each fault says of what the device holds, and of its failed calls
abbrev pub WhyUnwritten : SinkState → SinkState → List ℕ → ReportFault → Type 0
WhyUnwritten old new text Write =
    (new.failures ≡ after_failure old.failures) × AppendsFront old.contents new.contents text
WhyUnwritten old new text Memory =
    (new.failures ≡ old.failures) × (new.contents ≡ old.contents)
