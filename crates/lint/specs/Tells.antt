-- The text that tells of refusals, and what the command was given and wrote.
use Rattle.std.specs.Prelude.{◌≡◌, ℕ, List, [], ◌++◌, Option, Some, None, length, map, max}
use Rattle.std.specs.Prelude.{slice_get, string_bytes, String, IsOk, IfSome, false}
use Rattle.std.specs.List.{AllZip, flat_map}
use Rattle.std.specs.List.Sorted.{IsPermutation, IsNonDecreasingBy}
use Rattle.std.specs.Io.KnownBytes.{Appends}
use Rattle.std.specs.declared.alloc.Global.{Global}
use Rattle.lexer.specs.Cutting.{tokens_of}
use Rattle.signals.specs.Source.{SourceState}
use Rattle.signals.specs.Sink.{SinkState}
use Rattle.report_lines.specs.declared.write.ReportFault.TheVariants as reports
use Rattle.report_lines.specs.Written.{WhyUnwritten}
use Rattle.source_files.specs.declared.added.Added.{Added}
use Rattle.source_files.specs.declared.part.Part.{Part}
use Rattle.source_files.specs.Chosen.{place_before}
use Rattle.source_files.specs.Parts.{IsSpot}
use Rattle.diagnostics.specs.declared.front.Refusal.{Refusal}
use Rattle.diagnostics.specs.Items.{AreItemEnds}
use Rattle.diagnostics.specs.Told.{refusal_text, total_text}
use Rattle.vcd_reader.specs.Variables.{Declared}
use Rattle.vcd_reader.specs.declared.fault.VcdFault.{VcdFault}
use Rattle.vcd_reader.specs.declared.fault.VcdFault.TheVariants as dumps
use Rattle.vcd_reader.specs.Dump.{Contents, Gave, GaveDump, Stands}
use Rattle.lint.specs.declared.fault.LintFault.{LintFault}
use Rattle.lint.specs.declared.fault.LintFault.TheVariants.{Vcd, Report, Memory}
use Rattle.lint_refusals.specs.Counted.{counted}
use Rattle.lint_refusals.specs.Refused.{IsAccepted}
use Rattle.lint_refusals.specs.Rests.{AreTold, IsLeft}

-- the path and the text of a file, and nothing where there is none
abbrev pub path_of : Option Part → List ℕ
path_of None = []
path_of (Some p) = string_bytes p.path

abbrev pub text_of : Option Part → List ℕ
text_of None = []
text_of (Some p) = string_bytes p.text

-- What is told of a refusal, by the file in which it stands.
pub record IsToldOf (parts : List Part) (added : List Added) (r : Refusal) (piece : List ℕ) :
    Type 0 where
  pub part : ℕ
  pub byte : ℕ
  pub spot : IsSpot parts (place_before added r.at) part byte
  pub is : piece
      ≡ refusal_text (path_of (slice_get parts part)) (text_of (slice_get parts part)) byte
      (string_bytes r.message)

-- a text that grew by what is told of a refusal
pub record AddsTold (parts : List Part) (added : List Added) (r : Refusal) (old new : List ℕ) :
    Type 0 where
  pub piece : List ℕ
  pub told : IsToldOf parts added r piece
  pub is : new ≡ old ++ piece

-- What is told of refusals, one after another.
pub record TellsEach (parts : List Part) (added : List Added) (refusals : List Refusal)
    (text : List ℕ) : Type 0 where
  pub pieces : List (List ℕ)
  pub each : AllZip (IsToldOf parts added) refusals pieces
  pub is : text ≡ flat_map (λ p. p) pieces

-- The text that tells of refusals, in the order of their places, then of notes, and then how many
-- of so many items are refused.
pub record TellsAll (parts : List Part) (added : List Added) (refusals notes : List Refusal)
    (items : ℕ) (text : List ℕ) : Type 0 where
  pub ordered : List Refusal
  pub moved : IsPermutation refusals ordered
  pub rising : IsNonDecreasingBy (λ r. r.at) ordered
  pub front : List ℕ
  pub tells : TellsEach parts added ordered front
  pub after : List ℕ
  pub noted : TellsEach parts added notes after
  pub is : text ≡ (front ++ after) ++ total_text (length refusals) (max items (length refusals))

-- The text tells so many refusals of a text, of which this is left; and then notes. Where it tells
-- none, the text is accepted; what is left is accepted, too, or has no assertion.
pub record TellsRefusals (vs : List Declared) (text : List ℕ) (parts : List Part)
    (added : List Added) (notes : List Refusal) (refused : ℕ) (told : List ℕ)
    (rest : Option (String Global)) : Type 0 where
  pub ends : List ℕ
  pub items : IsOk (tokens_of text) → AreItemEnds text ends
  pub refusals : List Refusal
  pub told_of : AreTold vs ends text (map (λ r. r.at) refusals) rest
  pub many : length refusals ≡ refused
  pub tells : TellsAll parts added refusals notes (counted text ends refusals) told
  pub accepted : refused ≡ 0 → IsAccepted vs text
  pub left : IfSome rest (IsLeft vs text)

-- The source gave a dump, and the sink took the text that tells all refusals of a text over it.
pub record IsLinted (text : List ℕ) (parts : List Part) (added : List Added)
    (source_before source_after : SourceState) (sink_before sink_after : SinkState)
    (refused : ℕ) : Type 0 where
  pub contents : Contents
  pub gave : GaveDump source_before.remaining source_after.remaining contents
  pub told : List ℕ
  pub rest : Option (String Global)
  pub notes : List Refusal
  pub tells : TellsRefusals contents.variables text parts added notes refused told rest
  pub written : Appends sink_before.contents sink_after.contents told
  pub flushed : sink_after.keeps_back ≡ false

-- want of memory is one fault, wherever it came up
abbrev pub vcd_fault : VcdFault → LintFault
vcd_fault dumps.Memory = Memory
vcd_fault e = Vcd e

-- bytes in memory as a source: these are left, and no call failed
abbrev pub held : Option (List ℕ) → SourceState
held left = record { remaining = left; failures = 0 }

-- the fault of a dump stands, whichever source gave these bytes
abbrev pub StandsOver : List ℕ → VcdFault → Type 0
StandsOver bytes e =
    (before after : SourceState) → Gave before.remaining after.remaining bytes
    → after.failures ≡ before.failures → Stands before after e

-- why there is no text to write: the dump's fault stands, or memory ran out and no call failed
abbrev pub WhyNoText : SourceState → SourceState → LintFault → Type 0
WhyNoText before after (Vcd dumps.Memory) = ⊥
WhyNoText before after (Vcd e) = Stands before after e
WhyNoText before after (Report e) = ⊥
WhyNoText before after Memory = after.failures ≡ before.failures

-- why there is no text over these bytes, whichever source gave them
abbrev pub WhyNoTextOver : List ℕ → LintFault → Type 0
WhyNoTextOver bytes e =
    (before after : SourceState) → Gave before.remaining after.remaining bytes
    → after.failures ≡ before.failures → WhyNoText before after e

-- why a text was not written, or not all of it: the sink failed, and holds a beginning of it
abbrev pub WhyTextUnwritten : SinkState → SinkState → List ℕ → LintFault → Type 0
WhyTextUnwritten before after text (Report reports.Write) =
    WhyUnwritten before after text reports.Write
WhyTextUnwritten before after text e = ⊥

-- The source gave a dump, and the sink failed: after what it held, it holds a beginning of the text
-- that tells all refusals of a text over that dump.
pub record IsCutShort (text : List ℕ) (parts : List Part) (added : List Added)
    (source_before source_after : SourceState) (sink_before sink_after : SinkState) :
    Type 0 where
  pub contents : Contents
  pub gave : GaveDump source_before.remaining source_after.remaining contents
  pub refused : ℕ
  pub told : List ℕ
  pub rest : Option (String Global)
  pub notes : List Refusal
  pub tells : TellsRefusals contents.variables text parts added notes refused told rest
  pub reads : source_after.failures ≡ source_before.failures
  pub cut : WhyUnwritten sink_before sink_after told reports.Write

-- Why nothing is told, or not all of it: the sink failed; or there is no text, and nothing was
-- written.
abbrev pub WhyNotLinted : List ℕ → List Part → List Added → SourceState → SourceState
    → SinkState → SinkState → LintFault → Type 0
WhyNotLinted text parts added source_before source_after sink_before sink_after
    (Report reports.Write) =
    IsCutShort text parts added source_before source_after sink_before sink_after
WhyNotLinted text parts added source_before source_after sink_before sink_after
    (Report reports.Memory) = ⊥
WhyNotLinted text parts added source_before source_after sink_before sink_after e =
    WhyNoText source_before source_after e × (sink_after ≡ sink_before)
