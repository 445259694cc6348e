use Rattle.std.proofs.Common.{◌≡◌, ◌++◌, string_bytes}
use Rattle.std.specs.Prelude.{IsUtf8}
use Rattle.report_forms.specs.Escapes.{escaped}
use Rattle.report_forms.proofs.escape.push_escaped.Given as goal

-- what is left of the text is still to be written
abbrev pub invariant-loop-character : goal.invariant-loop-character
invariant-loop-character l = record {
  utf8 : IsUtf8 l.character-iterator.rest.now;
  left : string_bytes l.fn.text ++ escaped l.value ≡ string_bytes l.text ++ escaped l.character-iterator.rest.now;
}
