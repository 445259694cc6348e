use Rattle.std.proofs.Common.{◌≡◌, ◌++◌, string_bytes}
use Rattle.std.specs.Prelude.{IsUtf8}
use Rattle.diagnostics.specs.Told.{shown_text}
use Rattle.diagnostics.proofs.refusal_text.push_shown.Given as goal

-- what is left to be shown
abbrev pub invariant-loop-character : goal.invariant-loop-character
invariant-loop-character l = record {
  utf8 : IsUtf8 l.character-iterator.rest.now;
  left : string_bytes l.fn.out ++ shown_text l.before l.count l.line
      ≡ string_bytes l.out ++ shown_text l.skipped l.left l.character-iterator.rest.now;
}
