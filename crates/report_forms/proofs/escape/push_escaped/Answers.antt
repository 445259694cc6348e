use Rattle.std.proofs.Common.{◌≡◌, ◌++◌, ◌∙◌, [], List, ℕ, string_bytes, sym, ap, append_assoc, append-nil}
use Rattle.std.specs.Prelude.{encode_utf8_all}
use Rattle.std.proofs.lemmas.List.{nil_from_length}
use Rattle.std.proofs.lemmas.Str.{IsUtf8-past_char}
use Rattle.report_forms.specs.Escapes.{escaped_char, escaped}
use Rattle.report_forms.proofs.EscapeLaws.{escaped-step, escaped-nil}
use Rattle.report_forms.proofs.escape.push_escaped.Goals as goal

pub loop-character-preserved : goal.loop-character-preserved
loop-character-preserved c =
    let before = c.loop-character.character-iterator.rest.now in
    let rest = c.next.new.self.rest.now in
    let one = c.in-Some.character in
    let is = c.in-Some.ensures.steps.0 in
    let piece = encode_utf8_all (escaped_char one) in
    let old = string_bytes c.loop-character.text in
    record {
      utf8 = IsUtf8-past_char before rest one c.loop-character.invariant.utf8 is;
      left = c.loop-character.invariant.left
          ∙ ap (λ (l : List ℕ). old ++ l) (escaped-step before rest one c.loop-character.invariant.utf8 is)
          ∙ sym (append_assoc old piece (escaped rest))
          ∙ ap (λ (l : List ℕ). l ++ escaped rest) (sym c.in_ok-push_char.ensures.is);
    }

pub returns : goal.returns
returns c =
    let rest = c.loop-character.character-iterator.rest.now in
    let text = string_bytes c.loop-character.text in
    let none : rest ≡ [] = nil_from_length rest c.in-None.ensures.steps.0.0 in
    record {
      is = sym (append-nil text) ∙ ap (λ (l : List ℕ). text ++ l) (sym (escaped-nil rest none))
          ∙ sym c.loop-character.invariant.left;
    }
