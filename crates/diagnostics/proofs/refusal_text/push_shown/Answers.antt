use Rattle.std.proofs.Common.{◌≡◌, ◌++◌, ◌∙◌, ◌-◌, zero, suc, [], List, ℕ, string_bytes, sym, ap, ap₂, arith}
use Rattle.std.proofs.Common.{append_assoc, append-nil}
use Rattle.std.specs.Prelude.{encode_utf8}
use Rattle.std.proofs.lemmas.List.{nil_from_length}
use Rattle.std.proofs.lemmas.Str.{IsUtf8-past_char}
use Rattle.diagnostics.specs.Told.{shown_char, shown_text}
use Rattle.diagnostics.proofs.ShownLaws.{shown-skip, shown-push, shown-nil}
use Rattle.diagnostics.proofs.refusal_text.push_shown.Goals as goal

pub loop-character-preserved-then-skipped-gt0 : goal.loop-character-preserved-then-skipped-gt0
loop-character-preserved-then-skipped-gt0 c =
    let before = c.loop-character.character-iterator.rest.now in
    let rest = c.next.new.self.rest.now in
    let is = c.in-Some.ensures.steps.0 in
    let utf8 = c.loop-character.invariant.utf8 in
    let some : c.loop-character.skipped ≡ suc (c.loop-character.skipped - 1) = omega arith in
    record {
      utf8 = IsUtf8-past_char before rest c.in-Some.character utf8 is;
      left = c.loop-character.invariant.left
          ∙ ap (λ (l : List ℕ). string_bytes c.loop-character.out ++ l)
          (ap (λ (n : ℕ). shown_text n c.loop-character.left before) some
          ∙ shown-skip before rest c.in-Some.character (c.loop-character.skipped - 1) c.loop-character.left utf8 is);
    }

pub loop-character-preserved : goal.loop-character-preserved
loop-character-preserved c =
    let before = c.loop-character.character-iterator.rest.now in
    let rest = c.next.new.self.rest.now in
    let one = c.in-Some.character in
    let is = c.in-Some.ensures.steps.0 in
    let utf8 = c.loop-character.invariant.utf8 in
    let left = c.loop-character.left - 1 in
    let none : c.loop-character.skipped ≡ zero = omega arith in
    let some : c.loop-character.left ≡ suc left = omega arith in
    let old = string_bytes c.loop-character.out in
    record {
      utf8 = IsUtf8-past_char before rest one utf8 is;
      left = c.loop-character.invariant.left
          ∙ ap (λ (l : List ℕ). old ++ l)
          (ap₂ (λ (n m : ℕ). shown_text n m before) none some ∙ shown-push before rest one left utf8 is)
          ∙ sym (append_assoc old (encode_utf8 (shown_char one)) (shown_text zero left rest))
          ∙ ap (λ (l : List ℕ). l ++ shown_text zero left rest)
          (ap (λ (x : ℕ). old ++ encode_utf8 x) (sym c.shown_char.ensures) ∙ sym c.in_ok-push.ensures.bytes)
          ∙ ap (λ (n : ℕ). string_bytes c.push.new.self ++ shown_text n left rest) (sym none);
    }

pub returns : goal.returns
returns c =
    let rest = c.loop-character.character-iterator.rest.now in
    let text = string_bytes c.loop-character.out in
    let none : rest ≡ [] = nil_from_length rest c.in-None.ensures.steps.0.0 in
    record {
      is = sym (append-nil text)
          ∙ ap (λ (l : List ℕ). text ++ l)
          (sym (shown-nil rest c.loop-character.skipped c.loop-character.left none))
          ∙ sym c.loop-character.invariant.left;
    }
